-- The laws of paths, of children and of what is answered.
use Rattle.std.proofs.Common.{◌≡◌, ℕ, suc, ◌≤◌, ◌<◌, ◌+◌, Bool, true, false, ◌&&◌, List, [], ◌∷◌, ◌++◌, length, Option, Some, refl, sym, ap, subst, ◌∙◌, arith}
use Rattle.std.specs.Prelude.{filter, map, count_by, Result}
use Rattle.std.specs.Option.{option_map}
use Rattle.std.proofs.lemmas.Bool.{and_parts}
use Rattle.std.proofs.lemmas.List.Sums.{length-filter}
use Rattle.shop_defs.specs.declared.entity.Entity.TheVariants as E
use Rattle.shop_defs.specs.declared.row.Row.{Row}
use Rattle.shop_defs.specs.declared.table.TheConstants.{REFERENCES, MOST_ROWS}
use Rattle.shop_operations.specs.Parents.{parent_id}
use Rattle.shop_operations.specs.References.{is_entity, is_id, is_live, of_version, live}
use Rattle.shop_soundness.proofs.Lists.{count_under}
use Rattle.shop_meanings.specs.Live.{live_key, live_rows, AreOrderly}
use Rattle.shop_meanings.specs.Categories.{above, walk, path, children_of, standing_of}
use Rattle.shop_meanings.specs.Laws.{PathsOfAllGoUp, ChildrenOfAllAreCounted}
use Rattle.shop_meanings.proofs.Levels.{most_levels, enough, low_all, all_live}
use Rattle.shop_meanings.proofs.Walks.{walk_root, walk_step, walk_from_root}

-- ---- paths

pub paths_go_up : PathsOfAllGoUp
paths_go_up rows orderly = record {
  root = λ id e. walk_root (above rows) (length (live_rows rows E.Category)) id e;
  below = below;
  from_root = λ id first rest e. walk_from_root (above rows) most_levels id first rest (low_all rows orderly id) (as_most id ∙ e);
  live = λ id. all_live rows orderly (length (live_rows rows E.Category)) id;
  low = λ id. subst (λ (ups : List ℕ). length ups < most_levels) (as_most id) (low_all rows orderly id);
  enough = enough rows orderly;
}
  where
    as_most : (id : ℕ) → walk (above rows) most_levels id ≡ path rows id
    as_most id = enough rows orderly most_levels id (omega arith)

    below : (id parent : ℕ) → above rows id ≡ Some parent → path rows id ≡ path rows parent ++ parent ∷ []
    below id parent e = by 31 (omega arith)
      where
        by : (n : ℕ) → 31 ≤ n → path rows id ≡ path rows parent ++ parent ∷ []
        by n l =
            sym (enough rows orderly (suc n) id (omega (arith, l)))
            ∙ (walk_step (above rows) n id parent e ∙ ap (λ (ups : List ℕ). ups ++ parent ∷ []) (enough rows orderly n parent l))

-- ---- children

map_length : {X Y : Type 0} (f : X → Y) (xs : List X) → length (map f xs) ≡ length xs
map_length f [] = refl
map_length f (x ∷ xs) = ap suc (map_length f xs)

-- what passes both tests of what passes the first
two_filters : (id : ℕ) (rows : List Row) → filter (λ row. is_entity E.Category row.key.entity && is_id (parent_id REFERENCES row) id) (of_version 0 rows) ≡ filter (λ row. is_id (parent_id REFERENCES row) id) (live_rows rows E.Category)
two_filters id [] = refl
two_filters id (row ∷ rows) = by (two_filters id rows) (is_live row) (is_entity E.Category row.key.entity) (is_id (parent_id REFERENCES row) id) refl refl refl
  where
    by : filter (λ r. is_entity E.Category r.key.entity && is_id (parent_id REFERENCES r) id) (of_version 0 rows) ≡ filter (λ r. is_id (parent_id REFERENCES r) id) (live_rows rows E.Category) → (a b c : Bool) → is_live row ≡ a → is_entity E.Category row.key.entity ≡ b → is_id (parent_id REFERENCES row) id ≡ c → filter (λ r. is_entity E.Category r.key.entity && is_id (parent_id REFERENCES r) id) (of_version 0 (row ∷ rows)) ≡ filter (λ r. is_id (parent_id REFERENCES r) id) (live_rows (row ∷ rows) E.Category)
    by more false b c e f g = rw e more
    by more true false c e f g = rw (e, f) more
    by more true true false e f g = rw (e, f, g) more
    by more true true true e f g = rw (e, f, g) (ap (λ (rest : List Row). row ∷ rest) more)

counted : (rows : List Row) (id : ℕ) → length (children_of rows id) ≡ count_by (λ row. is_id (parent_id REFERENCES row) id) (live_rows rows E.Category)
counted rows id =
    map_length (λ (row : Row). row.key.id) (filter (λ row. is_entity E.Category row.key.entity && is_id (parent_id REFERENCES row) id) (of_version 0 rows))
    ∙ (ap length (two_filters id rows) ∙ length-filter (λ row. is_id (parent_id REFERENCES row) id) (live_rows rows E.Category))

few : (rows : List Row) → AreOrderly rows → (id : ℕ) → length (children_of rows id) ≤ MOST_ROWS
few rows orderly id =
    let all = orderly.coherent.bounded E.Category in
    let same : length (children_of rows id) ≡ count_by (λ row. is_entity E.Category row.key.entity && is_id (parent_id REFERENCES row) id) (of_version 0 rows) = map_length (λ (row : Row). row.key.id) (filter (λ row. is_entity E.Category row.key.entity && is_id (parent_id REFERENCES row) id) (of_version 0 rows)) ∙ length-filter (λ row. is_entity E.Category row.key.entity && is_id (parent_id REFERENCES row) id) (of_version 0 rows) in
    let some = count_under (λ row. is_entity E.Category row.key.entity && is_id (parent_id REFERENCES row) id) (λ row. is_entity E.Category row.key.entity) (live rows) (λ row i p. (and_parts (is_entity E.Category row.key.entity) (is_id (parent_id REFERENCES row) id) p).0) in
    omega (arith, same, some, all)

pub children_are_counted : ChildrenOfAllAreCounted
children_are_counted rows = record { count = counted rows; few = few rows }
