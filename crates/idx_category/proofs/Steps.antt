-- Walks and layers, a step at a time, as the code takes them.
use Rattle.std.proofs.Common.{◌≡◌, Result, Ok, Err, IfOk, ℕ, zero, suc, ◌+◌, ◌-◌, ◌<◌, List, [], ◌∷◌, ◌++◌, length, Option, Some, None, refl, sym, ap, ◌∙◌, arith}
use Rattle.std.specs.List.{flat_map}
use Rattle.std.specs.Prelude.{◌&&◌, ◌^◌, map, filter}
use Rattle.std.proofs.lemmas.List.Sums.{length-filter}
use Rattle.shop_defs.specs.declared.entity.Entity.TheVariants as E
use Rattle.shop_defs.specs.declared.row.Row.{Row}
use Rattle.shop_defs.specs.declared.table.TheConstants.{REFERENCES}
use Rattle.shop_operations.specs.Parents.{parent_id}
use Rattle.shop_operations.specs.References.{is_entity, is_id, of_version}
use Rattle.shop_rows.specs.Lookups.{count_children}
use Rattle.shop_meanings.specs.Live.{AreOrderly}
use Rattle.shop_meanings.specs.Categories.{above, walk, path, children_of}
use Rattle.shop_meanings.proofs.Paths.{children_are_counted, paths_go_up}
use Rattle.idx_category.specs.Touching.{layers}

-- a walk of no step
pub walk_zero : (up : ℕ → Option ℕ) (n id : ℕ) → n ≡ 0 → walk up n id ≡ []
walk_zero up zero id e = refl
walk_zero up (suc n) id e = absurd (omega arith)

-- a walk from the root
pub walk_root : (up : ℕ → Option ℕ) (n id : ℕ) → up id ≡ None → walk up n id ≡ []
walk_root up zero id e = refl
walk_root up (suc n) id e = rw e refl

-- a walk of a step more
pub walk_step : (up : ℕ → Option ℕ) (n id parent : ℕ) → 0 < n → up id ≡ Some parent → walk up n id ≡ walk up (n - 1) parent ++ parent ∷ []
walk_step up zero id parent l e = absurd (omega arith)
walk_step up (suc n) id parent l e = rw e (ap (λ (m : ℕ). walk up m parent ++ parent ∷ []) (omega arith))

-- no layer more
pub layers_zero : (kids : ℕ → List ℕ) (n : ℕ) (level : List ℕ) → n ≡ 0 → layers kids n level ≡ level
layers_zero kids zero level e = refl
layers_zero kids (suc n) level e = absurd (omega arith)

-- nothing stands below nothing
pub layers_none : (kids : ℕ → List ℕ) (n : ℕ) → layers kids n [] ≡ []
layers_none kids zero = refl
layers_none kids (suc n) = layers_none kids n

-- a layer and those below it
pub layers_step : (kids : ℕ → List ℕ) (n : ℕ) (level : List ℕ) → 0 < n → layers kids n level ≡ level ++ layers kids (n - 1) (flat_map kids level)
layers_step kids zero level l = absurd (omega arith)
layers_step kids (suc n) level l = ap (λ (m : ℕ). level ++ layers kids m (flat_map kids level)) (omega arith)

-- ---- what is counted, and what fits

map_length : {X Y : Type 0} (f : X → Y) (xs : List X) → length (map f xs) ≡ length xs
map_length f [] = refl
map_length f (x ∷ xs) = ap suc (map_length f xs)

-- so many children are counted as there are
pub children_count : (rows : List Row) (id : ℕ) → count_children (of_version 0 rows) E.Category id ≡ length (children_of rows id)
children_count rows id =
    sym (map_length (λ (row : Row). row.key.id) (filter (λ row. is_entity E.Category row.key.entity && is_id (parent_id REFERENCES row) id) (of_version 0 rows))
    ∙ length-filter (λ row. is_entity E.Category row.key.entity && is_id (parent_id REFERENCES row) id) (of_version 0 rows))

-- and few enough
pub children_few : (rows : List Row) → AreOrderly rows → (id : ℕ) → count_children (of_version 0 rows) E.Category id < 2 ^ 32
children_few rows orderly id = let l = (children_are_counted rows).few orderly id in let e = children_count rows id in omega (arith, l, e)

-- a walk of as many steps as a category may have levels is the path
pub as_path : (rows : List Row) → AreOrderly rows → (id : ℕ) (found : List ℕ) → found ≡ [] ++ walk (above rows) 32 id → found ≡ path rows id
as_path rows orderly id found e = e ∙ (paths_go_up rows orderly).enough 32 id (omega arith)

-- what holds of each answer that isn't an error
pub if_ok : {A E : Type 0} (P Q : A → Type 0) (r : Result A E) → ((a : A) → P a → Q a) → IfOk r P → IfOk r Q
if_ok P Q (Ok a) f p = f a p
if_ok P Q (Err e) f p = tt
