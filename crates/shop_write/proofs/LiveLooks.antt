-- What is looked up in rows, as a look-up in the live rows.
use Rattle.std.proofs.Common.{◌≡◌, Bool, true, false, not, List, [], ◌∷◌, length, refl, ap, arith}
use Rattle.std.specs.Prelude.{◌&&◌, filter}
use Rattle.std.proofs.lemmas.List.Sums.{length-filter}
use Rattle.std.proofs.lemmas.List.Filters.{length-filter_both}
use Rattle.shop_defs.specs.declared.entity.Entity.{Entity}
use Rattle.shop_defs.specs.declared.row.Row.{Row}
use Rattle.shop_operations.specs.References.{is_entity, is_live, live}
use Rattle.shop_operations.specs.Upserts.{is_twin, count_of}
use Rattle.shop_operations.specs.Views.{count_hidden}
use Rattle.shop_rows.specs.Lookups.{twins, count_rows}
use Rattle.shop_write.specs.Growth.{at_live}
use Rattle.shop_write.specs.Seen.{twin_keys}
use Rattle.shop_write.proofs.Growths.{filter_swap}

-- of two tests one after the other, both hold
pub filter_both : {X : Type 0} (p q : X → Bool) (xs : List X) → filter q (filter p xs) ≡ filter (λ x. p x && q x) xs
filter_both p q [] = refl
filter_both {X} p q (x ∷ xs) = by (filter_both p q xs) (p x) refl (q x) refl
  where
    by : filter q (filter p xs) ≡ filter (λ y. p y && q y) xs → (b : Bool) → p x ≡ b → (c : Bool) → q x ≡ c → filter q (filter p (x ∷ xs)) ≡ filter (λ y. p y && q y) (x ∷ xs)
    by more true e true f = rw (e, f) (ap (λ ys. x ∷ ys) more)
    by more true e false f = rw (e, f) more
    by more false e c f = rw e more

-- the rows of an entity are live or hidden
pub count_of-live : (rows : List Row) (entity : Entity) → count_rows rows entity ≡ count_of (count_hidden rows) (live rows) entity
count_of-live rows entity =
    let shown = ap length (filter_swap is_live of_entity rows) in
    let hidden = ap length (filter_both of_entity is_hidden rows) in
    let parts = length-filter_both is_live is_hidden (λ row. refl) (filter of_entity rows) in
    omega (arith, length-filter of_entity rows, length-filter of_entity (live rows), length-filter (λ row. of_entity row && is_hidden row) rows)
  where
    of_entity : Row → Bool
    of_entity row = is_entity entity row.key.entity

    is_hidden : Row → Bool
    is_hidden row = not (is_live row)

-- the twins of a row are those of the same row at the live version
pub twins-at_live : (rows : List Row) (row : Row) → twins rows (record { key = at_live row.key; fields = row.fields; ops = [] }) ≡ twin_keys (live rows) row
unfolding is_twin
twins-at_live rows row = refl
