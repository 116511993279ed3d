-- Changes in the order of their keys change what they change one after the other.
use Rattle.std.proofs.Common.{◌≡◌, List, [], ◌∷◌, Option, refl, sym, ap, ◌∙◌}
use Rattle.std.specs.declared.cmp.Ordering.{Ordering}
use Rattle.std.specs.declared.cmp.Ordering.TheVariants.{Less, Equal, Greater}
use Rattle.std.specs.List.{AllByRecursion}
use Rattle.std.specs.Ordering.{match_ordering}
use Rattle.std.proofs.lemmas.List.{append-nil}
use Rattle.keyed.specs.Keyed.{put}
use Rattle.shop_defs.specs.declared.key.Key.{Key}
use Rattle.shop_defs.specs.declared.row.Row.{Row}
use Rattle.shop_defs.specs.Joined.{Change, change_key, add_changes, last_in}
use Rattle.shop_defs.specs.Keys.{key_cmp}
use Rattle.shop_defs.specs.Rows.{row_key, row_at, change_rows, IsInKeyOrder}
use Rattle.shop_defs.proofs.Keys.{key_cmp_total}
use Rattle.shop_defs.proofs.LastChanges.{joined_has_last}
use Rattle.shop_rows.specs.Changing.{row_after, StandsUnderItsKey, StandUnderTheirKeys, HasAscendingKeys}
use Rattle.shop_rows.proofs.ChangedRows.{in_order-change_rows, row_at-change_rows, last_in-ascending}
use Rattle.shop_rows.proofs.SameRows.{same_from_find}

put_all : (P : Change → Type 0) (xs : List Change) (y : Change) → AllByRecursion P xs → P y → AllByRecursion P (put key_cmp change_key xs y)
put_all P [] y all here = (here, tt)
put_all P (x ∷ xs) y all here = by (put_all P xs y all.1 here) (key_cmp (change_key x) (change_key y))
  where
    by : AllByRecursion P (put key_cmp change_key xs y) → (o : Ordering) → AllByRecursion P (match_ordering o (x ∷ put key_cmp change_key xs y) (y ∷ xs) (y ∷ x ∷ xs))
    by more Less = (all.0, more)
    by more Equal = (here, all.1)
    by more Greater = (here, all)

puts_all : (P : Change → Type 0) (ys xs : List Change) → AllByRecursion P xs → AllByRecursion P ys → AllByRecursion P (add_changes xs ys)
puts_all P [] xs all more = all
puts_all P (y ∷ ys) xs all more = puts_all P ys (put key_cmp change_key xs y) (put_all P xs y all more.0) more.1

pub sorted_stand : (changes : List Change) → StandUnderTheirKeys changes → StandUnderTheirKeys (add_changes [] changes)
sorted_stand changes stand = puts_all StandsUnderItsKey changes [] tt stand

pub sorted_rows : (rows : List Row) (changes : List Change) → IsInKeyOrder rows → StandUnderTheirKeys changes → HasAscendingKeys (add_changes [] changes) → change_rows rows (add_changes [] changes) ≡ change_rows rows changes
sorted_rows rows changes up stand ascend =
    same_from_find key_cmp row_key key_cmp_total _ _ (in_order-change_rows (add_changes [] changes) rows up) (in_order-change_rows changes rows up)
    (λ key. row_at-change_rows (add_changes [] changes) rows up (sorted_stand changes stand) key
    ∙ (ap (λ (change : Option Change). row_after change (row_at rows key))
    (last_in-ascending (add_changes [] changes) key ascend ∙ (joined_has_last (record { changes = changes } ∷ []) key ∙ ap (λ (all : List Change). last_in all key) (append-nil changes)))
    ∙ sym (row_at-change_rows changes rows up stand key)))
