-- Two deltas made one change what they change one after the other.
use Rattle.std.proofs.Common.{◌≡◌, List, [], ◌∷◌, ◌++◌, refl, sym, ap, ◌∙◌}
use Rattle.std.specs.List.{AllByRecursion}
use Rattle.std.proofs.lemmas.List.{append-nil}
use Rattle.shop_defs.specs.declared.delta.Delta.{Delta}
use Rattle.shop_defs.specs.declared.row.Row.{Row}
use Rattle.shop_defs.specs.Joined.{Change, change_key, joined}
use Rattle.shop_defs.specs.Keys.{key_cmp}
use Rattle.shop_defs.specs.Rows.{row_key, row_at, change_row, change_rows, IsInKeyOrder}
use Rattle.shop_defs.proofs.Keys.{key_cmp_total}
use Rattle.shop_defs.proofs.LastChanges.{joined_has_last}
use Rattle.shop_rows.specs.Changing.{row_after, StandsUnderItsKey, StandUnderTheirKeys, HasAscendingKeys}
use Rattle.shop_rows.proofs.ChangedRows.{in_order-change_rows, row_at-change_rows, last_in-ascending}
use Rattle.shop_write.proofs.InOrder.{all_puts, same_from_find}

change_append : (changes more : List Change) (rows : List Row) → change_rows rows (changes ++ more) ≡ change_rows (change_rows rows changes) more
change_append [] more rows = refl
change_append (change ∷ changes) more rows = change_append changes more (change_row rows change.0 change.1)

all_append : (P : Change → Type 0) (xs ys : List Change) → AllByRecursion P xs → AllByRecursion P ys → AllByRecursion P (xs ++ ys)
all_append P [] ys all more = more
all_append P (x ∷ xs) ys all more = (all.0, all_append P xs ys all.1 more)

module _ (rows : List Row) (first second : Delta) (up : IsInKeyOrder rows) (stand : StandUnderTheirKeys first.changes) (stand_too : StandUnderTheirKeys second.changes) where
  pub joined_stand : StandUnderTheirKeys (joined (first ∷ second ∷ []))
  joined_stand = all_puts key_cmp change_key key_cmp_total StandsUnderItsKey second.changes _ (all_puts key_cmp change_key key_cmp_total StandsUnderItsKey first.changes [] tt stand) stand_too

  all_stand : StandUnderTheirKeys (first.changes ++ (second.changes ++ []))
  all_stand = all_append StandsUnderItsKey first.changes (second.changes ++ []) stand (all_append StandsUnderItsKey second.changes [] stand_too tt)

  pub joined_rows : HasAscendingKeys (joined (first ∷ second ∷ [])) → change_rows rows (joined (first ∷ second ∷ [])) ≡ change_rows (change_rows rows first.changes) second.changes
  joined_rows ascends =
      same_from_find key_cmp row_key key_cmp_total _ _ (in_order-change_rows (joined (first ∷ second ∷ [])) rows up) (in_order-change_rows (first.changes ++ (second.changes ++ [])) rows up)
      (λ key. row_at-change_rows (joined (first ∷ second ∷ [])) rows up joined_stand key
      ∙ (ap (λ change. row_after change (row_at rows key)) (last_in-ascending (joined (first ∷ second ∷ [])) key ascends ∙ joined_has_last (first ∷ second ∷ []) key)
      ∙ sym (row_at-change_rows (first.changes ++ (second.changes ++ [])) rows up all_stand key)))
      ∙ (change_append first.changes (second.changes ++ []) rows ∙ ap (change_rows (change_rows rows first.changes)) (append-nil second.changes))
