-- One step up from a row.
use Rattle.std.proofs.Common.{◌≡◌, ℕ, zero, suc, ◌-◌, ◌<◌, nat_le, List, length, Some, sym, ap, ◌∙◌, arith}
use Rattle.std.proofs.lemmas.Bool.Decides.{nat_tests}
use Rattle.shop_defs.specs.declared.row.Row.{Row}
use Rattle.shop_defs.specs.declared.table.Reference.{Reference}
use Rattle.shop_operations.specs.Parents.{parent_row, walk, is_past}

one_less : (n m : ℕ) → nat_le (suc n) (suc m) ≡ nat_le n m
one_less n m = grind (arith, nat_tests)

-- a row is past a level where its parent is past the one above
pub past_parent : (table : List Reference) (rows : List Row) (level : ℕ) (row parent : Row) → 0 < level → parent_row table rows row ≡ Some parent → is_past table rows (level - 1) parent ≡ is_past table rows level row
past_parent table rows zero row parent l e = absurd (omega arith)
past_parent table rows (suc n) row parent l e =
    let less : suc n - 1 ≡ n = omega arith in
    ap (λ k. is_past table rows k parent) less
    ∙ (sym (one_less n (length (walk table rows n (parent_row table rows parent))))
    ∙ ap (λ at. nat_le (suc n) (length (walk table rows (suc n) at))) (sym e))
