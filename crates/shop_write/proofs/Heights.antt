-- The ways up from rows among a view's rows, with the written row and before.
use Rattle.std.proofs.Common.{◌≡◌, ℕ, zero, suc, ◌<◌, ◌≤◌, true, false, ◌⊎◌, inl, inr, List, length, refl, ap, subst, Option, Some, None, arith}
use Rattle.std.proofs.lemmas.Bool.{both_ways}
use Rattle.shop_defs.specs.declared.row.Row.{Row}
use Rattle.shop_defs.specs.declared.table.Reference.{Reference}
use Rattle.shop_defs.specs.Rows.{row_key}
use Rattle.shop_operations.specs.Deletes.{stands_at}
use Rattle.shop_operations.specs.Parents.{parent_row, walk}
use Rattle.shop_operations.specs.Upserts.{place_cmp, with_row}
use Rattle.shop_operations.specs.Views.{View}
use Rattle.closure.specs.Closure.{IsIn}
use Rattle.shop_write.specs.Writes.{IsWrite}
use Rattle.shop_write.proofs.WrittenRows.{put_of, stands_itself}

-- a way up that has ended is no longer with more steps
pub walk_ended : (table : List Reference) (rows : List Row) (n m : ℕ) (at : Option Row) → length (walk table rows n at) < n → n ≤ m → length (walk table rows m at) ≡ length (walk table rows n at)
walk_ended table rows zero m at l h = absurd (omega (arith, l))
walk_ended table rows (suc n) zero at l h = absurd (omega (arith, h))
walk_ended table rows (suc n) (suc m) None l h = refl
walk_ended table rows (suc n) (suc m) (Some row) l h = ap (λ k. suc k) (walk_ended table rows n m (parent_row table rows row) (omega (arith, l)) (omega (arith, h)))

module _ (view : View) (row : Row) (w : IsWrite view row) where
  -- a row that isn't at the written one's place is one of the view's
  pub old_row : (x : Row) → IsIn x (with_row view.rows row) → stands_at row.key x ≡ false → IsIn x view.rows
  old_row x i n = by (put_of place_cmp row_key view.rows row x i)
    where
      by : (row ≡ x) ⊎ IsIn x view.rows → IsIn x view.rows
      by (inl e) = absurd (both_ways (stands_at row.key x) n (subst (λ (r : Row). stands_at row.key r ≡ true) e (stands_itself row)))
      by (inr j) = j
