-- The row that an upsert leaves, and what it changes.
use Rattle.std.proofs.Common.{◌≡◌, Bool, true, inl, inr, List, [], ◌∷◌, refl, sym, ap, subst, ◌∙◌, Option, Some, None}
use Rattle.std.specs.Prelude.{unwrap_or}
use Rattle.std.specs.List.{list_all}
use Rattle.std.proofs.lemmas.Bool.{and_parts}
use Rattle.closure.proofs.Members.{all_at, in_map}
use Rattle.shop_defs.specs.declared.broken.Broken.{Broken}
use Rattle.shop_defs.specs.declared.op.Op.{Op}
use Rattle.shop_defs.specs.declared.op.OpKind.TheVariants.{Upsert}
use Rattle.shop_defs.specs.declared.refused.PlanFault.{PlanFault}
use Rattle.shop_defs.specs.declared.refused.PlanFault.TheVariants as F
use Rattle.shop_defs.specs.declared.row.Row.{Row}
use Rattle.shop_defs.specs.Fitting.{op_fits, row_key_fits, parts_fit, given_fits}
use Rattle.shop_defs.specs.Joined.{Change}
use Rattle.shop_defs.specs.Rows.{row_key}
use Rattle.shop_operations.specs.Deletes.{stands_at}
use Rattle.shop_operations.specs.Operations.{place, broken_by, by_kind, unless, operated}
use Rattle.shop_operations.specs.Upserts.{row_in, with_row, bare_row, given_to, left}
use Rattle.shop_operations.specs.Views.{View, IsInPlaceOrder}
use Rattle.shop_write.specs.Planning.{IsOfView, IsPlan, IsPlanFault}
use Rattle.shop_write.specs.Writes.{TakesUpsert, IsWrite}
use Rattle.shop_write.proofs.ParentWalks.{hit}

module _ (view : View) (op : Op) (before : Option Row) (found : before ≡ row_in view.rows (place view op)) (row : Row) (leaves : row ≡ given_to (unwrap_or before (bare_row (place view op))) op) where
  left_is : row ≡ left view.rows (place view op) op
  unfolding left
  left_is = leaves ∙ ap (λ (o : Option Row). given_to (unwrap_or o (bare_row (place view op))) op) found

  key_is : row.key ≡ (unwrap_or before (bare_row (place view op))).key
  key_is = ap (λ (r : Row). r.key) leaves

  -- the written row's key is of its entity's form
  pub is_write : IsInPlaceOrder view.rows → TakesUpsert view op → op_fits op ≡ true → IsWrite view row
  is_write up takes fits = record { in_order = up; keys_fit = takes.formed; formed = ap row_key_fits key_is ∙ by before found }
    where
      by : (o : Option Row) → o ≡ row_in view.rows (place view op) → row_key_fits (unwrap_or o (bare_row (place view op))).key ≡ true
      by None e = (and_parts (parts_fit op.entity op.id op.second) (list_all (given_fits op.entity) op.fields) fits).0
      by (Some old) e = all_at (λ (r : Row). row_key_fits r.key) view.rows old takes.formed (hit (stands_at (place view op)) view.rows old (sym e)).is_in

  of_view : IsOfView view row.key
  of_view = subst (IsOfView view) (sym key_is) (by before found)
    where
      by : (o : Option Row) → o ≡ row_in view.rows (place view op) → IsOfView view (unwrap_or o (bare_row (place view op))).key
      by None e = inl refl
      by (Some old) e = inr (in_map row_key view.rows old (hit (stands_at (place view op)) view.rows old (sym e)).is_in)

  module _ (kind : op.kind ≡ Upsert) (replay : Bool) where
    answer : (found : Option Broken) → found ≡ broken_by view op row → operated view op replay ≡ unless (with_row view.rows row) found
    unfolding operated
    answer found e =
        ap (by_kind view op replay) kind ∙
        (ap (λ (r : Row). unless (with_row view.rows r) (broken_by view op r)) (sym left_is) ∙
        ap (unless (with_row view.rows row)) (sym e))

    pub is_plan : (changes : List Change) → None ≡ broken_by view op row → changes ≡ (row.key, Some row) ∷ [] → IsPlan view op replay changes
    is_plan changes e f = subst (IsPlan view op replay) (sym f) (record { rows = answer None e; ascends = (tt, tt); stand = (refl, tt); keys = (of_view, tt) })

    pub is_fault : (broken : Broken) (fault : PlanFault) → Some broken ≡ broken_by view op row → fault ≡ F.Refused (record { op = 0; broken = broken }) → IsPlanFault view op replay fault
    is_fault broken fault e f = subst (IsPlanFault view op replay) (sym f) (refl, answer (Some broken) e)
