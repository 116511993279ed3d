-- What is taken out is gone.
use Rattle.std.proofs.Common.{◌≡◌, ℕ, subst, Bool, true, false, List, [], ◌∷◌, refl, sym, ap, ◌∙◌, Option, Some, None, not, Ok}
use Rattle.std.specs.Prelude.{filter, map, is_some}
use Rattle.shop_defs.specs.declared.broken.Broken.TheVariants as B
use Rattle.shop_defs.specs.declared.refused.PlanFault.{PlanFault}
use Rattle.shop_defs.specs.declared.refused.PlanFault.TheVariants as F
use Rattle.shop_defs.specs.declared.row.Row.{Row}
use Rattle.shop_defs.specs.Joined.{Change}
use Rattle.shop_defs.specs.Keys.{key_cmp}
use Rattle.shop_defs.specs.Rows.{row_key, row_at, change_rows, IsInKeyOrder}
use Rattle.shop_defs.proofs.Keys.{key_cmp_total}
use Rattle.shop_rows.specs.Changing.{HasAscendingKeys, StandUnderTheirKeys}
use Rattle.shop_rows.proofs.ChangedRows.{in_order-change_rows}
use Rattle.shop_drafts.specs.Drafts.{draft_key}
use Rattle.shop_drafts.specs.Making.{is_of_draft, dropped, drop_draft}
use Rattle.shop_write.specs.Growth.{taken_out, left_by}
use Rattle.shop_write.proofs.Growths.{changes_ascend, changes_stand, row_at-changes}
use Rattle.shop_write.proofs.InOrder.{guard, ascends_filter, find_filter, same_from_find}
use Rattle.shop_version.specs.Plans.{IsPlanOf, IsFaultOf}
use Rattle.shop_version.specs.Taking.{take_out}

-- the rows at the keys of rows are taken out
pub taken_keys : (rows : List Row) → map take_out (map row_key rows) ≡ map taken_out rows
taken_keys [] = refl
taken_keys (row ∷ rows) = ap (λ changes. taken_out row ∷ changes) (taken_keys rows)

module _ (p : Row → Bool) (rows : List Row) (up : IsInKeyOrder rows) where
  lost_up : IsInKeyOrder (filter p rows)
  lost_up = ascends_filter key_cmp row_key key_cmp_total p rows up

  pub taken_ascend : HasAscendingKeys (map taken_out (filter p rows))
  taken_ascend = changes_ascend (filter p rows) [] lost_up tt

  pub taken_stand : StandUnderTheirKeys (map taken_out (filter p rows))
  taken_stand = changes_stand (filter p rows) [] lost_up tt

  pub without_lost : change_rows rows (map taken_out (filter p rows)) ≡ filter (λ row. not (p row)) rows
  without_lost =
      same_from_find key_cmp row_key key_cmp_total _ _ (in_order-change_rows (map taken_out (filter p rows)) rows up)
      (ascends_filter key_cmp row_key key_cmp_total (λ row. not (p row)) rows up)
      (λ key. row_at-changes (filter p rows) [] lost_up tt rows key up
      ∙ (ap (λ (found : Option Row). left_by (row_at rows key) found None) (find_filter key_cmp row_key key_cmp_total p rows key up)
      ∙ (by (row_at rows key) ∙ sym (find_filter key_cmp row_key key_cmp_total (λ row. not (p row)) rows key up))))
    where
      each : (row : Row) (b : Bool) → p row ≡ b → left_by (Some row) (guard p (Some row)) None ≡ guard (λ row. not (p row)) (Some row)
      each row true e = rw e refl
      each row false e = rw e refl

      by : (found : Option Row) → left_by found (guard p found) None ≡ guard (λ row. not (p row)) found
      by None = refl
      by (Some row) = each row (p row) refl

-- ---- a draft is dropped

pub drop_plan : (rows : List Row) (version : ℕ) (draft : Row) (changes : List Change) → IsInKeyOrder rows → row_at rows (draft_key version) ≡ Some draft → changes ≡ map taken_out (filter (is_of_draft version) rows) → IsPlanOf rows (drop_draft rows version) changes
unfolding drop_draft dropped
drop_plan rows version draft changes up there e = subst (IsPlanOf rows (drop_draft rows version)) (sym e) (record {
  rows = rw (ap is_some there) (ap Ok (sym (without_lost (is_of_draft version) rows up)));
  ascends = taken_ascend (is_of_draft version) rows up;
  stand = taken_stand (is_of_draft version) rows up;
})

pub drop_fault : (rows : List Row) (version : ℕ) (fault : PlanFault) → row_at rows (draft_key version) ≡ None → fault ≡ F.Refused (record { op = 0; broken = B.NoSuchVersion version }) → IsFaultOf (drop_draft rows version) fault
unfolding drop_draft
drop_fault rows version fault none e = subst (IsFaultOf (drop_draft rows version)) (sym e) (refl, rw none refl)
