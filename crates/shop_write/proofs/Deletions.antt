-- The plan of a delete is that of the operation.
use Rattle.std.proofs.Common.{◌≡◌, Bool, true, List, [], Some, None, Result, Ok, Err, if◌then◌else◌, refl, sym, ap, subst, ◌∙◌}
use Rattle.shop_defs.specs.declared.broken.Broken.TheVariants as B
use Rattle.shop_defs.specs.declared.delta.Delta.{Delta}
use Rattle.shop_defs.specs.declared.op.Op.{Op}
use Rattle.shop_defs.specs.declared.op.OpKind.TheVariants.{Delete}
use Rattle.shop_defs.specs.declared.refused.PlanFault.{PlanFault}
use Rattle.shop_defs.specs.declared.refused.PlanFault.TheVariants as F
use Rattle.shop_defs.specs.declared.refused.Refused.{Refused}
use Rattle.shop_defs.specs.declared.row.Row.{Row}
use Rattle.shop_defs.specs.declared.table.TheConstants.{REFERENCES}
use Rattle.shop_operations.specs.Operations.{place, operated, removed, by_kind}
use Rattle.shop_operations.specs.Upserts.{row_in}
use Rattle.shop_operations.specs.Views.{View}
use Rattle.shop_write.specs.Planning.{Planned, IsPlan}
use Rattle.shop_write.specs.Deleting.{Plans, removal, Misses}

operated_delete : (view : View) (op : Op) (replay : Bool) → op.kind ≡ Delete → operated view op replay ≡ removed view op replay (row_in view.rows (place view op))
unfolding operated
operated_delete view op replay e = ap (by_kind view op replay) e

pub planned_removal : (view : View) (op : Op) (replay : Bool) (row : Row) (result : Result Delta PlanFault) → op.kind ≡ Delete → row_in view.rows (place view op) ≡ Some row → Plans view (removal REFERENCES view.rows (place view op)) result → Planned view op replay result
planned_removal view op replay row result kind look plans = by result plans
  where
    is : operated view op replay ≡ removal REFERENCES view.rows (place view op)
    is = operated_delete view op replay kind ∙ ap (removed view op replay) look

    by : (r : Result Delta PlanFault) → Plans view (removal REFERENCES view.rows (place view op)) r → Planned view op replay r
    by (Ok delta) p = record { rows = is ∙ p.rows; ascends = p.ascends; stand = p.stand; keys = p.keys }
    by (Err F.NoMemory) p = tt
    by (Err (F.Refused refused)) p = (p.0, is ∙ p.1)

pub planned_missing : (view : View) (op : Op) (replay : Bool) (result : Result Delta PlanFault) → op.kind ≡ Delete → row_in view.rows (place view op) ≡ None → Misses (place view op) replay result → Planned view op replay result
planned_missing view op replay result kind look misses = by result misses
  where
    is : operated view op replay ≡ (if replay then Ok view.rows else Err (B.NoSuchRow (place view op)))
    is = operated_delete view op replay kind ∙ ap (removed view op replay) look

    nothing : (changes : List _) → replay ≡ true → changes ≡ [] → IsPlan view op replay changes
    nothing changes again none = rw none (record { rows = is ∙ rw again refl; ascends = tt; stand = tt; keys = tt })

    by : (r : Result Delta PlanFault) → Misses (place view op) replay r → Planned view op replay r
    by (Ok delta) m = nothing delta.changes m.0 m.1
    by (Err F.NoMemory) m = tt
    by (Err (F.Refused refused)) m =
        let e = m.1 in
        let same : ◌≡◌ {A = Refused} refused (record { op = 0; broken = B.NoSuchRow (place view op) }) = cc in
        subst (λ (r : Refused). (r.op ≡ 0) × (operated view op replay ≡ Err r.broken)) (sym same) (refl, is ∙ rw m.0 refl)
