-- What is planned leaves what its words say.
use Rattle.std.proofs.Common.{Bool, Result, Ok, Err}
use Rattle.shop_defs.specs.declared.delta.Delta.{Delta}
use Rattle.shop_defs.specs.declared.op.Op.{Op}
use Rattle.shop_defs.specs.declared.refused.PlanFault.{PlanFault}
use Rattle.shop_operations.specs.Views.{View, change_places}
use Rattle.shop_soundness.proofs.Outcomes.{operations_leave}
use Rattle.shop_write.specs.Planning.{Planned, PlanLeaves}

pub plan_leaves : (view : View) (op : Op) (replay : Bool) (result : Result Delta PlanFault) → Planned view op replay result → PlanLeaves view op replay result
plan_leaves view op replay (Ok delta) plan = operations_leave view op replay (change_places view.rows delta.changes) plan.rows
plan_leaves view op replay (Err fault) plan = tt
