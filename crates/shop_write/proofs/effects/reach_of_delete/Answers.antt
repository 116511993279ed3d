use Rattle.std.proofs.Common.{refl, sym}
use Rattle.std.proofs.lemmas.Result.{IfOk-weaker}
use Rattle.shop_defs.specs.declared.table.TheConstants.{REFERENCES}
use Rattle.shop_write.specs.Reaching.{IsReach, IsRemoval}
use Rattle.shop_write.proofs.Reaches.{reach_removal, removes_nothing}
use Rattle.shop_write.proofs.effects.reach_of_delete.Goals as goal

pub returns-in-Some : goal.returns-in-Some
returns-in-Some g c =
    let view = g.V.View.seen c.args.view.now in
    IfOk-weaker c.reach_of_removal.result (IsRemoval REFERENCES view c.place_of-key.result) (IsReach view c.args.op.now) (λ reach r. reach_removal view c.args.op.now c.place_of-key.result reach c.requires c.place_of-key.ensures r) c.reach_of_removal.ensures

pub returns-in-None : goal.returns-in-None
returns-in-None g c =
    let view = g.V.View.seen c.args.view.now in
    reach_removal view c.args.op.now c.place_of-key.result _ c.requires c.place_of-key.ensures (removes_nothing view c.place_of-key.result _ (sym c.in-None.ensures.row) refl c.new.ensures c.new-in-None.ensures)
