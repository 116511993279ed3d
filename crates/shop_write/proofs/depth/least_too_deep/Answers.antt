use Rattle.std.proofs.Common.{ap, ◌∙◌}
use Rattle.shop_write.specs.Steps.{least_id}
use Rattle.shop_write.proofs.IdsDown.{least_sinking}
use Rattle.shop_write.proofs.depth.least_too_deep.Goals as goal

pub returns : goal.returns
returns g c =
    c.least_of.ensures ∙ (ap least_id c.as_slice.ensures ∙ least_sinking (g.V.View.seen c.args.view.now) c.args.row.now c.requires.write c.requires.free c.args.most c.requires.limited c.in_ok-ids.ids c.in_ok-ids.ensures)
