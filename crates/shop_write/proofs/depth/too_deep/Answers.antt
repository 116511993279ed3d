use Rattle.std.proofs.Common.{sym, ◌∙◌}
use Rattle.std.proofs.lemmas.Bool.{and_parts, eqb-true}
use Rattle.shop_write.proofs.IdsDown.{none_sinks}
use Rattle.shop_write.proofs.KeptParent.{kept_parent}
use Rattle.shop_write.proofs.depth.too_deep.Goals as goal

pub returns-in-None : goal.returns-in-None
returns-in-None g c = none_sinks (g.V.View.seen c.args.view.now) c.args.row.now c.requires.write (sym c.in-None.ensures)

pub returns-in-Some : goal.returns-in-Some
returns-in-Some g c =
    let both = and_parts _ _ (sym c.is_live_and_kept.ensures ∙ c.if-is_live_and_kept.true) in
    kept_parent (g.V.View.seen c.args.view.now) c.args.row.now c.requires.write (c.requires.live (eqb-true _ _ both.0)) both.1
