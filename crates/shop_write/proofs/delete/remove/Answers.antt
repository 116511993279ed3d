use Rattle.std.proofs.Common.{refl, ◌∙◌}
use Rattle.shop_defs.specs.declared.table.TheConstants.{REFERENCES}
use Rattle.shop_write.proofs.Touching.{first_holds, removal_held, removal_free}
use Rattle.shop_write.proofs.delete.remove.Goals as goal

pub returns-in-Some : goal.returns-in-Some
returns-in-Some g c =
    let view = g.V.View.seen c.args.view.now in
    rw c.refused.ensures (refl, removal_held REFERENCES view.rows c.args.key.now c.in-Some.by (c.in-Some.ensures ∙ first_holds REFERENCES view.rows c.args.key.now c.in_ok-search.search c.requires.order c.in_ok-search.ensures view.version))

pub returns : goal.returns
returns g c =
    let view = g.V.View.seen c.args.view.now in
    rw (removal_free REFERENCES view.rows c.args.key.now (c.in_default.ensures ∙ first_holds REFERENCES view.rows c.args.key.now c.in_ok-search.search c.requires.order c.in_ok-search.ensures view.version)) (c.in_ok-changes_of.ensures c.args.key.now c.in_ok-search.ensures)
