use Rattle.std.proofs.Common.{sym, ◌∙◌, arith}
use Rattle.shop_defs.specs.declared.table.TheConstants.{REFERENCES}
use Rattle.shop_operations.specs.References.{live}
use Rattle.shop_check.proofs.Levels.{past_parent}
use Rattle.shop_check.proofs.among.is_past.Goals as goal

pub loop-left-preserved : goal.loop-left-preserved
loop-left-preserved g c =
    past_parent REFERENCES (live (g.O.Others.rows c.args.others.now)) c.loop-left.left c.loop-left.at.now c.in-Some.parent.now (omega arith) (sym c.in-Some.ensures) ∙ c.loop-left.invariant
