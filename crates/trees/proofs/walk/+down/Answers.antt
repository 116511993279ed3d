use Rattle.std.proofs.Common.{◌∙◌, ap, arith, ◌-◌}
use Rattle.trees.specs.Holding.{answers}
use Rattle.trees.specs.Counts.{joined_by}
use Rattle.trees.proofs.Counting.{joined-counts}
use Rattle.trees.proofs.Levels.{joins}
use Rattle.trees.proofs.walk.+down.Goals as goal

pub holds-returns-in-Some : goal.holds-returns-in-Some
holds-returns-in-Some g t c =
    c.joined.ensures
    ∙ (ap (joined_by c.in-Some.join) c.answers_below.ensures
    ∙ (joined-counts c.in-Some.join (answers (g.T.Test.says c.args.test.now) c.args.nodes.now (c.args.levels - 1) _)
    ∙ joins (g.T.Test.says c.args.test.now) c.args.nodes.now c.args.levels c.args.node.now c.in-Some.join (omega arith) c.in-Some.ensures.conditions))
