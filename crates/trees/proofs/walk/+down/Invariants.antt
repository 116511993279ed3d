use Rattle.std.proofs.Common.{◌≡◌, ◌+◌, ◌*◌, ◌≤◌, length, map}
use Rattle.std.specs.Prelude.{count_by, not}
use Rattle.trees.specs.Holding.{holds, answers, itself}
use Rattle.trees.specs.Nodes.{below}
use Rattle.trees.proofs.walk.+down.Given as goal

abbrev pub decreases-answers_below : goal.decreases-answers_below
decreases-answers_below g l = 2 * l.levels + 1

abbrev pub decreases-holds : goal.decreases-holds
decreases-holds g l = 2 * l.levels

abbrev pub invariant-answers_below-loop-rest : goal.invariant-answers_below-loop-rest
invariant-answers_below-loop-rest g l = record {
  yes : l.answers.yes + count_by itself (map (holds (g.T.Test.says l.test) l.nodes l.levels) (below l.rest l.above)) ≡ count_by itself (answers (g.T.Test.says l.test) l.nodes l.levels l.above);
  no : l.answers.no + count_by not (map (holds (g.T.Test.says l.test) l.nodes l.levels) (below l.rest l.above)) ≡ count_by not (answers (g.T.Test.says l.test) l.nodes l.levels l.above);
  few : l.answers.yes + l.answers.no + length l.rest ≤ length l.nodes;
}

abbrev pub decreases-answers_below-loop-rest : goal.decreases-answers_below-loop-rest
decreases-answers_below-loop-rest g l = length l.rest
