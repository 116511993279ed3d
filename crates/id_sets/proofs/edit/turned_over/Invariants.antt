use Rattle.std.proofs.Common.{◌≡◌, ◌++◌, length}
use Rattle.std.specs.Prelude.{fold}
use Rattle.id_sets.specs.Sets.{AreAscending, turn}
use Rattle.id_sets.proofs.edit.turned_over.Given as goal

abbrev pub invariant-loop-rest : goal.invariant-loop-rest
invariant-loop-rest l = record {
  turned : l.ids.items ++ fold turn l.left l.rest ≡ fold turn l.old l.turned;
  left : AreAscending l.left;
  rest : AreAscending l.rest;
}

abbrev pub decreases-loop-rest : goal.decreases-loop-rest
decreases-loop-rest l = length l.rest
