use Rattle.std.proofs.Common.{◌≡◌}
use Rattle.shop_version.specs.DraftSteps.{own_changes}
use Rattle.shop_version.proofs.writing.own_changes.Given as goal

abbrev pub invariant-loop-change : goal.invariant-loop-change
invariant-loop-change l = l.changes ≡ own_changes l.version l.yielded
