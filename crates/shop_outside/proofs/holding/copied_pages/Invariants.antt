use Rattle.std.proofs.Common.{◌≡◌, ◌++◌}
use Rattle.paged.specs.Paged.{all_pairs}
use Rattle.shop_outside.proofs.holding.copied_pages.Given as goal

abbrev pub invariant-loop-run : goal.invariant-loop-run
invariant-loop-run l = l.copies ++ all_pairs l.runs ≡ all_pairs l.initial.runs
