use Rattle.std.proofs.Common.{◌≡◌}
use Rattle.paged.specs.Paged.{all_pairs}
use Rattle.shop_rows.proofs.pairs.first_run.Given as goal

abbrev pub invariant-loop-run : goal.invariant-loop-run
invariant-loop-run g l = all_pairs l.runs ≡ all_pairs l.initial.runs
