use Rattle.std.proofs.Common.{◌≡◌, ◌++◌, length}
use Rattle.idx_stream.specs.Reading.{rows_at}
use Rattle.idx_stream.proofs.filters.copies_at.Given as goal

abbrev pub invariant-loop-rest : goal.invariant-loop-rest
invariant-loop-rest l = l.nodes.items ++ rows_at l.rows.list l.rest ≡ rows_at l.rows.list l.keys

abbrev pub decreases-loop-rest : goal.decreases-loop-rest
decreases-loop-rest l = length l.rest
