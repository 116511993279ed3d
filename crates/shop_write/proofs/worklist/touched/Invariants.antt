use Rattle.std.proofs.Common.{◌+◌, length}
use Rattle.shop_defs.specs.declared.table.TheConstants.{REFERENCES}
use Rattle.shop_write.specs.Searching.{IsFound, unlisted}
use Rattle.shop_write.proofs.worklist.touched.Given as goal

abbrev pub invariant-loop-next : goal.invariant-loop-next
invariant-loop-next g l = IsFound REFERENCES (g.V.View.seen l.view).rows l.key l.search

abbrev pub decreases-loop-next : goal.decreases-loop-next
decreases-loop-next g l = unlisted (g.V.View.seen l.view).rows l.search.lost + length l.search.pending
