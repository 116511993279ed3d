use Rattle.std.proofs.Common.{◌≡◌, length}
use Rattle.shop_defs.specs.declared.table.TheConstants.{REFERENCES}
use Rattle.shop_write.specs.Deleting.{first_of, holder_at}
use Rattle.shop_write.proofs.delete.first_holder.Given as goal

abbrev pub invariant-loop-rest : goal.invariant-loop-rest
invariant-loop-rest g l = first_of (holder_at REFERENCES (g.V.View.seen l.view).rows (g.V.View.seen l.view).version l.search.lost) l.rest ≡ first_of (holder_at REFERENCES (g.V.View.seen l.view).rows (g.V.View.seen l.view).version l.search.lost) l.search.near

abbrev pub decreases-loop-rest : goal.decreases-loop-rest
decreases-loop-rest g l = length l.rest
