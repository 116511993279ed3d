use Rattle.std.proofs.Common.{subst}
use Rattle.paged.specs.Sizes.{Tells}
use Rattle.paged.proofs.Shaping.{sizes_all, are_paged}
use Rattle.paged.proofs.paged.Paged.shape.Goals as goal

pub returns-clause-shape : goal.returns-clause-shape
returns-clause-shape g c = subst (Tells c.loop-chunk.shape) (sizes_all c.entries-chunk-items.result.now c.self.inside.chunks c.args.self.now c.loop-chunk.chunk-index c.loop-chunk-test.false c.entries-chunk-items.ensures c.self.view_is) c.loop-chunk.invariant

pub returns-clause-pages : goal.returns-clause-pages
returns-clause-pages g c = are_paged g.K.Ord.cmp c.self.inside.chunks c.args.self.now c.self.invariant c.self.view_is
