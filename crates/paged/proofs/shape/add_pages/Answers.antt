use Rattle.std.proofs.Common.{◌++◌, map, take, subst}
use Rattle.paged.specs.Pairs.{pair_of}
use Rattle.paged.specs.Parts.{size_of}
use Rattle.paged.specs.Sizes.{Tells}
use Rattle.paged.proofs.Shaping.{sizes_next}
use Rattle.paged.proofs.shape.add_pages.Goals as goal

pub loop-page-preserved : goal.loop-page-preserved
loop-page-preserved g c = λ sizes tells.
    subst (Tells c.add.new.self) (sizes_next sizes c.args.pages.now c.loop-page.page-index c.loop-page-item.result c.deref.result.now c.len.result c.loop-page-test.true c.loop-page-item.is c.deref.ensures c.len.ensures)
    (c.add.ensures (sizes ++ map size_of (map pair_of (take c.loop-page.page-index c.args.pages.now))) (c.loop-page.invariant sizes tells))
