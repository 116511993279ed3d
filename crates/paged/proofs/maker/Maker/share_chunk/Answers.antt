use Rattle.std.proofs.Common.{◌≤◌, List, length, subst}
use Rattle.std.specs.Arc.{arc_value}
use Rattle.paged.specs.Bound.{made}
use Rattle.paged.proofs.Making.{share_settled}
use Rattle.paged.proofs.maker.Maker.share_chunk.Goals as goal

pub returns-in_ok-share_chunk : goal.returns-in_ok-share_chunk
returns-in_ok-share_chunk g c =
    let several : 2 ≤ length (arc_value c.args.chunk.now) = subst (λ (l : List _). 2 ≤ length l) c.deref.ensures c.if-can_share.ensures.several in
    share_settled c.settle.new.self.pages.chunks c.share_chunk.new.self.chunks c.settle.new.self.pages.pages c.share_chunk.new.self.pages (arc_value c.args.chunk.now) c.settle.new.self.tail (made c.args.self.now) c.in_ok-settle.ensures.makes c.requires.sized several c.in_ok-share_chunk.ensures.binds c.in_ok-share_chunk.ensures.pages c.in_ok-settle.ensures.open c.in_ok-settle.ensures.pairs
