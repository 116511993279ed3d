use Rattle.std.proofs.Common.{◌<◌, ◌++◌, List, length, map, ◌∙◌, ap, inl, inr, arith}
use Rattle.std.specs.Arc.{arc_value}
use Rattle.paged.specs.Pairs.{pair_by}
use Rattle.paged.proofs.Making.{take_in_all}
use Rattle.paged.proofs.maker.Maker.take_in.Goals as goal

pub returns-in_ok-share_all-in-Some-2-clause-makes : goal.returns-in_ok-share_all-in-Some-2-clause-makes
returns-in_ok-share_all-in-Some-2-clause-makes g c = let last = rw c.in-Some.is at c.in_ok-last.ensures.pages in let few : length c.args.self.now.tail < 16 = omega (arith, c.if-open-ge-LEAST.false, c.len-open.ensures) in (take_in_all c.args.self.now.pages.chunks c.pop.new.self.chunks c.args.self.now.pages.pages c.pop.new.self.pages c.in-Some.field-0-0 (arc_value c.in-Some.last) c.args.self.now.tail c.share_all-in-Some.new.self c.share_all.new.self (map (pair_by g.C.Leaf.leaf_value) c.entries.result.now) c.replace-open.new.dest c.requires few c.in_ok-last.ensures.binds last (c.in_ok-share_all-in-Some-2.ensures ∙ ap (λ (l : List _). c.share_all.new.self ++ l) (c.entries-in-Some.ensures ∙ c.replace-open.ensures.value)) c.in_ok-share_all-in-Some.ensures (c.replace-open.ensures.after ∙ c.new.ensures) (c.entries.ensures ∙ c.deref.ensures)).makes

pub returns-in_ok-share_all-in-Some-2-clause-enough : goal.returns-in_ok-share_all-in-Some-2-clause-enough
returns-in_ok-share_all-in-Some-2-clause-enough g c = let last = rw c.in-Some.is at c.in_ok-last.ensures.pages in let few : length c.args.self.now.tail < 16 = omega (arith, c.if-open-ge-LEAST.false, c.len-open.ensures) in inr (inl (take_in_all c.args.self.now.pages.chunks c.pop.new.self.chunks c.args.self.now.pages.pages c.pop.new.self.pages c.in-Some.field-0-0 (arc_value c.in-Some.last) c.args.self.now.tail c.share_all-in-Some.new.self c.share_all.new.self (map (pair_by g.C.Leaf.leaf_value) c.entries.result.now) c.replace-open.new.dest c.requires few c.in_ok-last.ensures.binds last (c.in_ok-share_all-in-Some-2.ensures ∙ ap (λ (l : List _). c.share_all.new.self ++ l) (c.entries-in-Some.ensures ∙ c.replace-open.ensures.value)) c.in_ok-share_all-in-Some.ensures (c.replace-open.ensures.after ∙ c.new.ensures) (c.entries.ensures ∙ c.deref.ensures)).enough)
