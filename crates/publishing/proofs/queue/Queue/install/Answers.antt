use Rattle.std.proofs.Common.{◌≡◌, ◌<◌, ◌-◌, drop, refl, sym, ap, subst, ◌∙◌, arith}
use Rattle.std.proofs.lemmas.List.{drop-map}
use Rattle.idx_copy.specs.Copies.{CopyView, IsCopy}
use Rattle.idx_copy.specs.Fronts.{changes_of, changes_in}
use Rattle.publishing.specs.Queues.{QueueView, IsQueue}
use Rattle.publishing.proofs.Installing.{built_leads, installed}
use Rattle.publishing.proofs.queue.Queue.install.Goals as goal

pub invariant_of-self : goal.invariant_of-self
invariant_of-self c =
    let mine : c.front-mine.result ≡ c.args.copy.value.front = c.front-mine.ensures ∙ ap (λ (v : CopyView). v.front) c.deref-2.ensures in
    let published : c.front-published.result ≡ c.args.self.now.copy.front = c.front-published.ensures ∙ (ap (λ (v : CopyView). v.front) c.deref-3.ensures ∙ ap (λ (v : QueueView). v.copy.front) c.self.view_is) in
    let above : c.args.self.now.copy.front < c.args.copy.value.front = omega (arith, mine, published, c.if-mine-published.false) in
    let count : c.front-mine.result - c.front-published.result ≡ c.args.copy.value.front - c.args.self.now.copy.front = λ i. mine i - published i in
    let rest = ap changes_in c.drop_first.ensures ∙ (sym (drop-map changes_of _ c.self.inside.pending.items) ∙ ap (λ (v : QueueView). drop (c.front-mine.result - c.front-published.result) v.pending) c.self.view_is) in
    built_leads c.args.self.now c.args.copy.value (c.front-mine.result - c.front-published.result) _ (subst (λ (v : QueueView). IsQueue v.copy v.pending) c.self.view_is c.self.invariant) (subst IsCopy c.deref.ensures c.rows-rows.ensures.copy) above c.requires.front c.requires.rows count rest

pub returns : goal.returns
returns c =
    let mine : c.front-mine.result ≡ c.args.copy.value.front = c.front-mine.ensures ∙ ap (λ (v : CopyView). v.front) c.deref-2.ensures in
    let published : c.front-published.result ≡ c.args.self.now.copy.front = c.front-published.ensures ∙ (ap (λ (v : CopyView). v.front) c.deref-3.ensures ∙ ap (λ (v : QueueView). v.copy.front) c.self.view_is) in
    let above : c.args.self.now.copy.front < c.args.copy.value.front = omega (arith, mine, published, c.if-mine-published.false) in
    let count : c.front-mine.result - c.front-published.result ≡ c.args.copy.value.front - c.args.self.now.copy.front = λ i. mine i - published i in
    let rest = ap changes_in c.drop_first.ensures ∙ (sym (drop-map changes_of _ c.self.inside.pending.items) ∙ ap (λ (v : QueueView). drop (c.front-mine.result - c.front-published.result) v.pending) c.self.view_is) in
    (mine, installed c.args.self.now _ c.args.copy.value (c.front-mine.result - c.front-published.result) above c.requires.rows count refl rest)
