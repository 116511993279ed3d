use Rattle.std.proofs.Common.{sym, ◌∙◌, ap}
use Rattle.shop_shared.specs.Locks.{LockView}
use Rattle.shop_shared.proofs.locked.Locked.front.Goals as goal

pub returns-clause-accepted : goal.returns-clause-accepted
returns-clause-accepted g c = c.accepted.ensures ∙ (ap (λ (l : LockView). l.shop.number) (c.self.view_is ∙ c.look-pass.ensures.same) ∙ sym c.look-pass.ensures.all.number)

pub returns-clause-published : goal.returns-clause-published
returns-clause-published g c = c.front.ensures.front ∙ (ap (λ (l : LockView). l.shop.copy.front) (c.self.view_is ∙ c.look-pass.ensures.same) ∙ sym c.look-pass.ensures.all.published)
