use Rattle.std.proofs.Common.{◌≡◌, sym, ◌∙◌, ap, subst}
use Rattle.shop_shared.specs.declared.view.MasterView.{MasterView}
use Rattle.shop_shared.specs.Locks.{LockView, AreTied, HasSeenAll}
use Rattle.shop_shared.proofs.Looking.{lock_at, freed, held_moves, held_own, seen_all}
use Rattle.shop_shared.proofs.locked.Locked.look.Goals as goal

pub invariant_of-self : goal.invariant_of-self
invariant_of-self g c =
    let m = c.self.inside.master in
    let is : c.give_back.new.self ≡ m = freed m c.hold.new.self c.give_back.new.self c.args.pass c.self.invariant.free c.hold.ensures c.give_back.ensures.given.0 in
    subst (λ (x : MasterView). AreTied x c.self.inside.state c.self.inside.shut) (sym is) c.self.invariant

pub returns-clause-same : goal.returns-clause-same
returns-clause-same g c =
    let m = c.self.inside.master in
    let is : c.give_back.new.self ≡ m = freed m c.hold.new.self c.give_back.new.self c.args.pass c.self.invariant.free c.hold.ensures c.give_back.ensures.given.0 in
    ap (λ (x : MasterView). lock_at x c.self.inside.state) is ∙ c.self.view_is

pub returns-clause-moves : goal.returns-clause-moves
returns-clause-moves g c = held_moves c.self.inside.master c.hold.new.self c.args.pass c.give_back.result c.hold.ensures c.give_back.ensures.moves

pub returns-clause-own : goal.returns-clause-own
returns-clause-own g c = held_own c.self.inside.master c.hold.new.self c.args.pass c.give_back.result c.hold.ensures c.give_back.ensures.own

pub returns-clause-all : goal.returns-clause-all
returns-clause-all g c =
    subst (λ (l : LockView). HasSeenAll l c.give_back.result) c.self.view_is
    (seen_all c.self.inside.master c.hold.new.self c.self.inside.state c.self.inside.shut c.args.pass c.give_back.result c.self.invariant c.hold.ensures c.give_back.ensures.given.1)
