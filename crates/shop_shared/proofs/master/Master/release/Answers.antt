use Rattle.std.proofs.Common.{◌≡◌, sym, ◌∙◌, ap, subst, arith, ℕ, Option, []}
use Rattle.atomic_table.specs.Table.{Me}
use Rattle.shop_shared.specs.declared.view.View.{View}
use Rattle.shop_shared.specs.declared.view.View.TheVariants.{Keeps, Calls}
use Rattle.shop_shared.specs.declared.view.MasterView.{MasterView}
use Rattle.shop_shared.specs.declared.view.CallerView.{CallerView}
use Rattle.shop_shared.specs.declared.view.Held.{Held}
use Rattle.shop_shared.specs.Views.{held_of, caller_of, split_right, given, given_if}
use Rattle.shop_shared.specs.Passes.{IsPass}
use Rattle.shop_shared.proofs.Passing.{given_pass}
use Rattle.shop_shared.proofs.Asks.{split_as}
use Rattle.shop_shared.proofs.master.Master.release.Goals as goal

pub split_seat-seat-requires : goal.split_seat-seat-requires
split_seat-seat-requires g c =
    let i = c.self.invariant in
    let b = c.args.board.now in
    let now = c.args.self.now in
    let me : c.self.inside.seat.me ≡ (Keeps now, []) = i.2 ∙ ap (λ (m : MasterView). (Keeps m, [])) c.self.view_is in
    (i.0 ∙ sym b.named, omega arith, split_as _ _ now (held_of now) i.1 (ap (λ (x : Me ℕ View). x.0) me) c.requires.held.0)

pub invariant_of-result : goal.invariant_of-result
invariant_of-result g c =
    let i = c.self.invariant in
    let now = c.args.self.now in
    let h = held_of now in
    let me : c.self.inside.seat.me ≡ (Keeps now, []) = i.2 ∙ ap (λ (m : MasterView). (Keeps m, [])) c.self.view_is in
    let s = c.split_seat-seat.ensures in
    let right : c.split_seat-seat.result.me ≡ (given_if now now.held, []) = s.4 ∙ ap (λ (x : Me ℕ View). (split_right x.0, [])) me in
    let is : c.split_seat-seat.result.me ≡ (Calls (given now h), []) = right ∙ ap (λ (o : Option Held). (given_if now o, [])) c.requires.held.0 in
    let new : caller_of c.split_seat-seat.result.me.0 ≡ given now h = ap (λ (x : Me ℕ View). caller_of x.0) is in
    (s.3 ∙ i.0, is ∙ ap (λ (w : CallerView). (Calls w, [])) (sym new), c.requires.held.1 ∙ ap (λ (w : CallerView). w.number) (sym new), subst IsPass (sym new) (given_pass now h c.requires.held.0 c.requires.known))
