use Rattle.std.proofs.Common.{◌≡◌, sym, ◌∙◌, ap, subst, arith, ℕ, []}
use Rattle.atomic_table.specs.Table.{Me}
use Rattle.shop_shared.specs.declared.view.View.{View}
use Rattle.shop_shared.specs.declared.view.View.TheVariants.{Admits, Calls}
use Rattle.shop_shared.specs.declared.view.DoorView.{DoorView}
use Rattle.shop_shared.specs.declared.view.CallerView.{CallerView}
use Rattle.shop_shared.specs.Views.{caller_of, new_caller, enter_right}
use Rattle.shop_shared.specs.Passes.{IsPass}
use Rattle.shop_shared.proofs.Passing.{new_pass}
use Rattle.shop_shared.proofs.Asks.{enter_as}
use Rattle.shop_shared.proofs.door.Door.enter.Goals as goal

pub split_seat-seat-requires : goal.split_seat-seat-requires
split_seat-seat-requires g c =
    let i = c.self.invariant in
    let b = c.args.board.now in
    let now = c.args.self.now in
    let me : c.self.inside.seat.me ≡ (Admits now, []) = i.1 ∙ ap (λ (d : DoorView). (Admits d, [])) c.self.view_is in
    (i.0 ∙ sym b.named, omega arith, enter_as _ _ now (ap (λ (x : Me ℕ View). x.0) me) c.requires)

pub invariant_of-result : goal.invariant_of-result
invariant_of-result g c =
    let i = c.self.invariant in
    let now = c.args.self.now in
    let me : c.self.inside.seat.me ≡ (Admits now, []) = i.1 ∙ ap (λ (d : DoorView). (Admits d, [])) c.self.view_is in
    let s = c.split_seat-seat.ensures in
    let is : c.split_seat-seat.result.me ≡ (Calls (new_caller now), []) = s.4 ∙ ap (λ (x : Me ℕ View). (enter_right x.0, [])) me in
    let new : caller_of c.split_seat-seat.result.me.0 ≡ new_caller now = ap (λ (x : Me ℕ View). caller_of x.0) is in
    (s.3 ∙ i.0, is ∙ ap (λ (w : CallerView). (Calls w, [])) (sym new), i.2 ∙ ap (λ (d : DoorView). d.made) c.self.view_is ∙ ap (λ (w : CallerView). w.number) (sym new), subst IsPass (sym new) (new_pass now))
