use Rattle.std.proofs.Common.{◌≡◌, sym, ◌∙◌, ap, arith, ℕ, []}
use Rattle.atomic_table.specs.Table.{Me}
use Rattle.shop_shared.specs.declared.view.View.{View}
use Rattle.shop_shared.specs.declared.view.View.TheVariants.{Keeps}
use Rattle.shop_shared.specs.declared.view.MasterView.{MasterView}
use Rattle.shop_shared.proofs.Asks.{door_as}
use Rattle.shop_shared.proofs.master.Master.open_door.Goals as goal

pub split_seat-seat-requires : goal.split_seat-seat-requires
split_seat-seat-requires g c =
    let i = c.self.invariant in
    let b = c.args.board.now in
    let now = c.args.self.now in
    let me : c.self.inside.seat.me ≡ (Keeps now, []) = i.2 ∙ ap (λ (m : MasterView). (Keeps m, [])) c.self.view_is in
    (i.0 ∙ sym b.named, omega arith, door_as _ _ now i.1 (ap (λ (x : Me ℕ View). x.0) me) c.requires)
