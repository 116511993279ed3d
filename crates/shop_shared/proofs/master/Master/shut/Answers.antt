use Rattle.std.proofs.Common.{◌≡◌, sym, ◌∙◌, ap, arith, ℕ, []}
use Rattle.atomic_table.specs.Table.{Me}
use Rattle.shop_shared.specs.declared.view.View.{View}
use Rattle.shop_shared.specs.declared.view.View.TheVariants.{Keeps}
use Rattle.shop_shared.specs.declared.view.MasterView.{MasterView}
use Rattle.shop_shared.proofs.Asks.{shut_as}
use Rattle.shop_shared.proofs.master.Master.shut.Goals as goal

pub join_seat-requires : goal.join_seat-requires
join_seat-requires g c =
    let i = c.self.invariant in
    let b = c.args.board.now in
    let now = c.args.self.now in
    let me : c.self.inside.seat.me ≡ (Keeps now, []) = i.2 ∙ ap (λ (m : MasterView). (Keeps m, [])) c.self.view_is in
    let p = c.door.invariant in
    (i.0 ∙ sym b.named, p.0 ∙ sym b.named, ap (λ (x : Me ℕ View). x.1) p.1, omega arith, shut_as _ _ _ _ now _ i.1 (ap (λ (x : Me ℕ View). x.0) me) (ap (λ (x : Me ℕ View). x.0) p.1))
