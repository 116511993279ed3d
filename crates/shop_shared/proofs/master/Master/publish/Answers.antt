use Rattle.std.proofs.Common.{◌≡◌, sym, ◌∙◌, ap, arith, []}
use Rattle.shop_shared.specs.declared.view.View.TheVariants.{Keeps}
use Rattle.shop_shared.specs.declared.view.MasterView.{MasterView}
use Rattle.shop_shared.proofs.Asks.{publish_as}
use Rattle.shop_shared.proofs.master.Master.publish.Goals as goal

pub fetch_add-requires : goal.fetch_add-requires
fetch_add-requires g c =
    let i = c.self.invariant in
    let b = c.args.board.now in
    let now = c.args.self.now in
    let me : c.self.inside.seat.me ≡ (Keeps now, []) = i.2 ∙ ap (λ (m : MasterView). (Keeps m, [])) c.self.view_is in
    (i.0 ∙ sym b.named, omega arith, publish_as _ _ _ now c.args.up i.1 me c.requires.0 c.requires.1)
