use Rattle.std.proofs.Common.{sym, ◌∙◌, arith}
use Rattle.shop_shared.proofs.Asks.{check_as}
use Rattle.shop_shared.proofs.master.Master.check.Goals as goal

pub load-requires : goal.load-requires
load-requires g c =
    let i = c.self.invariant in
    let b = c.args.board.now in
    (i.0 ∙ sym b.named, omega arith, check_as _ _ _ _ i.1 i.2)
