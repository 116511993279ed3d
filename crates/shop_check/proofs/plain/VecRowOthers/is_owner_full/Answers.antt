use Rattle.std.proofs.Common.{sym}
use Rattle.shop_check.proofs.Counted.{full_up}
use Rattle.shop_check.proofs.plain.VecRowOthers.is_owner_full.Goals as goal

pub returns-then-eq : goal.returns-then-eq
returns-then-eq c =
    full_up c.args.self.now.items c.as_slice.result.now c.args.row.now c.args.limit.now c.count_owned_up_to.result (sym c.if-eq.ensures) c.as_slice.ensures.value c.count_owned_up_to.ensures
