use Rattle.std.proofs.Common.{arith, ap}
use Rattle.std.specs.Prelude.{count_by}
use Rattle.shop_rows.specs.Owners.{belongs}
use Rattle.shop_write.proofs.Growths.{count-grown}
use Rattle.shop_write.proofs.growing.GrowingView.count_owned.Goals as goal

pub overflow_sub-result : goal.overflow_sub-result
overflow_sub-result c =
    let owned = belongs c.args.limit.now c.args.owner in
    let counts = count-grown _ c.self.invariant owned in
    let lost = ap (count_by owned) c.self.invariant.lost_live in
    let over = ap (count_by owned) c.self.invariant.over_live in
    omega arith

pub returns : goal.returns
returns c =
    let owned = belongs c.args.limit.now c.args.owner in
    let counts = count-grown _ c.self.invariant owned in
    let lost = ap (count_by owned) c.self.invariant.lost_live in
    let over = ap (count_by owned) c.self.invariant.over_live in
    rw (← c.self.view_is) (omega arith)
