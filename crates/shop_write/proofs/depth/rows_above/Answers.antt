use Rattle.std.proofs.Common.{◌+◌, ◌-◌, length, Option, arith, ap}
use Rattle.std.specs.Option.{option_copied}
use Rattle.shop_defs.specs.declared.row.Row.{Row}
use Rattle.shop_defs.specs.declared.table.TheConstants.{REFERENCES}
use Rattle.shop_operations.specs.Parents.{walk}
use Rattle.shop_operations.specs.Upserts.{with_row}
use Rattle.shop_write.proofs.StepsDown.{walk_on}
use Rattle.shop_write.proofs.depth.rows_above.Goals as goal

pub loop-count-preserved : goal.loop-count-preserved
loop-count-preserved g c =
    let on = walk_on (with_row (g.V.View.seen c.args.view.now).rows c.args.row.now) c.args.most c.loop-count.count c.in-Some.above.now c.loop-count-test.true in
    let here = ap (λ (at : Option Row). length (walk REFERENCES (with_row (g.V.View.seen c.args.view.now).rows c.args.row.now) (c.args.most - c.loop-count.count) at)) (ap option_copied c.in-Some.is) in
    let further = ap (λ (at : Option Row). length (walk REFERENCES (with_row (g.V.View.seen c.args.view.now).rows c.args.row.now) (c.args.most - (c.loop-count.count + 1)) at)) c.parent_of-at-in-Some.ensures in
    let before = c.loop-count.invariant in
    omega (arith, on, here, further, before)
