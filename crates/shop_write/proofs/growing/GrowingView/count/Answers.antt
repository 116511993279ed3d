use Rattle.std.proofs.Common.{arith}
use Rattle.shop_operations.specs.References.{is_entity}
use Rattle.shop_defs.specs.declared.row.Row.{Row}
use Rattle.shop_write.proofs.Growths.{count-grown}
use Rattle.shop_write.proofs.LiveLooks.{count_of-live}
use Rattle.shop_write.proofs.growing.GrowingView.count.Goals as goal

pub overflow_sub-result : goal.overflow_sub-result
overflow_sub-result c =
    let counts = count-grown _ c.self.invariant (λ (row : Row). is_entity c.args.entity row.key.entity) in
    let all = count_of-live c.self.inside.base.now.list c.args.entity in
    omega arith

pub returns : goal.returns
returns c =
    let counts = count-grown _ c.self.invariant (λ (row : Row). is_entity c.args.entity row.key.entity) in
    let all = count_of-live c.self.inside.base.now.list c.args.entity in
    rw (← c.self.view_is) (omega arith)
