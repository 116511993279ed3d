use Rattle.std.proofs.Common.{List, ap, ◌∙◌}
use Rattle.std.specs.Prelude.{◌&&◌, count_by}
use Rattle.shop_defs.specs.declared.row.Row.{Row}
use Rattle.shop_operations.specs.References.{is_entity}
use Rattle.shop_check.proofs.Counted.{is_up, more_up, same_more_up}
use Rattle.shop_check.proofs.indexed.RowsOthers.are_more_up_to.Goals as goal

pub returns-then-count-most : goal.returns-then-count-most
returns-then-count-most c =
    more_up c.args.self.now.list c.args.row.now c.args.most c.count_up_to.result
    (c.count_up_to.ensures ∙ ap (λ (rows : List Row). count_by (λ other. is_up c.args.row.now other && is_entity c.args.row.now.key.entity other.key.entity) rows) c.iter.ensures.rows)

pub returns-else-count-most : goal.returns-else-count-most
returns-else-count-most c = same_more_up c.args.self.now.list c.args.row.now c.args.most c.count.result c.count.ensures c.if-count-most.false
