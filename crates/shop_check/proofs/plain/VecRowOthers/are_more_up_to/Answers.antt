use Rattle.std.proofs.Common.{List, ap, ◌∙◌}
use Rattle.std.specs.Prelude.{◌&&◌, count_by}
use Rattle.shop_defs.specs.declared.row.Row.{Row}
use Rattle.shop_operations.specs.References.{is_entity}
use Rattle.shop_check.proofs.Counted.{is_up, more_up}
use Rattle.shop_check.proofs.plain.VecRowOthers.are_more_up_to.Goals as goal

pub returns : goal.returns
returns c =
    more_up c.args.self.now.items c.args.row.now c.args.most c.count_up_to.result
    (c.count_up_to.ensures ∙ ap (λ (rows : List Row). count_by (λ other. is_up c.args.row.now other && is_entity c.args.row.now.key.entity other.key.entity) rows) c.as_slice.ensures.value)
