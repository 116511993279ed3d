use Rattle.std.proofs.Common.{◌∙◌, map, sym, ap, subst}
use Rattle.shop_order.specs.Parts.{line_want}
use Rattle.shop_order.specs.Wants.{AreFew}
use Rattle.shop_order.proofs.Placed.{few_lines}
use Rattle.shop_order.proofs.placing.wants_of.Goals as goal

pub returns-clause-few : goal.returns-clause-few
returns-clause-few c = subst AreFew (sym (c.in_ok-wants.ensures ∙ ap (map line_want) c.as_slice.ensures)) (few_lines c.args.settled.now c.requires)
