use Rattle.std.proofs.Common.{◌≡◌, take, filter}
use Rattle.std.specs.Option.{option_copied}
use Rattle.cart_price.specs.Lent.{lent_rows}
use Rattle.cart_process.specs.Deliveries.{has_no_rule, highest, is_usable}
use Rattle.cart_process.proofs.deliveries.highest_without_rule.Given as goal

abbrev pub invariant-loop-row : goal.invariant-loop-row
invariant-loop-row l = option_copied l.best ≡ highest (filter has_no_rule (filter (is_usable l.rules l.measures) (lent_rows (take l.row-index l.prices))))
