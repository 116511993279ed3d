use Rattle.std.proofs.Common.{◌≢◌, ◌∙◌, [], ap}
use Rattle.std.specs.Option.{option_copied}
use Rattle.cart_collect.specs.Collected.{or_parents}
use Rattle.cart_collect.proofs.Prices.{own_count}
use Rattle.cart_collect.proofs.line.prices_of.Goals as goal

pub returns-then-not-is_empty : goal.returns-then-not-is_empty
returns-then-not-is_empty c =
    let rows = c.args.rows.now.list in
    let some : c.in_ok-own.own ≢ [] = λ e. let empty = c.is_empty.ensures.1 e in let full = c.if-not-is_empty.true in absurd (cc) in
    own_count rows (option_copied c.args.parent) c.in_ok-own.own some ∙ ap (or_parents rows (option_copied c.args.parent)) c.in_ok-own.ensures
