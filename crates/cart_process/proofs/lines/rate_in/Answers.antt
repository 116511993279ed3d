use Rattle.std.proofs.Common.{◌≤◌, pos, arith}
use Rattle.shop_defs.specs.declared.entity.Entity.TheVariants as E
use Rattle.cart_process.proofs.Bounds.{count_within, or_nothing-within, tax_rate}
use Rattle.cart_process.proofs.lines.rate_in.Goals as goal

low : (c : goal.After-or_nothing) → c.or_nothing.result ≤ 10000
low c = rw (c.or_nothing.ensures, c.count_at.ensures) (or_nothing-within 10000 _ (count_within E.Tax c.args.tax.now 2 10000 (pos 0) tax_rate c.requires))

pub overflow_cast-result : goal.overflow_cast-result
overflow_cast-result c = omega (arith, low c)

pub returns-clause-bound : goal.returns-clause-bound
returns-clause-bound c = omega (arith, low c)
