use Rattle.std.proofs.Common.{pos}
use Rattle.shop_defs.specs.declared.entity.Entity.TheVariants as E
use Rattle.cart_process.proofs.Bounds.{count_within, line_quantity, or_nothing-within}
use Rattle.cart_process.proofs.lines.quantity_of.Goals as goal

pub returns-clause-bound : goal.returns-clause-bound
returns-clause-bound c = rw (c.or_nothing.ensures, c.count_at.ensures) (or_nothing-within 10000 _ (count_within E.CartLine c.args.line.now 3 10000 (pos 1) line_quantity c.requires))
