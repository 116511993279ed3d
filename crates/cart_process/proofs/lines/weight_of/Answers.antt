use Rattle.std.proofs.Common.{pos}
use Rattle.cart_process.proofs.Bounds.{effective_within, or_nothing-within, product_weight}
use Rattle.cart_process.proofs.lines.weight_of.Goals as goal

pub returns-clause-bound : goal.returns-clause-bound
returns-clause-bound c = rw (c.or_nothing.ensures, c.effective_count.ensures) (or_nothing-within 1000000000 _ (effective_within c.args.product.now _ 7 1000000000 (pos 0) product_weight c.requires.product c.requires.parent))
