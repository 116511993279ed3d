use Rattle.std.proofs.Common.{length}
use Rattle.cart_price.proofs.tests.+do_rates_ascend.Given as goal

abbrev pub decreases-do_rates_ascend : goal.decreases-do_rates_ascend
decreases-do_rates_ascend l = length l.bases.now
