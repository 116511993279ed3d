use Rattle.std.proofs.Common.{length}
use Rattle.cart_price.proofs.tests.+are_bases.Given as goal

abbrev pub decreases-are_bases : goal.decreases-are_bases
decreases-are_bases l = length l.bases.now
