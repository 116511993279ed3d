use Rattle.std.proofs.Common.{sym}
use Rattle.cart_sums.specs.Fits.{Fits}
use Rattle.cart_sums.specs.Sums.{plus_of}
use Rattle.cart_sums.proofs.Growth.{all-found, found-part}
use Rattle.cart_sums.proofs.sums.sum_at.Goals as goal

pub returns-in-Some-clause-fits : goal.returns-in-Some-clause-fits
returns-in-Some-clause-fits c = all-found Fits c.args.sums.now.list c.args.rate c.in-Some.at.now c.requires.sums.fit (sym c.in-Some.ensures)

pub returns-in-Some-clause-part : goal.returns-in-Some-clause-part
returns-in-Some-clause-part c = found-part plus_of c.args.sums.now.list c.args.rate c.in-Some.at.now (sym c.in-Some.ensures)
