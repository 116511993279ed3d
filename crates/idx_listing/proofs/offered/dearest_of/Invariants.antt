use Rattle.std.proofs.Common.{◌≡◌, take}
use Rattle.std.specs.Prelude.{fold}
use Rattle.product_meanings.specs.Listings.{dearer}
use Rattle.idx_listing.proofs.offered.dearest_of.Given as goal

abbrev pub invariant-loop-offer : goal.invariant-loop-offer
invariant-loop-offer l = l.best ≡ fold dearer l.fn.first (take l.offer-index l.rest)
