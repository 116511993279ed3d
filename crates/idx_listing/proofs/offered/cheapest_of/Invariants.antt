use Rattle.std.proofs.Common.{◌≡◌, take}
use Rattle.std.specs.Prelude.{fold}
use Rattle.product_meanings.specs.Listings.{cheaper}
use Rattle.idx_listing.proofs.offered.cheapest_of.Given as goal

abbrev pub invariant-loop-offer : goal.invariant-loop-offer
invariant-loop-offer l = l.best ≡ fold cheaper l.fn.first (take l.offer-index l.rest)
