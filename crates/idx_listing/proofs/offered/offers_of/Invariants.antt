use Rattle.std.proofs.Common.{◌≡◌, ◌++◌, length}
use Rattle.std.specs.List.{filter_map}
use Rattle.product_meanings.specs.Listings.{offer}
use Rattle.idx_listing.proofs.offered.offers_of.Given as goal

abbrev pub invariant-loop-rest : goal.invariant-loop-rest
invariant-loop-rest l = l.offers.items ++ filter_map (offer l.rows.list) l.rest ≡ filter_map (offer l.rows.list) l.ids

abbrev pub decreases-loop-rest : goal.decreases-loop-rest
decreases-loop-rest l = length l.rest
