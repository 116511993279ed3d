use Rattle.std.proofs.Common.{◌<◌, ◌^◌, ◌∙◌, List, length, subst, sym}
use Rattle.product_meanings.specs.Listings.{Offer}
use Rattle.idx_listing.proofs.Counts.{offers_few}
use Rattle.idx_listing.proofs.offered.find_price.Goals as goal

pub price_of-requires : goal.price_of-requires
price_of-requires c = subst (λ (all : List Offer). length all < 2 ^ 32) (sym (c.as_slice.ensures.value ∙ c.in_ok-offers.ensures)) (offers_few c.args.rows.now.list c.requires c.args.id)
