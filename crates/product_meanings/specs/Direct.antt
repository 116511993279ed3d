-- What a question about all rows is answered: where a category stands, which products are members of a stream, at which price a
-- product is listed, and a page of what a category lists.
use Rattle.std.specs.Prelude.{ℕ, List, Option, None, Some, Result, Ok, Err}
use Rattle.std.specs.Option.{option_map}
use Rattle.shop_defs.specs.declared.broken.Broken.{Broken}
use Rattle.shop_defs.specs.declared.broken.Broken.TheVariants.{NoSuchRow}
use Rattle.shop_defs.specs.declared.entity.Entity.TheVariants as E
use Rattle.shop_defs.specs.declared.key.Key.{Key}
use Rattle.shop_defs.specs.declared.row.Row.{Row}
use Rattle.shop_requests.specs.declared.query.Query.{Query}
use Rattle.shop_requests.specs.declared.query.Query.TheVariants as Q
use Rattle.shop_meanings.specs.declared.standing.Standing.{Standing}
use Rattle.shop_meanings.specs.Live.{live_key}
use Rattle.shop_meanings.specs.Categories.{standing}
use Rattle.product_meanings.specs.declared.listing.ListingPrice.{ListingPrice}
use Rattle.product_meanings.specs.declared.listing.ListingPage.{ListingPage}
use Rattle.product_meanings.specs.Streams as streams
use Rattle.product_meanings.specs.Listings.{listing_price, listing}

-- what is told
pub data Told : Type 0 where
  tree : Standing → Told
  members : List ℕ → Told
  price : ListingPrice → Told
  page : ListingPage → Told

-- the key of the live row that the question names
abbrev pub asked_key : Query → Key
asked_key (Q.CategoryTree category) = live_key E.Category category
asked_key (Q.StreamMembers stream) = live_key E.Stream stream
asked_key (Q.ListingPrice product) = live_key E.Product product
asked_key (Q.Listing category number) = live_key E.Category category

-- what the question means over the rows: none where the row that it names isn't there
abbrev pub meaning : List Row → Query → Option Told
meaning rows (Q.CategoryTree category) = option_map tree (standing rows category)
meaning rows (Q.StreamMembers stream) = option_map members (streams.members rows stream)
meaning rows (Q.ListingPrice product) = option_map price (listing_price rows product)
meaning rows (Q.Listing category number) = option_map page (listing rows category number)

abbrev pub or_missing : Key → Option Told → Result Told Broken
or_missing key None = Err (NoSuchRow key)
or_missing key (Some told) = Ok told

-- what the question is answered over the rows: what it means, or that no row has the key that it names
abbrev pub direct : List Row → Query → Result Told Broken
direct rows query = or_missing (asked_key query) (meaning rows query)
