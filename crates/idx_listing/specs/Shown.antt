-- What an index of listings shows.
use Rattle.std.specs.Prelude.{ℕ, List, length, Option}
use Rattle.std.specs.List.{filter_map}
use Rattle.std.specs.Option.{option_map}
use Rattle.shop_defs.specs.declared.row.Row.{Row}
use Rattle.renewed.specs.Showing.{Shows, value_at}
use Rattle.product_meanings.specs.declared.listing.ListingPrice.{ListingPrice}
use Rattle.product_meanings.specs.declared.listing.ListingPage.{ListingPage}
use Rattle.product_meanings.specs.Listings.{listing_price, listed, page_of}

-- two tables: each live product's id with its price, and each live category's with the ids of the products that it lists
pub record Listings : Type 0 where
  pub prices : List (ℕ × ListingPrice)
  pub lists : List (ℕ × List ℕ)

-- both show what the rows mean
pub record ShowsListings (rows : List Row) (index : Listings) : Type 0 where
  pub prices : Shows (listing_price rows) index.prices
  pub lists : Shows (listed rows) index.lists

-- the product with its price: none where it has none
abbrev pub priced : List (ℕ × ListingPrice) → ℕ → Option (ℕ × ListingPrice)
priced prices id = option_map (λ price. (id, price)) (value_at prices id)

-- a page of a category that lists these products, at those prices
abbrev pub page_with : List (ℕ × ListingPrice) → ℕ → List ℕ → ListingPage
page_with prices page all = record { total = length all; items = filter_map (priced prices) (page_of page all) }
