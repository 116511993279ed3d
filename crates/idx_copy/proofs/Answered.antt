-- What tables show is what a question is answered.
use Rattle.std.proofs.Common.{◌≡◌, ℕ, List, Option, sym, ap, ◌∙◌}
use Rattle.std.specs.Option.{option_map}
use Rattle.shop_defs.specs.declared.entity.Entity.TheVariants as E
use Rattle.shop_defs.specs.declared.row.Row.{Row}
use Rattle.shop_requests.specs.declared.query.Query.TheVariants as Q
use Rattle.renewed.specs.Showing.{value_at}
use Rattle.shop_meanings.specs.declared.standing.Standing.{Standing}
use Rattle.shop_meanings.specs.Live.{live_key}
use Rattle.product_meanings.specs.declared.listing.ListingPrice.{ListingPrice}
use Rattle.product_meanings.specs.declared.listing.ListingPage.{ListingPage}
use Rattle.product_meanings.specs.Listings.{listing}
use Rattle.product_meanings.specs.Direct.{tree, members, price, page, or_missing, direct}
use Rattle.idx_copy.specs.declared.tables.Tables.{Tables}
use Rattle.idx_copy.specs.Answers.{AreTablesOf}

module _ (rows : List Row) (tables : Tables) (of : AreTablesOf rows tables) where
  pub tree_told : (category : ℕ) (found : Option Standing) → found ≡ value_at tables.paths category → direct rows (Q.CategoryTree category) ≡ or_missing (live_key E.Category category) (option_map tree found)
  tree_told category found e = ap (λ (o : Option Standing). or_missing (live_key E.Category category) (option_map tree o)) (sym (e ∙ of.paths.each category))

  pub members_told : (stream : ℕ) (found : Option (List ℕ)) → found ≡ value_at tables.streams stream → direct rows (Q.StreamMembers stream) ≡ or_missing (live_key E.Stream stream) (option_map members found)
  members_told stream found e = ap (λ (o : Option (List ℕ)). or_missing (live_key E.Stream stream) (option_map members o)) (sym (e ∙ of.streams.each stream))

  pub price_told : (product : ℕ) (found : Option ListingPrice) → found ≡ value_at tables.listings.prices product → direct rows (Q.ListingPrice product) ≡ or_missing (live_key E.Product product) (option_map price found)
  price_told product found e = ap (λ (o : Option ListingPrice). or_missing (live_key E.Product product) (option_map price o)) (sym (e ∙ of.listings.prices.each product))

  pub page_told : (category number : ℕ) (found : Option ListingPage) → found ≡ listing rows category number → direct rows (Q.Listing category number) ≡ or_missing (live_key E.Category category) (option_map page found)
  page_told category number found e = ap (λ (o : Option ListingPage). or_missing (live_key E.Category category) (option_map page o)) (sym e)
