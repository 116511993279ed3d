-- At which prices products are listed, and which products a category lists.
use Rattle.std.specs.Prelude.{ℕ, ℤ, ◌-◌, ◌*◌, Bool, ◌&&◌, List, [], ◌∷◌, length, take, drop, fold, Option, None, Some, is_none, if◌then◌else◌}
use Rattle.std.specs.Int.Signed.{lt_z}
use Rattle.std.specs.List.{filter_map}
use Rattle.std.specs.Option.{option_map, option_and_then}
use Rattle.shop_defs.specs.declared.entity.Entity.TheVariants as E
use Rattle.shop_defs.specs.declared.row.Row.{Row}
use Rattle.shop_defs.specs.declared.table.TheConstants.{REFERENCES}
use Rattle.shop_defs.specs.declared.words.FieldName.TheVariants as N
use Rattle.shop_operations.specs.Parents.{parent_id}
use Rattle.row_fields.specs.Fields.{number_of, int_in}
use Rattle.shop_meanings.specs.Live.{live_row}
use Rattle.product_meanings.specs.declared.listing.ListingPrice.{ListingPrice}
use Rattle.product_meanings.specs.declared.listing.ListingPage.{ListingPage}
use Rattle.product_meanings.specs.Products.{product, variant_ids, value_of, is_active, is_among, or_else, own_links, with_above, picked}

-- a product at a price
abbrev pub Offer : Type 0
Offer = ℕ × ℤ

-- the product at the gross price that counts for it: none where it isn't active or has no price
abbrev pub offer_of : List Row → Row → Option Offer
offer_of rows row = if is_active row then option_map (λ gross. (row.key.id, gross)) (option_and_then int_in (value_of rows row (number_of E.Product N.Gross))) else None

-- the same by its id
abbrev pub offer : List Row → ℕ → Option Offer
offer rows id = option_and_then (offer_of rows) (product rows id)

-- what is sold for a product: its variants, and where it has none itself
abbrev pub sold_for : List Row → ℕ → List ℕ
sold_for rows id = or_else (variant_ids rows id) (id ∷ [])

-- what is offered for it, by id
abbrev pub offers : List Row → ℕ → List Offer
offers rows id = filter_map (offer rows) (sold_for rows id)

-- of two offers the cheaper, and of the same price the first
abbrev pub cheaper : Offer → Offer → Offer
cheaper first second = if lt_z second.1 first.1 then second else first

-- of two offers the dearer, and of the same price the first
abbrev pub dearer : Offer → Offer → Offer
dearer first second = if lt_z first.1 second.1 then second else first

-- the one that is chosen of all, each against those before it
abbrev pub best : (Offer → Offer → Offer) → List Offer → Option Offer
best choose [] = None
best choose (first ∷ rest) = Some (fold choose first rest)

-- what offers come to: the least and the greatest price, the first product at the least, and how many there are
abbrev pub price_of : List Offer → ListingPrice
price_of all = record {
  min = option_map (λ offer. offer.1) (best cheaper all);
  max = option_map (λ offer. offer.1) (best dearer all);
  cheapest = option_map (λ offer. offer.0) (best cheaper all);
  count = length all;
}

-- at which price a product is listed: none where there is no such live product
abbrev pub listing_price : List Row → ℕ → Option ListingPrice
listing_price rows id = option_map (λ _. price_of (offers rows id)) (product rows id)

-- ---- what a category lists

-- the category lists the product: it is active and no variant, and a link of its own is to the category or to one below it
abbrev pub is_listed : List Row → ℕ → Row → Bool
is_listed rows category row = is_active row && (is_none (parent_id REFERENCES row) && is_among (with_above rows (own_links rows row.key.id)) category)

-- the ids of the products that a category lists, ascending: none where there is no such live category
abbrev pub listed : List Row → ℕ → Option (List ℕ)
listed rows category = option_map (λ _. picked (is_listed rows category) rows) (live_row rows E.Category category)

-- the ids on the page of that number, counted from 1
abbrev pub page_of : ℕ → List ℕ → List ℕ
page_of page all = take 24 (drop (24 * (page - 1)) all)

-- what a page of a category shows: how many it lists in all, and the products of that page with their prices
abbrev pub listing : List Row → ℕ → ℕ → Option ListingPage
listing rows category page = option_map (λ all. record {
  total = length all;
  items = filter_map (λ id. option_map (λ price. (id, price)) (listing_price rows id)) (page_of page all);
}) (listed rows category)
