-- What replies say of products, as JSON values: which are members of a stream, and at which prices listings show them.
use Rattle.std.specs.Prelude.{ℕ, ℤ, List, [], ◌∷◌, map, codes, Option, Some, None}
use Rattle.serde_json.specs.Data.{Data, null, array, Items}
use Rattle.serde_json.specs.View.{items_of}
use Rattle.product_meanings.specs.declared.listing.ListingPage.{ListingPage}
use Rattle.product_meanings.specs.declared.listing.ListingPrice.{ListingPrice}
use Rattle.reply_json.specs.Objects.{object_of, count_data, number_data, id_data}
use Rattle.reply_json.specs.Trees.{id_items}

-- the members of a stream, by the rows after so many entries
abbrev pub members_data : ℕ → List ℕ → Data
members_data front members = object_of ((codes "front", count_data front) ∷ (codes "members", array (id_items members)) ∷ [])

abbrev pub number_or_null : Option ℤ → Data
number_or_null None = null
number_or_null (Some amount) = number_data amount

abbrev pub id_or_null : Option ℕ → Data
id_or_null None = null
id_or_null (Some id) = id_data id

-- the price of a product, by the rows after so many entries
abbrev pub price_data : ℕ → ListingPrice → Data
price_data front price =
    object_of
    ((codes "cheapest", id_or_null price.cheapest) ∷ (codes "count", count_data price.count) ∷ (codes "front", count_data front)
    ∷ (codes "max", number_or_null price.max) ∷ (codes "min", number_or_null price.min) ∷ [])

-- a product of a page, with its price
abbrev pub item_data : ℕ × ListingPrice → Data
item_data item =
    object_of
    ((codes "cheapest", id_or_null item.1.cheapest) ∷ (codes "count", count_data item.1.count) ∷ (codes "id", id_data item.0)
    ∷ (codes "max", number_or_null item.1.max) ∷ (codes "min", number_or_null item.1.min) ∷ [])

abbrev pub page_items : List (ℕ × ListingPrice) → Items
page_items items = items_of (map item_data items)

-- a page of what a category lists, by the rows after so many entries
abbrev pub page_data : ℕ → ListingPage → Data
page_data front page =
    object_of ((codes "front", count_data front) ∷ (codes "items", array (page_items page.items)) ∷ (codes "total", count_data page.total) ∷ [])
