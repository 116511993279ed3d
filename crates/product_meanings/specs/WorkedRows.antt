-- A shop's products, as the definitions have them.
use Rattle.std.specs.Prelude.{◌≡◌, ℕ, pos, ℤ, Bool, true, false, List, [], ◌∷◌, Some, None, codes}
use Rattle.shop_defs.specs.declared.entity.Entity.TheVariants as E
use Rattle.shop_defs.specs.declared.row.Row.{Row}
use Rattle.shop_defs.specs.declared.value.Value.{Value}
use Rattle.shop_defs.specs.declared.value.Value.TheVariants as V
use Rattle.product_meanings.specs.Streams.{members}
use Rattle.product_meanings.specs.Listings.{listing_price, listed, listing}

-- a category without a parent, and one below another
abbrev top : ℕ → Row
top id = record { key = record { entity = E.Category; version = 0; id = id; second = 0 }; fields = (2, V.Flag true) ∷ (3, V.Int (pos 0)) ∷ []; ops = [] }

abbrev below : ℕ → ℕ → Row
below id parent = record { key = record { entity = E.Category; version = 0; id = id; second = 0 }; fields = (1, V.Ident parent) ∷ (2, V.Flag true) ∷ (3, V.Int (pos 0)) ∷ []; ops = [] }

-- a product at a gross price, a variant with a price of its own, and one without
abbrev shirt : ℕ → ℤ → Row
shirt id gross = record { key = record { entity = E.Product; version = 0; id = id; second = 0 }; fields = (2, V.Text (codes "SHIRT")) ∷ (3, V.Flag true) ∷ (5, V.Int gross) ∷ []; ops = [] }

abbrev variant : ℕ → ℕ → Bool → ℤ → Row
variant id parent active gross = record { key = record { entity = E.Product; version = 0; id = id; second = 0 }; fields = (1, V.Ident parent) ∷ (3, V.Flag active) ∷ (5, V.Int gross) ∷ []; ops = [] }

abbrev plain : ℕ → ℕ → Row
plain id parent = record { key = record { entity = E.Product; version = 0; id = id; second = 0 }; fields = (1, V.Ident parent) ∷ (3, V.Flag true) ∷ []; ops = [] }

-- a link of a product to a category
abbrev link : ℕ → ℕ → Row
link product category = record { key = record { entity = E.ProductCategory; version = 0; id = product; second = category }; fields = []; ops = [] }

-- a stream, and a filter of it: gross prices from a least one on
abbrev stream : ℕ → Row
stream id = record { key = record { entity = E.Stream; version = 0; id = id; second = 0 }; fields = (1, V.Text (codes "Dear")) ∷ []; ops = [] }

abbrev from_price : ℕ → ℕ → ℤ → Row
from_price id of low = record { key = record { entity = E.StreamFilter; version = 0; id = id; second = 0 }; fields = (1, V.Ident of) ∷ (3, V.Text (codes "range")) ∷ (4, V.Text (codes "gross")) ∷ (6, V.Int low) ∷ []; ops = [] }

-- the shirt 32 in the category 18, which is below 17 and that below 16, with a variant that has no price and one that has
abbrev shop : ℤ → ℤ → List Row
shop gross large = top 16 ∷ below 17 16 ∷ below 18 17 ∷ shirt 32 gross ∷ plain 33 32 ∷ variant 34 32 true large ∷ link 32 18 ∷ stream 96 ∷ from_price 97 96 (pos 12000) ∷ stream 98 ∷ []

-- the same with two variants at a price, active or not
abbrev priced : Bool → List Row
priced active = top 16 ∷ shirt 32 (pos 11900) ∷ variant 33 32 active (pos 900) ∷ variant 34 32 active (pos 900) ∷ link 32 16 ∷ []

-- A variant without a price of its own follows its parent's into a stream and into a listing.
pub record ShirtsAreSold : Type 0 where
  pub none_dear : members (shop (pos 11900) (pos 11000)) 96 ≡ Some []
  pub dear : members (shop (pos 12500) (pos 11000)) 96 ≡ Some (32 ∷ 33 ∷ [])
  pub no_filter : members (shop (pos 12500) (pos 11000)) 98 ≡ Some []
  pub no_stream : members (shop (pos 12500) (pos 11000)) 97 ≡ None
  pub price : listing_price (shop (pos 11900) (pos 13090)) 32 ≡ Some (record { min = Some (pos 11900); max = Some (pos 13090); cheapest = Some 33; count = 2 })
  pub equal : listing_price (priced true) 32 ≡ Some (record { min = Some (pos 900); max = Some (pos 900); cheapest = Some 33; count = 2 })
  pub inactive : listing_price (priced false) 32 ≡ Some (record { min = None; max = None; cheapest = None; count = 0 })
  pub above : listed (shop (pos 11900) (pos 13090)) 16 ≡ Some (32 ∷ [])
  pub page : listing (shop (pos 11900) (pos 13090)) 16 1 ≡ Some (record { total = 1; items = (32, record { min = Some (pos 11900); max = Some (pos 13090); cheapest = Some 33; count = 2 }) ∷ [] })
  pub past : listing (shop (pos 11900) (pos 13090)) 16 2 ≡ Some (record { total = 1; items = [] })
