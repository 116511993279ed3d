-- The rows that a cart's prices are made of: which rows of a shop they are.
use Rattle.std.specs.Prelude.{◌≡◌, ℕ, Bool, true, false, List, [], ◌∷◌, map, Option, Some, None, IsSome, option_and_then, unwrap_or}
use Rattle.std.specs.Option.{option_map, option_map_or}
use Rattle.shop_defs.specs.declared.entity.Entity.TheVariants as E
use Rattle.shop_defs.specs.declared.row.Row.{Row}
use Rattle.shop_defs.specs.declared.words.FieldName.TheVariants as N
use Rattle.shop_defs.specs.Rows.{row_at}
use Rattle.row_fields.specs.Fields.{number_of, id_at, id_in}
use Rattle.shop_chain.specs.declared.languages.TheConstants.{SYSTEM_LANGUAGE}
use Rattle.shop_chain.specs.Chains.{chain_of}
use Rattle.shop_chain.specs.Inheriting.{effective}
use Rattle.shop_chain.specs.Translations.{text_of}
use Rattle.cart_price.specs.Lent.{LineRows, PromotionRows, CartRows}
use Rattle.cart_collect.specs.declared.fault.CollectFault.{CollectFault}
use Rattle.cart_collect.specs.declared.fault.CollectFault.TheVariants as F
use Rattle.cart_collect.specs.Finding.{live_at, live_of, naming}
use Rattle.cart_collect.specs.Ranks.{in_order, line_rank, promotion_rank}

-- ---- a line

abbrev pub is_any : List Row → Bool
is_any [] = false
is_any (row ∷ rows) = true

-- the product's own price rows
abbrev pub own_prices : List Row → Row → List Row
own_prices rows product = naming rows E.ProductPrice N.Product product.key.id

-- the price rows that count: the product's own, and where it has none its parent's
abbrev pub or_parents : List Row → Option Row → List Row → List Row
or_parents rows parent (price ∷ prices) = price ∷ prices
or_parents rows None [] = []
or_parents rows (Some parent) [] = own_prices rows parent

-- the id of the tax that counts: the product's own, or the one that it inherits
abbrev pub tax_id : Row → Option Row → Option ℕ
tax_id product parent = option_and_then id_in (effective product parent (number_of E.Product N.Tax))

-- the product's name in the first of the languages that has one, in each of them its own before its parent's
abbrev pub name_of : List Row → List ℕ → Row → Option Row → Option (List ℕ)
name_of rows languages product parent = text_of (row_at rows) 0 product.key.id (option_map (λ row. row.key.id) parent) (number_of E.ProductTranslation N.Name) languages

-- a line whose product is there
abbrev pub with_product : List Row → List ℕ → Row → Row → Option Row → LineRows
with_product rows languages line product parent = record {
  line = line;
  product = Some product;
  parent = parent;
  has_variants = is_any (naming rows E.Product N.Parent product.key.id);
  prices = or_parents rows parent (own_prices rows product);
  tax = live_at rows E.Tax (tax_id product parent);
  listed = None;  -- a cart has no currency yet
  name = name_of rows languages product parent;
}

-- a line whose product isn't
abbrev pub without_product : Row → LineRows
without_product line = record { line = line; product = None; parent = None; has_variants = false; prices = []; tax = None; listed = None; name = None }

abbrev pub by_product : List Row → List ℕ → Row → Option Row → LineRows
by_product rows languages line None = without_product line
by_product rows languages line (Some product) = with_product rows languages line product (live_at rows E.Product (id_at product (number_of E.Product N.Parent)))

-- a line with the rows that its price is made of
abbrev pub line_of : List Row → List ℕ → Row → LineRows
line_of rows languages line = by_product rows languages line (live_at rows E.Product (id_at line (number_of E.CartLine N.Product)))

-- ---- a promotion

abbrev pub promotion_of : List Row → Row → PromotionRows
promotion_of rows promotion = record { promotion = promotion; discounts = naming rows E.PromotionDiscount N.Promotion promotion.key.id }

-- ---- the cart

-- the languages that names are looked for in: the chain of the cart's language, or of the system language
abbrev pub languages_of : List Row → Row → List ℕ
languages_of rows cart = chain_of (row_at rows) (unwrap_or (id_at cart (number_of E.Cart N.Language)) SYSTEM_LANGUAGE)

-- its lines, by position, then by id
abbrev pub lines_of : List Row → ℕ → List Row
lines_of rows cart = in_order line_rank (naming rows E.CartLine N.Cart cart)

-- all promotions, by priority from the highest on, then by id
abbrev pub promotions_of : List Row → List Row
promotions_of rows = in_order promotion_rank (live_of rows E.Promotion)

-- the price rows of a method, if there is one
abbrev pub shipping_of : List Row → Option Row → List Row
shipping_of rows method = option_map_or (λ row. naming rows E.ShippingPrice N.Method row.key.id) method []

abbrev pub with_method : List Row → Row → Option Row → CartRows
with_method rows cart method = record {
  cart = cart;
  lines = map (line_of rows (languages_of rows cart)) (lines_of rows cart.key.id);
  codes = naming rows E.CartCode N.Cart cart.key.id;
  promotions = map (promotion_of rows) (promotions_of rows);
  method = method;
  method_tax = live_at rows E.Tax (option_and_then (λ row. id_at row (number_of E.ShippingMethod N.Tax)) method);
  shipping = shipping_of rows method;
  currency = None;  -- nor has the shop
}

-- a cart with the rows that its prices are made of
abbrev pub cart_data : List Row → Row → CartRows
cart_data rows cart = with_method rows cart (live_at rows E.ShippingMethod (id_at cart (number_of E.Cart N.Method)))

-- and so the live cart with that id, if there is one
abbrev pub collected : List Row → ℕ → Option CartRows
collected rows cart = option_map (cart_data rows) (live_at rows E.Cart (Some cart))

-- why there is none: there is no such cart, or there is one and memory ran out
abbrev pub IsMissing : List Row → ℕ → CollectFault → Type 0
IsMissing rows cart F.NoSuchCart = collected rows cart ≡ None
IsMissing rows cart F.NoMemory = IsSome (collected rows cart)
