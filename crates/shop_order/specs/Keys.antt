-- Where the rows of stock, carts and orders stand.
use Rattle.std.specs.Prelude.{ℕ, ◌+◌}
use Rattle.shop_defs.specs.declared.entity.Entity.{Entity}
use Rattle.shop_defs.specs.declared.entity.Entity.TheVariants as E
use Rattle.shop_defs.specs.declared.key.Key.{Key}

-- the key of a live row
abbrev pub live_key : Entity → ℕ → ℕ → Key
live_key entity id second = record { entity = entity; version = 0; id = id; second = second }

abbrev pub product_key : ℕ → Key
product_key product = live_key E.Product product 0

-- the stock of a product has the product's id
abbrev pub stock_key : ℕ → Key
stock_key product = live_key E.Stock product 0

abbrev pub cart_key : ℕ → Key
cart_key cart = live_key E.Cart cart 0

abbrev pub order_key : ℕ → Key
order_key order = live_key E.Order order 0

-- the lines of an order have positions from 1 on
abbrev pub line_key : ℕ → ℕ → Key
line_key order position = live_key E.OrderLine order position

-- what it bears at a tax rate stands under the rate and 1
abbrev pub tax_key : ℕ → ℕ → Key
tax_key order rate = live_key E.OrderTax order (rate + 1)
