-- A day of a shop, computed by the definitions: stock comes, an order is placed, cancelled and reopened.
use Rattle.std.specs.Prelude.{◌≡◌, ℕ, pos, negsuc, List, [], ◌∷◌, codes, Some, None, Ok, Err, true}
use Rattle.shop_defs.specs.declared.broken.Broken.TheVariants as B
use Rattle.shop_defs.specs.declared.entity.Entity.{Entity}
use Rattle.shop_defs.specs.declared.entity.Entity.TheVariants as E
use Rattle.shop_defs.specs.declared.row.Row.{Row}
use Rattle.shop_defs.specs.declared.value.Value.{Value}
use Rattle.shop_defs.specs.declared.value.Value.TheVariants as V
use Rattle.cart_price.specs.declared.priced.Block.{Block}
use Rattle.cart_price.specs.declared.priced.PricedCart.{PricedCart}
use Rattle.cart_price.specs.declared.priced.Settled.{Settled}
use Rattle.shop_requests.specs.declared.command.Action.TheVariants as A
use Rattle.shop_order.specs.Adjusting.{adjust, available_after}
use Rattle.shop_order.specs.Held.{held}
use Rattle.shop_order.specs.Placing.{breaks_before, place, order_cart}
use Rattle.shop_order.specs.Steps.{step, step_value}
use Rattle.shop_order.specs.Stock.{available, adjusted}

abbrev row_of : Entity → ℕ → ℕ → List (ℕ × Value) → Row
row_of entity id second fields = record { key = record { entity = entity; version = 0; id = id; second = second }; fields = fields; ops = [] }

abbrev shirt : Row
shirt = row_of E.Product 33 0 ((2, V.Text (codes "SHIRT-S")) ∷ (3, V.Flag true) ∷ [])

abbrev stock : ℕ → Row
stock available = row_of E.Stock 33 0 ((1, V.Int (pos available)) ∷ (2, V.Int (pos 5)) ∷ [])

abbrev cart : Row
cart = row_of E.Cart 64 0 ((2, V.Text (codes "gross")) ∷ (3, V.Text (codes "horizontal")) ∷ (4, V.Int (pos 1)) ∷ (7, V.Ident 48) ∷ [])

abbrev cart_line : Row
cart_line = row_of E.CartLine 65 0 ((1, V.Ident 64) ∷ (2, V.Ident 33) ∷ (3, V.Int (pos 2)) ∷ (4, V.Int (pos 0)) ∷ [])

-- two shirts and their delivery, with so many pieces of the shirt wanted
abbrev priced : ℕ → List Block → PricedCart
priced quantity blocks = record {
  count = pos 2;
  delivery = Some (record { cost = pos 595; method = 48; rate = 1900 });
  delivery_discounts = [];
  discounts = [];
  goods = pos 23800;
  lines = record { id = 65; product = 33; quantity = quantity; rate = 1900; total = pos 23800; unit = pos 11900 } ∷ [];
  raw = pos 24395;
  tax = pos 3895;
  taxes = record { amount = pos 24395; rate = 1900; tax = pos 3895 } ∷ [];
  total = pos 24395;
  weight = pos 500;
  blocks = blocks;
}

abbrev settled : ℕ → List Block → Settled
settled quantity blocks = record { cart = priced quantity blocks; labels = codes "Shirt" ∷ codes "Parcel" ∷ []; rules = []; rounds = 2 }

abbrev order : List ℕ → Row
order state = row_of E.Order 80 0 ((1, V.Text state) ∷ (2, V.Int (pos 0)) ∷ (3, V.Text (codes "gross")) ∷ (4, V.Int (pos 24395)) ∷ (5, V.Int (pos 3895)) ∷ (6, V.Int (pos 0)) ∷ [])

abbrev shirts : Row
shirts = row_of E.OrderLine 80 1 ((1, V.Text (codes "product")) ∷ (2, V.Ident 33) ∷ (3, V.Text (codes "Shirt")) ∷ (4, V.Int (pos 2)) ∷ (5, V.Int (pos 11900)) ∷ (6, V.Int (pos 23800)) ∷ (7, V.Int (pos 1900)) ∷ [])

abbrev parcel : Row
parcel = row_of E.OrderLine 80 2 ((1, V.Text (codes "delivery")) ∷ (3, V.Text (codes "Parcel")) ∷ (4, V.Int (pos 1)) ∷ (5, V.Int (pos 595)) ∷ (6, V.Int (pos 595)) ∷ (7, V.Int (pos 1900)) ∷ [])

abbrev tax : Row
tax = row_of E.OrderTax 80 1901 ((1, V.Int (pos 24395)) ∷ (2, V.Int (pos 3895)) ∷ [])

abbrev shop : List Row
shop = shirt ∷ stock 5 ∷ cart ∷ cart_line ∷ []

-- the shop with the order, of which so many shirts are left
abbrev ordered_shop : ℕ → List ℕ → List Row
ordered_shop left state = shirt ∷ stock left ∷ order state ∷ shirts ∷ parcel ∷ tax ∷ []

pub record TheDay : Type 0 where
  -- five shirts come
  pub come : adjust (shirt ∷ []) 33 (pos 5) ≡ Ok (shirt ∷ stock 5 ∷ [])
  pub are_there : available_after (shirt ∷ []) 33 (pos 5) ≡ 5
  pub unknown : adjust (shirt ∷ []) 34 (pos 5) ≡ Err (B.NoSuchRow (record { entity = E.Product; version = 0; id = 34; second = 0 }))
  pub too_many : adjust (shirt ∷ []) 33 (pos 1000000001) ≡ Err (B.OutOfRange (codes "amount") (pos 1000000001))
  -- two of them are ordered, and the cart is gone
  pub is_free : breaks_before shop 64 80 ≡ None
  pub is_placed : order_cart shop 64 80 (pos 0) (Ok (settled 2 [])) ≡ Ok (ordered_shop 3 (codes "open"))
  pub again : order_cart (ordered_shop 3 (codes "open")) 64 80 (pos 0) (Err (B.NoSuchCart 64)) ≡ Err (B.OrderExists 80)
  pub other : order_cart (ordered_shop 3 (codes "open")) 64 81 (pos 0) (Err (B.NoSuchCart 64)) ≡ Err (B.NoSuchCart 64)
  pub short : place shop 64 80 (pos 0) (settled 6 []) ≡ Err (B.StockShort 33 (pos 5) (pos 6))
  pub blocked : place shop 64 80 (pos 0) (settled 6 (record { cause = codes "above_max"; line = 65 } ∷ [])) ≡ Err (B.Blocked 65 (codes "above_max"))
  -- what is left and what the order holds are what came
  pub left : available (ordered_shop 3 (codes "open")) 33 ≡ 3
  pub holds : held (ordered_shop 3 (codes "open")) 33 ≡ 2
  pub came : adjusted (ordered_shop 3 (codes "open")) 33 ≡ 5
  -- it can't be completed before it is worked on; it is cancelled, and reopened
  pub early : step (ordered_shop 3 (codes "open")) 80 A.Complete ≡ Err (B.BadTransition (codes "open") (codes "complete"))
  pub is_cancelled : step (ordered_shop 3 (codes "open")) 80 A.Cancel ≡ Ok (ordered_shop 5 (codes "cancelled"))
  pub cancelled_is : step_value (ordered_shop 3 (codes "open")) 80 A.Cancel ≡ pos 4
  pub holds_none : held (ordered_shop 5 (codes "cancelled")) 33 ≡ 0
  pub is_reopened : step (ordered_shop 5 (codes "cancelled")) 80 A.Reopen ≡ Ok (ordered_shop 3 (codes "open"))
  pub reopened_is : step_value (ordered_shop 5 (codes "cancelled")) 80 A.Reopen ≡ pos 1
  pub reopened_short : step (ordered_shop 1 (codes "cancelled")) 80 A.Reopen ≡ Err (B.StockShort 33 (pos 1) (pos 2))
  -- no more are taken than are left
  pub taken : adjust (ordered_shop 3 (codes "open")) 33 (negsuc 3) ≡ Err (B.StockShort 33 (pos 3) (pos 4))
