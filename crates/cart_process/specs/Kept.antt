-- What is relied on of the rows that a cart's prices are made of: each is a row of its entity, as the entity has it.
use Rattle.std.specs.Prelude.{◌≤◌, ◌^◌, length, Option, Some, None}
use Rattle.std.specs.List.{AllByRecursion}
use Rattle.shop_defs.specs.declared.entity.Entity.{Entity}
use Rattle.shop_defs.specs.declared.entity.Entity.TheVariants as E
use Rattle.shop_defs.specs.declared.row.Row.{Row}
use Rattle.row_fields.specs.Checked.{IsRowOf}
use Rattle.cart_price.specs.Lent.{LineRows, CartRows}
use Rattle.cart_process.specs.declared.deliveries.Shipped.{Shipped}

-- if there is a row, it is one of the entity
abbrev pub IsRowIfAny : Entity → Option Row → Type 0
IsRowIfAny entity None = Unit {0}
IsRowIfAny entity (Some row) = IsRowOf entity row

-- so are the rows of a line
pub record IsLineKept (rows : LineRows) : Type 0 where
  pub line : IsRowOf E.CartLine rows.line
  pub product : IsRowIfAny E.Product rows.product
  pub parent : IsRowIfAny E.Product rows.parent
  pub prices : AllByRecursion (IsRowOf E.ProductPrice) rows.prices
  pub tax : IsRowIfAny E.Tax rows.tax

-- so are those of a cart, of at most 100 lines
pub record IsCartKept (rows : CartRows) : Type 0 where
  pub cart : IsRowOf E.Cart rows.cart
  pub few : length rows.lines ≤ 100
  pub lines : AllByRecursion IsLineKept rows.lines
  pub method_tax : IsRowIfAny E.Tax rows.method_tax
  pub shipping : AllByRecursion (IsRowOf E.ShippingPrice) rows.shipping

-- what a delivery costs, and its tax rate, are in their ranges
pub record ShippedFits (shipped : Shipped) : Type 0 where
  pub cost : shipped.cost ≤ 10 ^ 12
  pub rate : shipped.rate ≤ 10 ^ 4
