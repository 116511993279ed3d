-- The price of a line, or what keeps it from being ordered.
use Rattle.std.specs.Prelude.{◌≡◌, ℕ, ◌≤◌, ◌*◌, ◌^◌, Bool, true, false, not, ◌&&◌, nat_lt, List, Option, Some, None, is_none, if◌then◌else◌}
use Rattle.std.specs.Option.{option_map_or}
use Rattle.shop_defs.specs.declared.entity.Entity.TheVariants as E
use Rattle.shop_defs.specs.declared.row.Row.{Row}
use Rattle.shop_defs.specs.declared.words.FieldName.TheVariants as N
use Rattle.row_fields.specs.Fields.{number_of, is_set}
use Rattle.cart_price.specs.declared.priced.TaxState.{TaxState}
use Rattle.cart_price.specs.declared.priced.TaxState.TheVariants as S
use Rattle.cart_price.specs.Lent.{LineRows}
use Rattle.cart_process.specs.declared.line_price.Cause.{Cause}
use Rattle.cart_process.specs.declared.line_price.Cause.TheVariants as C
use Rattle.cart_process.specs.declared.line_price.LinePrice.{LinePrice}
use Rattle.cart_process.specs.Words.{count_at, effective_count, or_nothing}
use Rattle.cart_process.specs.Units.{unit_of}

-- how many pieces a line is of
abbrev pub quantity_of : Row → ℕ
quantity_of line = or_nothing (count_at line (number_of E.CartLine N.Quantity))

-- the weight of a piece
abbrev pub weight_of : Row → Option Row → ℕ
weight_of product parent = or_nothing (effective_count product parent (number_of E.Product N.Weight))

-- the product is active, and so is its parent, if it has one
abbrev pub is_active_if_any : Option Row → Bool
is_active_if_any row = option_map_or (λ row. is_set row (number_of E.Product N.Active)) row true

abbrev pub is_active : Row → Option Row → Bool
is_active product parent = is_set product (number_of E.Product N.Active) && is_active_if_any parent

-- fewer pieces, or more, than an order of the product may have
abbrev pub is_below_min : Row → Option Row → ℕ → Bool
is_below_min product parent quantity = option_map_or (λ least. nat_lt quantity least) (effective_count product parent (number_of E.Product N.MinOrder)) false

abbrev pub is_above_max : Row → Option Row → ℕ → Bool
is_above_max product parent quantity = option_map_or (λ most. nat_lt most quantity) (effective_count product parent (number_of E.Product N.MaxOrder)) false

-- what keeps a line from being ordered, whose product is there: the first that is so
abbrev pub cause_of : LineRows → Row → ℕ → Option ℕ → Option Cause
cause_of line product quantity unit =
    if not (is_active product line.parent) then Some C.Inactive
    else if line.has_variants then Some C.HasVariants
    else if is_none unit then Some C.NoPrice
    else if is_none line.tax then Some C.NoTax
    else if is_below_min product line.parent quantity then Some C.BelowMin
    else if is_above_max product line.parent quantity then Some C.AboveMax
    else None

-- a line has a price where nothing keeps it from being ordered but its quantity
abbrev pub has_price : Option Cause → Bool
has_price None = true
has_price (Some C.BelowMin) = true
has_price (Some C.AboveMax) = true
has_price (Some cause) = false

-- the tax rate: none in a cart without tax
abbrev pub rate_in : Row → ℕ
rate_in tax = or_nothing (count_at tax (number_of E.Tax N.Rate))

abbrev pub rate_of : TaxState → Option Row → ℕ
rate_of S.Free tax = 0
rate_of state tax = option_map_or rate_in tax 0

abbrev pub without_price : Option Cause → LinePrice
without_price cause = record { unit = 0; rate = 0; pieces = 0; weight = 0; cause = cause }

abbrev pub price_by : TaxState → LineRows → Row → ℕ → Option ℕ → Option Cause → LinePrice
price_by state line product quantity unit cause =
    if has_price cause
    then record { unit = or_nothing unit; rate = rate_of state line.tax; pieces = quantity; weight = quantity * weight_of product line.parent; cause = cause }
    else without_price cause

-- what a line costs whose product is there
abbrev pub price_of : TaxState → List ℕ → LineRows → Row → ℕ → LinePrice
price_of state rules line product quantity =
    let unit = unit_of state rules line product quantity in
    price_by state line product quantity unit (cause_of line product quantity unit)

abbrev pub line_price_by : TaxState → List ℕ → LineRows → Option Row → LinePrice
line_price_by state rules line None = without_price (Some C.Absent)
line_price_by state rules line (Some product) = price_of state rules line product (quantity_of line.line)

-- what a line of a cart costs, by the rules that hold
unfoldable pub line_price : TaxState → List ℕ → LineRows → LinePrice
line_price state rules line = line_price_by state rules line line.product

-- the numbers of a line are in their ranges, and a line without a price is of no pieces that count
pub record PriceFits (price : LinePrice) : Type 0 where
  pub unit : price.unit ≤ 10 ^ 12
  pub rate : price.rate ≤ 10 ^ 4
  pub pieces : price.pieces ≤ 10 ^ 4
  pub weight : price.weight ≤ 10 ^ 13
  pub blank : has_price price.cause ≡ false → price.pieces ≡ 0
