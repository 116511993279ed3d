-- The numbers of a line, and of a delivery, are in their ranges.
use Rattle.std.proofs.Common.{◌≡◌, ℕ, ◌*◌, ◌≤◌, pos, Bool, true, false, true≢false, cond, List, [], ◌∷◌, Option, Some, None, IfSome, refl, sym, ◌∙◌, arith}
use Rattle.std.proofs.Math.Nat.{mul-le-mul_left}
use Rattle.std.specs.Prelude.{◌==◌}
use Rattle.std.specs.List.{AllByRecursion}
use Rattle.shop_defs.specs.declared.entity.Entity.TheVariants as E
use Rattle.shop_defs.specs.declared.row.Row.{Row}
use Rattle.row_fields.specs.Checked.{IsRowOf}
use Rattle.cart_price.specs.declared.priced.TaxState.{TaxState}
use Rattle.cart_price.specs.declared.priced.TaxState.TheVariants.{Gross, Net, Free}
use Rattle.cart_price.specs.Lent.{LineRows}
use Rattle.cart_process.specs.declared.deliveries.Measures.{Measures}
use Rattle.cart_process.specs.declared.line_price.Cause.{Cause}
use Rattle.cart_process.specs.declared.line_price.Cause.TheVariants as C
use Rattle.cart_process.specs.Deliveries.{shipped_by, shipped_of, shipping_cost}
use Rattle.cart_process.specs.Kept.{IsLineKept, IsRowIfAny, ShippedFits}
use Rattle.cart_process.specs.LinePrices.{PriceFits, cause_of, has_price, line_price, line_price_by, price_of, quantity_of, rate_of, weight_of, without_price}
use Rattle.cart_process.specs.Priced.{line_prices}
use Rattle.cart_process.specs.Units.{deciding, own_price, price_in, unit_by, unit_of}
use Rattle.cart_process.specs.Words.{or_nothing}
use Rattle.cart_process.proofs.FieldNumbers as numbers
use Rattle.cart_process.proofs.Bounds as bounds
use Rattle.cart_process.proofs.Bounds.{count_within, deciding-kept, effective_within, or_nothing-within}

price_in-within : (state : TaxState) (row : Row) → IsRowOf E.ProductPrice row → IfSome (price_in state row) (λ n. n ≤ 1000000000000)
price_in-within Gross row kept = rw numbers.price_gross (count_within E.ProductPrice row 5 1000000000000 (pos 0) bounds.price_gross kept)
price_in-within Net row kept = rw numbers.price_net (count_within E.ProductPrice row 6 1000000000000 (pos 0) bounds.price_net kept)
price_in-within Free row kept = rw numbers.price_net (count_within E.ProductPrice row 6 1000000000000 (pos 0) bounds.price_net kept)

own_price-within : (state : TaxState) (product : Row) (parent : Option Row) → IsRowOf E.Product product → IsRowIfAny E.Product parent → IfSome (own_price state product parent) (λ n. n ≤ 1000000000000)
own_price-within Gross product parent kept parent_kept = rw numbers.product_gross (effective_within product parent 5 1000000000000 (pos 0) bounds.product_gross kept parent_kept)
own_price-within Net product parent kept parent_kept = rw numbers.product_net (effective_within product parent 6 1000000000000 (pos 0) bounds.product_net kept parent_kept)
own_price-within Free product parent kept parent_kept = rw numbers.product_net (effective_within product parent 6 1000000000000 (pos 0) bounds.product_net kept parent_kept)

unit_by-within : (state : TaxState) (product : Row) (parent price : Option Row) → IsRowOf E.Product product → IsRowIfAny E.Product parent → IfSome price (IsRowOf E.ProductPrice) → IfSome (unit_by state product parent price) (λ n. n ≤ 1000000000000)
unit_by-within state product parent None kept parent_kept price_kept = own_price-within state product parent kept parent_kept
unit_by-within state product parent (Some row) kept parent_kept price_kept = price_in-within state row price_kept

rate_of-within : (state : TaxState) (tax : Option Row) → IsRowIfAny E.Tax tax → rate_of state tax ≤ 10000
rate_of-within Free tax kept = omega arith
rate_of-within Gross None kept = omega arith
rate_of-within Net None kept = omega arith
rate_of-within Gross (Some row) kept = rw numbers.tax_rate (or_nothing-within 10000 _ (count_within E.Tax row 2 10000 (pos 0) bounds.tax_rate kept))
rate_of-within Net (Some row) kept = rw numbers.tax_rate (or_nothing-within 10000 _ (count_within E.Tax row 2 10000 (pos 0) bounds.tax_rate kept))

quantity_of-within : (line : Row) → IsRowOf E.CartLine line → quantity_of line ≤ 10000
quantity_of-within line kept = rw numbers.line_quantity (or_nothing-within 10000 _ (count_within E.CartLine line 3 10000 (pos 1) bounds.line_quantity kept))

weight_of-within : (product : Row) (parent : Option Row) → IsRowOf E.Product product → IsRowIfAny E.Product parent → weight_of product parent ≤ 1000000000
weight_of-within product parent kept parent_kept = rw numbers.product_weight (or_nothing-within 1000000000 _ (effective_within product parent 7 1000000000 (pos 0) bounds.product_weight kept parent_kept))

without-fits : (cause : Option Cause) → PriceFits (without_price cause)
without-fits cause = record { unit = omega arith; rate = omega arith; pieces = omega arith; weight = omega arith; blank = λ e. refl }

times : (a b : ℕ) → a ≤ 10000 → b ≤ 1000000000 → a * b ≤ 10000000000000
times a b low high = omega (arith, mul-le-mul_left a high, low)

price-fits : (state : TaxState) (rules : List ℕ) (rows : LineRows) (product : Row) → IsLineKept rows → IsRowOf E.Product product → PriceFits (price_of state rules rows product (quantity_of rows.line))
price-fits state rules rows product kept product_kept =
    by (has_price (cause_of rows product (quantity_of rows.line) (unit_of state rules rows product (quantity_of rows.line)))) refl
    (or_nothing-within 1000000000000 _ (unit_by-within state product rows.parent (deciding rules (quantity_of rows.line) rows.prices) product_kept kept.parent (deciding-kept (IsRowOf E.ProductPrice) rules (quantity_of rows.line) rows.prices kept.prices)))
    (rate_of-within state rows.tax kept.tax)
    (quantity_of-within rows.line kept.line)
    (times (quantity_of rows.line) (weight_of product rows.parent) (quantity_of-within rows.line kept.line) (weight_of-within product rows.parent product_kept kept.parent))
  where
    by : (has : Bool) → has_price (cause_of rows product (quantity_of rows.line) (unit_of state rules rows product (quantity_of rows.line))) ≡ has
        → or_nothing (unit_of state rules rows product (quantity_of rows.line)) ≤ 1000000000000 → rate_of state rows.tax ≤ 10000 → quantity_of rows.line ≤ 10000 → quantity_of rows.line * weight_of product rows.parent ≤ 10000000000000
        → PriceFits (cond has (record {
          unit = or_nothing (unit_of state rules rows product (quantity_of rows.line));
          rate = rate_of state rows.tax;
          pieces = quantity_of rows.line;
          weight = quantity_of rows.line * weight_of product rows.parent;
          cause = cause_of rows product (quantity_of rows.line) (unit_of state rules rows product (quantity_of rows.line));
        }) (without_price (cause_of rows product (quantity_of rows.line) (unit_of state rules rows product (quantity_of rows.line)))))
    by true e unit rate pieces weight = record { unit = unit; rate = rate; pieces = pieces; weight = weight; blank = λ none. absurd (true≢false (sym e ∙ none)) }
    by false e unit rate pieces weight = without-fits _

pub line_price-fits : (state : TaxState) (rules : List ℕ) (rows : LineRows) → IsLineKept rows → PriceFits (line_price state rules rows)
unfolding line_price
line_price-fits state rules rows kept = by rows.product kept.product
  where
    by : (product : Option Row) → IsRowIfAny E.Product product → PriceFits (line_price_by state rules rows product)
    by None k = without-fits (Some C.Absent)
    by (Some product) k = price-fits state rules rows product kept k

pub prices-fit : (state : TaxState) (rules : List ℕ) (lines : List LineRows) → AllByRecursion IsLineKept lines → AllByRecursion PriceFits (line_prices state rules lines)
prices-fit state rules [] all = tt
prices-fit state rules (rows ∷ lines) all = (line_price-fits state rules rows all.0, prices-fit state rules lines all.1)

-- ---- the delivery

shipping_cost-within : (state : TaxState) (row : Row) → IsRowOf E.ShippingPrice row → shipping_cost state row ≤ 1000000000000
shipping_cost-within Gross row kept = rw numbers.shipping_gross (or_nothing-within 1000000000000 _ (count_within E.ShippingPrice row 6 1000000000000 (pos 0) bounds.shipping_gross kept))
shipping_cost-within Net row kept = rw numbers.shipping_net (or_nothing-within 1000000000000 _ (count_within E.ShippingPrice row 7 1000000000000 (pos 0) bounds.shipping_net kept))
shipping_cost-within Free row kept = rw numbers.shipping_net (or_nothing-within 1000000000000 _ (count_within E.ShippingPrice row 7 1000000000000 (pos 0) bounds.shipping_net kept))

shipped_by-fits : (state : TaxState) (tax : Option Row) (cause : Option Cause) (price : Option Row) → IsRowIfAny E.Tax tax → IfSome price (IsRowOf E.ShippingPrice) → IfSome (shipped_by state tax cause price) ShippedFits
shipped_by-fits state tax None (Some row) tax_kept kept = record { cost = shipping_cost-within state row kept; rate = rate_of-within state tax tax_kept }
shipped_by-fits state tax None None tax_kept kept = tt
shipped_by-fits state tax (Some cause) price tax_kept kept = tt

pub shipped_of-fits : (state : TaxState) (tax : Option Row) (measures : Measures) (cause : Option Cause) (price : Option Row) → IsRowIfAny E.Tax tax → IfSome price (IsRowOf E.ShippingPrice) → IfSome (shipped_of state tax measures cause price) ShippedFits
shipped_of-fits state tax measures cause price tax_kept kept = by (measures.count == 0)
  where
    by : (none : Bool) → IfSome (cond none None (shipped_by state tax cause price)) ShippedFits
    by true = tt
    by false = shipped_by-fits state tax cause price tax_kept kept
