-- The delivery of a cart: its cost, or what keeps it from being ordered.
use Rattle.std.specs.Prelude.{ℕ, pos, Bool, true, false, not, ◌==◌, ◌&&◌, nat_lt, List, [], ◌∷◌, filter, Option, Some, None, is_none, if◌then◌else◌, codes}
use Rattle.std.specs.List.{fold, list_any}
use Rattle.shop_defs.specs.declared.entity.Entity.TheVariants as E
use Rattle.shop_defs.specs.declared.row.Row.{Row}
use Rattle.shop_defs.specs.declared.words.FieldName.TheVariants as N
use Rattle.row_fields.specs.Fields.{number_of, int_at, id_at, is_set, is_text_at, lies}
use Rattle.cart_price.specs.declared.priced.TaxState.{TaxState}
use Rattle.cart_price.specs.declared.priced.TaxState.TheVariants as S
use Rattle.cart_process.specs.declared.deliveries.Measures.{Measures}
use Rattle.cart_process.specs.declared.deliveries.Shipped.{Shipped}
use Rattle.cart_process.specs.declared.line_price.Cause.{Cause}
use Rattle.cart_process.specs.declared.line_price.Cause.TheVariants as C
use Rattle.cart_process.specs.LinePrices.{rate_of}
use Rattle.cart_process.specs.Words.{count_at, meets_rule, names, or_nothing}

-- what a price of delivery goes by
abbrev pub measure : Measures → Row → ℕ
measure measures row =
    if is_text_at row (number_of E.ShippingPrice N.By) (codes "count") then measures.count
    else if is_text_at row (number_of E.ShippingPrice N.By) (codes "price") then measures.goods
    else measures.weight

-- the price row may be used: its rule holds, and what it goes by lies between its bounds
abbrev pub is_usable : List ℕ → Measures → Row → Bool
is_usable rules measures row =
    meets_rule rules (id_at row (number_of E.ShippingPrice N.Rule))
    && lies (int_at row (number_of E.ShippingPrice N.Low)) (int_at row (number_of E.ShippingPrice N.High)) (pos (measure measures row))

abbrev pub is_for : ℕ → Row → Bool
is_for rule row = names row (number_of E.ShippingPrice N.Rule) rule

abbrev pub has_no_rule : Row → Bool
has_no_rule row = is_none (id_at row (number_of E.ShippingPrice N.Rule))

-- the price rows of the first of the rules that has any, and where none has those without a rule
abbrev pub of_first : List ℕ → List Row → List Row
of_first [] prices = filter has_no_rule prices
of_first (rule ∷ rules) prices = if list_any (is_for rule) prices then filter (is_for rule) prices else of_first rules prices

abbrev pub low_of : Row → Option ℕ
low_of row = count_at row (number_of E.ShippingPrice N.Low)

-- the first bound is lower, where none is the lowest
abbrev pub is_lower : Option ℕ → Option ℕ → Bool
is_lower None None = false
is_lower None (Some other) = true
is_lower (Some low) None = false
is_lower (Some low) (Some other) = nat_lt low other

-- of two rows, the one with the higher lower bound, and of equal ones the earlier
abbrev pub higher : Option Row → Row → Row
higher None row = row
higher (Some best) row = if is_lower (low_of best) (low_of row) then row else best

abbrev pub highest : List Row → Option Row
highest rows = fold (λ best row. Some (higher best row)) None rows

-- the price row that is taken
abbrev pub shipping_price : List ℕ → Measures → List Row → Option Row
shipping_price rules measures prices = highest (of_first rules (filter (is_usable rules measures) prices))

abbrev pub shipping_cost : TaxState → Row → ℕ
shipping_cost S.Gross row = or_nothing (count_at row (number_of E.ShippingPrice N.Gross))
shipping_cost state row = or_nothing (count_at row (number_of E.ShippingPrice N.Net))

-- what keeps the delivery by a method from being ordered: the first that is so
abbrev pub method_cause : List ℕ → Row → Option Row → Option Cause
method_cause rules method price =
    if not (is_set method (number_of E.ShippingMethod N.Active)) then Some C.MethodInactive
    else if not (meets_rule rules (id_at method (number_of E.ShippingMethod N.Rule))) then Some C.MethodRefused
    else if is_none price then Some C.NoShippingPrice
    else None

abbrev pub cause_by : List ℕ → Option Row → Option Row → Option Cause
cause_by rules None price = Some C.NoMethod
cause_by rules (Some method) price = method_cause rules method price

-- without pieces there is no delivery, and nothing keeps it from being ordered
abbrev pub cause_of : List ℕ → Measures → Option Row → Option Row → Option Cause
cause_of rules measures method price = if measures.count == 0 then None else cause_by rules method price

-- a delivery that nothing keeps from being ordered: what it costs, and its tax rate
abbrev pub shipped_by : TaxState → Option Row → Option Cause → Option Row → Option Shipped
shipped_by state tax None (Some price) = Some (record { cost = shipping_cost state price; rate = rate_of state tax })
shipped_by state tax cause price = None

abbrev pub shipped_of : TaxState → Option Row → Measures → Option Cause → Option Row → Option Shipped
shipped_of state tax measures cause price = if measures.count == 0 then None else shipped_by state tax cause price
