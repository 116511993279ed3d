-- The bounds of what checked rows hold.
use Rattle.std.proofs.Common.{◌≡◌, ℕ, ◌≤◌, ℤ, pos, negsuc, Bool, true, false, cond, List, [], ◌∷◌, Option, Some, None, IfSome, refl, arith, filter}
use Rattle.std.specs.Prelude.{IsTrue, nat_lt, option_and_then, unwrap_or}
use Rattle.std.specs.List.{AllByRecursion, fold, list_any}
use Rattle.std.specs.Option.{option_or}
use Rattle.std.proofs.lemmas.Bool.Decides.{nat_tests}
use Rattle.std.proofs.lemmas.Int.{ints}
use Rattle.shop_defs.specs.declared.entity.Entity.{Entity}
use Rattle.shop_defs.specs.declared.entity.Entity.TheVariants as E
use Rattle.shop_defs.specs.declared.row.Row.{Row}
use Rattle.shop_defs.specs.declared.table.FieldKind.TheVariants as K
use Rattle.shop_defs.specs.declared.value.Value.{Value}
use Rattle.shop_defs.specs.declared.value.Value.TheVariants as V
use Rattle.shop_defs.specs.Checks.{fits, is_interval as is_kept_interval}
use Rattle.shop_defs.specs.Rows.{field_of}
use Rattle.shop_defs.specs.Tables.{fields_of}
use Rattle.row_fields.specs.Fields.{int_in, int_at}
use Rattle.row_fields.specs.Checked.{IsRowOf, HoldsNumbers, Lies}
use Rattle.row_fields.proofs.Ranges.{held_fits, number_within}
use Rattle.cart_price.specs.Nearest.{is_interval}
use Rattle.shop_chain.specs.Inheriting.{inherited, is_inherited}
use Rattle.cart_process.specs.declared.deliveries.Measures.{Measures}
use Rattle.cart_process.specs.Kept.{IsRowIfAny}
use Rattle.cart_process.specs.Units as units
use Rattle.cart_process.specs.Deliveries as deliveries
use Rattle.cart_process.specs.Words.{natural, count_at, effective_count, or_nothing}

-- a number between 0 and so much is a count up to so much
natural_within : (low : ℤ) (most : ℕ) (number : Option ℤ) → IfSome number (Lies low (pos most)) → IfSome (option_and_then natural number) (λ n. n ≤ most)
natural_within low most None all = tt
natural_within low most (Some (pos n)) all = omega (arith, ints, all.1)
natural_within low most (Some (negsuc n)) all = tt

-- what a checked row holds in such a field is up to so much
pub count_within : (entity : Entity) (row : Row) (number most : ℕ) (low : ℤ) → HoldsNumbers entity number low (pos most) → IsRowOf entity row → IfSome (count_at row number) (λ n. n ≤ most)
count_within entity row number most low holds kept = natural_within low most (int_at row number) (number_within entity row number low (pos most) kept holds)

-- without a value it is 0
pub or_nothing-within : (most : ℕ) (count : Option ℕ) → IfSome count (λ n. n ≤ most) → or_nothing count ≤ most
or_nothing-within most None all = omega arith
or_nothing-within most (Some n) all = all

-- ---- what counts for a product

inherited_within : (passes : Bool) (row : Row) (number most : ℕ) (low : ℤ) → HoldsNumbers E.Product number low (pos most) → IsRowOf E.Product row
    → IfSome (option_and_then natural (option_and_then int_in (cond passes (field_of row number) None))) (λ n. n ≤ most)
inherited_within true row number most low holds kept = count_within E.Product row number most low holds kept
inherited_within false row number most low holds kept = tt

by_parent : (entity : Entity) (parent : Option Row) (number most : ℕ) (low : ℤ) → HoldsNumbers E.Product number low (pos most) → IsRowIfAny E.Product parent
    → IfSome (option_and_then natural (option_and_then int_in (option_and_then (λ row. inherited row entity number) parent))) (λ n. n ≤ most)
by_parent entity None number most low holds kept = tt
by_parent entity (Some row) number most low holds kept = inherited_within (is_inherited entity number) row number most low holds kept

pub effective_within : (product : Row) (parent : Option Row) (number most : ℕ) (low : ℤ) → HoldsNumbers E.Product number low (pos most) → IsRowOf E.Product product → IsRowIfAny E.Product parent
    → IfSome (effective_count product parent number) (λ n. n ≤ most)
effective_within product parent number most low holds kept parent_kept = by (field_of product number) refl (count_within E.Product product number most low holds kept)
  where
    by : (value : Option Value) → field_of product number ≡ value → IfSome (option_and_then natural (option_and_then int_in (field_of product number))) (λ n. n ≤ most)
        → IfSome (option_and_then natural (option_and_then int_in (option_or (field_of product number) (option_and_then (λ row. inherited row product.key.entity number) parent)))) (λ n. n ≤ most)
    by None held own = rw held (by_parent product.key.entity parent number most low holds parent_kept)
    by (Some value) held own = rw held (rw held at own)

-- ---- the fields that are looked up here

pub line_quantity : HoldsNumbers E.CartLine 3 (pos 1) (pos 10000)
unfolding fields_of
line_quantity = record { info = _; line = refl; bounds = (refl, refl) }

pub tax_rate : HoldsNumbers E.Tax 2 (pos 0) (pos 10000)
unfolding fields_of
tax_rate = record { info = _; line = refl; bounds = (refl, refl) }

pub product_gross : HoldsNumbers E.Product 5 (pos 0) (pos 1000000000000)
unfolding fields_of
product_gross = record { info = _; line = refl; bounds = (refl, refl) }

pub product_net : HoldsNumbers E.Product 6 (pos 0) (pos 1000000000000)
unfolding fields_of
product_net = record { info = _; line = refl; bounds = (refl, refl) }

pub product_weight : HoldsNumbers E.Product 7 (pos 0) (pos 1000000000)
unfolding fields_of
product_weight = record { info = _; line = refl; bounds = (refl, refl) }

pub price_gross : HoldsNumbers E.ProductPrice 5 (pos 0) (pos 1000000000000)
unfolding fields_of
price_gross = record { info = _; line = refl; bounds = (refl, refl) }

pub price_net : HoldsNumbers E.ProductPrice 6 (pos 0) (pos 1000000000000)
unfolding fields_of
price_net = record { info = _; line = refl; bounds = (refl, refl) }

pub shipping_gross : HoldsNumbers E.ShippingPrice 6 (pos 0) (pos 1000000000000)
unfolding fields_of
shipping_gross = record { info = _; line = refl; bounds = (refl, refl) }

pub shipping_net : HoldsNumbers E.ShippingPrice 7 (pos 0) (pos 1000000000000)
unfolding fields_of
shipping_net = record { info = _; line = refl; bounds = (refl, refl) }

-- ---- the interval of a cart

named_interval : (n : ℤ) → is_kept_interval n ≡ true → IsTrue (is_interval n)
named_interval n ok = grind (arith, ints, nat_tests)

pub interval-within : (cart : Row) → IsRowOf E.Cart cart → IsTrue (is_interval (unwrap_or (int_at cart 4) (pos 1)))
unfolding fields_of
interval-within cart kept = by (field_of cart 4) refl
  where
    at : (value : Value) → fits K.Interval value ≡ true → IsTrue (is_interval (unwrap_or (int_in value) (pos 1)))
    at (V.Int n) ok = named_interval n ok
    at (V.Flag flag) ok = absurd (cc)
    at (V.Text text) ok = absurd (cc)
    at (V.Ident id) ok = absurd (cc)

    by : (value : Option Value) → field_of cart 4 ≡ value → IsTrue (is_interval (unwrap_or (option_and_then int_in value) (pos 1)))
    by None held = refl
    by (Some value) held = at value (held_fits E.Cart cart 4 _ value kept refl held)

-- ---- what holds of all rows holds of one that is taken of them

module _ (P : Row → Type 0) where
  all_filter : (test : Row → Bool) (rows : List Row) → AllByRecursion P rows → AllByRecursion P (filter test rows)
  all_filter test [] all = tt
  all_filter test (row ∷ rows) all = by (test row) (all_filter test rows all.1)
    where
      by : (passes : Bool) → AllByRecursion P (filter test rows) → AllByRecursion P (cond passes (row ∷ filter test rows) (filter test rows))
      by true more = (all.0, more)
      by false more = more

  -- of a price of one piece
  units_higher : (best : Option Row) (row : Row) → IfSome best P → P row → P (units.higher best row)
  units_higher None row before p = p
  units_higher (Some best) row before p = by (nat_lt (units.low_of best) (units.low_of row))
    where
      by : (higher : Bool) → P (cond higher row best)
      by true = p
      by false = before

  units_highest : (best : Option Row) (rows : List Row) → IfSome best P → AllByRecursion P rows → IfSome (fold (λ best row. Some (units.higher best row)) best rows) P
  units_highest best [] before all = before
  units_highest best (row ∷ rows) before all = units_highest (Some (units.higher best row)) rows (units_higher best row before all.0) all.1

  units_first : (rules : List ℕ) (rows : List Row) → AllByRecursion P rows → AllByRecursion P (units.of_first rules rows)
  units_first [] rows all = tt
  units_first (rule ∷ rules) rows all = by (list_any (units.is_for rule) rows) (units_first rules rows all)
    where
      by : (has : Bool) → AllByRecursion P (units.of_first rules rows) → AllByRecursion P (cond has (filter (units.is_for rule) rows) (units.of_first rules rows))
      by true more = all_filter (units.is_for rule) rows all
      by false more = more

  pub deciding-kept : (rules : List ℕ) (quantity : ℕ) (rows : List Row) → AllByRecursion P rows → IfSome (units.deciding rules quantity rows) P
  deciding-kept rules quantity rows all = units_highest None (filter (units.takes quantity) (units.of_first rules rows)) tt (all_filter (units.takes quantity) (units.of_first rules rows) (units_first rules rows all))

  -- of a delivery
  sent_higher : (best : Option Row) (row : Row) → IfSome best P → P row → P (deliveries.higher best row)
  sent_higher None row before p = p
  sent_higher (Some best) row before p = by (deliveries.is_lower (deliveries.low_of best) (deliveries.low_of row))
    where
      by : (lower : Bool) → P (cond lower row best)
      by true = p
      by false = before

  sent_highest : (best : Option Row) (rows : List Row) → IfSome best P → AllByRecursion P rows → IfSome (fold (λ best row. Some (deliveries.higher best row)) best rows) P
  sent_highest best [] before all = before
  sent_highest best (row ∷ rows) before all = sent_highest (Some (deliveries.higher best row)) rows (sent_higher best row before all.0) all.1

  sent_first : (rules : List ℕ) (rows : List Row) → AllByRecursion P rows → AllByRecursion P (deliveries.of_first rules rows)
  sent_first [] rows all = all_filter deliveries.has_no_rule rows all
  sent_first (rule ∷ rules) rows all = by (list_any (deliveries.is_for rule) rows) (sent_first rules rows all)
    where
      by : (has : Bool) → AllByRecursion P (deliveries.of_first rules rows) → AllByRecursion P (cond has (filter (deliveries.is_for rule) rows) (deliveries.of_first rules rows))
      by true more = all_filter (deliveries.is_for rule) rows all
      by false more = more

  pub shipping-kept : (rules : List ℕ) (measures : Measures) (rows : List Row) → AllByRecursion P rows → IfSome (deliveries.shipping_price rules measures rows) P
  shipping-kept rules measures rows all =
      let usable = all_filter (deliveries.is_usable rules measures) rows all in
      sent_highest None (deliveries.of_first rules (filter (deliveries.is_usable rules measures) rows)) tt (sent_first rules (filter (deliveries.is_usable rules measures) rows) usable)
