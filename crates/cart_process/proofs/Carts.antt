-- Lemmas on the goods of a cart, and on its lines beside their prices.
use Rattle.std.proofs.Common.{◌≡◌, ℕ, ◌*◌, ◌^◌, ◌≤◌, pos, Bool, true, false, cond, List, [], ◌∷◌, ◌++◌, map, length, refl, sym, ap, ◌∙◌, arith, append-nil, append_assoc}
use Rattle.std.proofs.Math.Nat.{mul-le-mul_left}
use Rattle.std.specs.Prelude.{sum_by, unsigned_abs}
use Rattle.std.proofs.lemmas.Int.{ints}
use Rattle.std.specs.List.{AllByRecursion, flat_map}
use Rattle.std.proofs.lemmas.List.Sums.{sum_by-cons}
use Rattle.cart_price.specs.declared.priced.TaxMode.{TaxMode}
use Rattle.cart_price.specs.declared.priced.TaxState.{TaxState}
use Rattle.cart_price.specs.declared.priced.TaxSum.{TaxSum}
use Rattle.cart_price.specs.Lent.{LineRows}
use Rattle.cart_sums.specs.declared.sums.RateSum.{RateSum}
use Rattle.cart_sums.specs.Positions.{Positions}
use Rattle.cart_sums.specs.Sums.{add_at, sums_of}
use Rattle.cart_sums.specs.Fits.{AreSums, AreTaxed, IsTaxed}
use Rattle.cart_sums.specs.Taxes.{most}
use Rattle.cart_sums.proofs.Kept.{add-kept}
use Rattle.cart_sums.proofs.Shared.{left-most}
use Rattle.cart_process.specs.declared.line_price.LinePrice.{LinePrice}
use Rattle.cart_process.specs.LinePrices.{PriceFits, has_price}
use Rattle.cart_process.specs.Priced.{blocks_by, line_blocks, line_position, line_positions, line_prices, line_total, lines_by, priced_line, tax_total}
use Rattle.cart_process.specs.Summing.{line_sums, with_line}

-- ---- bounds

-- so many numbers, each up to so much
sum-within : (f : LinePrice → ℕ) (most : ℕ) (prices : List LinePrice) → AllByRecursion (λ price. f price ≤ most) prices → sum_by f prices ≤ length prices * most
sum-within f most [] all = omega arith
sum-within f most (price ∷ prices) all =
    let more = sum-within f most prices all.1 in
    rw (sum_by-cons f price prices) (omega (arith, all.0, more))

pub all-push : (prices : List LinePrice) (price : LinePrice) → AllByRecursion PriceFits prices → PriceFits price → AllByRecursion PriceFits (prices ++ price ∷ [])
all-push [] price all fits = (fits, tt)
all-push (x ∷ prices) price all fits = (all.0, all-push prices price all.1 fits)

pub total-within : (price : LinePrice) → PriceFits price → line_total price ≤ 10 ^ 16
total-within price fits = omega (arith, mul-le-mul_left price.unit fits.pieces, fits.unit)

pieces-each : (prices : List LinePrice) → AllByRecursion PriceFits prices → AllByRecursion (λ price. price.pieces ≤ 10 ^ 4) prices
pieces-each [] all = tt
pieces-each (price ∷ prices) all = (all.0.pieces, pieces-each prices all.1)

total-each : (prices : List LinePrice) → AllByRecursion PriceFits prices → AllByRecursion (λ price. line_total price ≤ 10 ^ 16) prices
total-each [] all = tt
total-each (price ∷ prices) all = (total-within price all.0, total-each prices all.1)

weight-each : (prices : List LinePrice) → AllByRecursion PriceFits prices → AllByRecursion (λ price. price.weight ≤ 10 ^ 13) prices
weight-each [] all = tt
weight-each (price ∷ prices) all = (all.0.weight, weight-each prices all.1)

pub count-most : (prices : List LinePrice) → AllByRecursion PriceFits prices → length prices ≤ 100 → sum_by (λ (price : LinePrice). price.pieces) prices ≤ 10 ^ 6
count-most prices fit few = let sum = sum-within (λ price. price.pieces) (10 ^ 4) prices (pieces-each prices fit) in omega (arith, sum, few)

pub goods-most : (prices : List LinePrice) → AllByRecursion PriceFits prices → length prices ≤ 100 → sum_by line_total prices ≤ 10 ^ 18
goods-most prices fit few = let sum = sum-within line_total (10 ^ 16) prices (total-each prices fit) in omega (arith, sum, few)

pub weight-most : (prices : List LinePrice) → AllByRecursion PriceFits prices → length prices ≤ 100 → sum_by (λ (price : LinePrice). price.weight) prices ≤ 10 ^ 15
weight-most prices fit few = let sum = sum-within (λ price. price.weight) (10 ^ 13) prices (weight-each prices fit) in omega (arith, sum, few)

-- ---- the sums of the lines are those of their positions

with_line-kept : (state : TaxState) (ps : Positions) (price : LinePrice) → with_line state (sums_of state ps) price ≡ sums_of state (ps ++ line_position price)
with_line-kept state ps price = by (has_price price.cause)
  where
    by : (has : Bool) → cond has (add_at state (sums_of state ps) price.rate (line_total price)) (sums_of state ps) ≡ sums_of state (ps ++ cond has ((price.rate, pos (line_total price)) ∷ []) [])
    by true = add-kept state ps price.rate (line_total price)
    by false = ap (sums_of state) (sym (append-nil ps))

lines-kept : (state : TaxState) (ps : Positions) (prices : List LinePrice) → line_sums state (sums_of state ps) prices ≡ sums_of state (ps ++ line_positions prices)
lines-kept state ps [] = ap (sums_of state) (sym (append-nil ps))
lines-kept state ps (price ∷ prices) =
    ap (λ (sums : List RateSum). line_sums state sums prices) (with_line-kept state ps price)
    ∙ lines-kept state (ps ++ line_position price) prices
    ∙ ap (sums_of state) (append_assoc ps (line_position price) (line_positions prices))

pub line_sums-kept : (state : TaxState) (prices : List LinePrice) → line_sums state [] prices ≡ sums_of state (line_positions prices)
line_sums-kept state prices = lines-kept state [] prices

-- ---- lines beside their prices

pub lines_by-priced : (state : TaxState) (rules : List ℕ) (lines : List LineRows) → lines_by lines (line_prices state rules lines) ≡ map (priced_line state rules) lines
lines_by-priced state rules [] = refl
lines_by-priced state rules (rows ∷ lines) = ap (λ found. priced_line state rules rows ∷ found) (lines_by-priced state rules lines)

pub blocks_by-priced : (state : TaxState) (rules : List ℕ) (lines : List LineRows) → blocks_by lines (line_prices state rules lines) ≡ flat_map (line_blocks state rules) lines
blocks_by-priced state rules [] = refl
blocks_by-priced state rules (rows ∷ lines) = ap (λ found. line_blocks state rules rows ++ found) (blocks_by-priced state rules lines)

-- ---- taxes together are in range

tax-each : (state : TaxState) (mode : TaxMode) (taxes : List TaxSum) → AllByRecursion (IsTaxed state mode) taxes → tax_total taxes ≤ sum_by (λ (sum : TaxSum). unsigned_abs sum.amount) taxes
tax-each state mode [] all = omega arith
tax-each state mode (sum ∷ taxes) all =
    let more = tax-each state mode taxes all.1 in
    let one : unsigned_abs sum.tax ≤ unsigned_abs sum.amount = omega (arith, ints, all.0.low, all.0.high) in
    rw (sum_by-cons (λ (sum : TaxSum). unsigned_abs sum.tax) sum taxes, sum_by-cons (λ (sum : TaxSum). unsigned_abs sum.amount) sum taxes) (omega (arith, one, more))

pub taxed-most : (state : TaxState) (mode : TaxMode) (sums : List RateSum) (taxes : List TaxSum) → AreSums sums → AreTaxed state mode sums taxes → tax_total taxes ≤ most
taxed-most state mode sums taxes are taxed =
    let some = tax-each state mode taxes taxed.each in
    let left = left-most sums are in
    omega (arith, some, taxed.all, left)
