-- The numbers of a round's cart add up.
use Rattle.std.proofs.Common.{◌≡◌, ℕ, zero, suc, ◌+◌, ℤ, pos, negsuc, ◌+ℤ◌, ◌-ℤ◌, ◌<ℤ◌, Bool, true, false, cond, ◌==◌, List, [], ◌∷◌, map, Option, Some, None, IsTrue, refl, sym, ap, ◌∙◌, arith}
use Rattle.std.proofs.lemmas.Int.{ints}
use Rattle.std.proofs.lemmas.List.Sums.{sum_by-cons}
use Rattle.std.specs.List.{AllByRecursion}
use Rattle.std.specs.Prelude.{sum_by, unsigned_abs}
use Rattle.shop_defs.specs.declared.row.Row.{Row}
use Rattle.row_fields.specs.Checked.{IsRowOf}
use Rattle.shop_defs.specs.declared.entity.Entity.TheVariants as E
use Rattle.cart_price.specs.declared.priced.Block.{Block}
use Rattle.cart_price.specs.declared.priced.Discount.{Discount}
use Rattle.cart_price.specs.declared.priced.PricedLine.{PricedLine}
use Rattle.cart_price.specs.declared.priced.TaxMode.{TaxMode}
use Rattle.cart_price.specs.declared.priced.TaxState.{TaxState}
use Rattle.cart_price.specs.declared.priced.TaxState.TheVariants as S
use Rattle.cart_price.specs.declared.priced.TaxSum.{TaxSum}
use Rattle.cart_price.specs.Lent.{CartRows, LineRows}
use Rattle.cart_price.specs.Nearest.{IsWithinHalf, is_interval, rounded}
use Rattle.cart_price.proofs.Halves.{half_is_nearest}
use Rattle.cart_sums.specs.declared.discounts.Taken.{Taken}
use Rattle.cart_sums.specs.Discounts.{IsTakenOff, total_off}
use Rattle.cart_sums.specs.Fits.{IsTaxed}
use Rattle.cart_process.specs.declared.deliveries.Measures.{Measures}
use Rattle.cart_process.specs.declared.deliveries.Shipped.{Shipped}
use Rattle.cart_process.specs.declared.goods.Goods.{Goods}
use Rattle.cart_process.specs.declared.sending.Sending.{Sending}
use Rattle.cart_process.specs.Deliveries.{cause_of, cause_by, shipped_by, shipped_of, shipping_price}
use Rattle.cart_process.specs.Fitting.{GoodsFit, SendingFits}
use Rattle.cart_process.specs.LinePrices.{line_price}
use Rattle.cart_process.specs.Priced.{amount_total, cart_of, cost_of, delivery_in, goods_of, interval_of, line_prices, line_total, lines_by, priced_line, raw_of, sending_of, tax_total}
use Rattle.cart_process.proofs.Bounds.{interval-within}
use Rattle.cart_process.proofs.Carts.{lines_by-priced}
use Rattle.cart_process.proofs.FieldNumbers.{cart_interval}
use Rattle.cart_process.specs.Shown.{AddsUp, AreTaken, added, amounts, cost_shown, taken, taxed, totals}

pub totals-priced : (state : TaxState) (rules : List ℕ) (lines : List LineRows) → totals (map (priced_line state rules) lines) ≡ pos (sum_by line_total (line_prices state rules lines))
totals-priced state rules [] = refl
totals-priced state rules (rows ∷ lines) =
    let price = line_price state rules rows in
    ap (λ n. pos (line_total price) +ℤ n) (totals-priced state rules lines)
    ∙ ap pos (sym (sum_by-cons line_total price (line_prices state rules lines)))

taken-total : (discounts : List Discount) → AllByRecursion (λ discount. pos 0 <ℤ discount.amount) discounts → taken discounts ≡ pos (total_off discounts)
taken-total [] all = refl
taken-total (discount ∷ discounts) all =
    let more = taken-total discounts all.1 in
    rw (sum_by-cons (λ (x : Discount). unsigned_abs x.amount) discount discounts) (omega (arith, ints, all.0, more))

pub taxed-total : (state : TaxState) (mode : TaxMode) (taxes : List TaxSum) → AllByRecursion (IsTaxed state mode) taxes → pos (tax_total taxes) ≡ taxed taxes
taxed-total state mode [] all = refl
taxed-total state mode (sum ∷ taxes) all =
    let more = taxed-total state mode taxes all.1 in
    rw (sum_by-cons (λ (x : TaxSum). unsigned_abs x.tax) sum taxes) (omega (arith, ints, all.0.low, more))

amounts-total : (state : TaxState) (mode : TaxMode) (taxes : List TaxSum) → AllByRecursion (IsTaxed state mode) taxes → amounts taxes ≡ pos (amount_total taxes)
amounts-total state mode [] all = refl
amounts-total state mode (sum ∷ taxes) all =
    let more = amounts-total state mode taxes all.1 in
    rw (sum_by-cons (λ (x : TaxSum). unsigned_abs x.amount) sum taxes) (omega (arith, ints, all.0.low, all.0.high, more))

-- what is to be paid, from what the cart comes to at its rates
raw-at-rates : (state : TaxState) (goods cost tax : ℕ) (amount : ℤ) → amount ≡ pos (goods + cost) → pos (raw_of state goods cost tax) ≡ amount +ℤ added state (pos tax)
raw-at-rates S.Net goods cost tax amount is = omega (arith, ints, is)
raw-at-rates S.Gross goods cost tax amount is = omega (arith, ints, is)
raw-at-rates S.Free goods cost tax amount is = omega (arith, ints, is)

pub are-taken : (whole : ℕ) (off : Taken) → IsTakenOff whole off → AreTaken (pos whole) off.discounts
are-taken whole off is =
    let all = taken-total off.discounts is.above in
    record { above = is.above; few = is.most; within = omega (arith, ints, all, is.sum) }

cost-by : (method : Row) (shipped : Option Shipped) → cost_shown (delivery_in (Some method) shipped) ≡ pos (cost_of shipped)
cost-by method None = refl
cost-by method (Some shipped) = refl

pub cost-shown : (state : TaxState) (rules : List ℕ) (tax : Option Row) (measures : Measures) (method price : Option Row)
    → cost_shown (delivery_in method (shipped_of state tax measures (cause_of rules measures method price) price)) ≡ pos (cost_of (shipped_of state tax measures (cause_of rules measures method price) price))
cost-shown state rules tax measures (Some method) price = cost-by method (shipped_of state tax measures (cause_of rules measures (Some method) price) price)
cost-shown state rules tax measures None price = by (measures.count == 0)
  where
    by : (none : Bool) → cost_shown (delivery_in None (cond none None (shipped_by state tax (cond none None (cause_by rules None price)) price))) ≡ pos (cost_of (cond none None (shipped_by state tax (cond none None (cause_by rules None price)) price)))
    by true = refl
    by false = refl

-- what is to be paid, from what is left of the goods and of the delivery
pub raw-shown : (state : TaxState) (goods cost tax : ℕ) (off sent : Taken) → IsTakenOff goods off → IsTakenOff cost sent
    → pos (raw_of state off.left sent.left tax) ≡ ((pos goods -ℤ taken off.discounts) +ℤ (pos cost -ℤ taken sent.discounts)) +ℤ added state (pos tax)
raw-shown state goods cost tax off sent is_off is_sent =
    rw (taken-total off.discounts is_off.above, taken-total sent.discounts is_sent.above) (by state)
  where
    by : (s : TaxState) → pos (raw_of s off.left sent.left tax) ≡ ((pos goods -ℤ pos (total_off off.discounts)) +ℤ (pos cost -ℤ pos (total_off sent.discounts))) +ℤ added s (pos tax)
    by S.Net = omega (arith, ints, is_off.sum, is_sent.sum)
    by S.Gross = omega (arith, ints, is_off.sum, is_sent.sum)
    by S.Free = omega (arith, ints, is_off.sum, is_sent.sum)

pub near : (amount interval : ℤ) → IsTrue (is_interval interval) → IsWithinHalf (unsigned_abs interval) amount (rounded amount interval)
near amount (pos zero) is = grind arith
near amount (pos (suc n)) is = half_is_nearest amount (suc n) (omega arith)
near amount (negsuc n) is = grind arith

pub adds-up : (rows : CartRows) (moment : ℤ) (rules : List ℕ) (state : TaxState) (mode : TaxMode) (goods : Goods) (sending : Sending) (taxes : List TaxSum) (lines : List PricedLine) (blocks : List Block)
    → goods ≡ goods_of state moment rules rows → sending ≡ sending_of state moment rules rows goods.measures → lines ≡ lines_by rows.lines goods.prices
    → GoodsFit goods → SendingFits sending → AllByRecursion (IsTaxed state mode) taxes → IsTrue (is_interval (interval_of rows.cart)) → amount_total taxes ≡ goods.taken.left + sending.taken.left
    → AddsUp state (interval_of rows.cart) (cart_of rows state lines blocks goods sending taxes)
adds-up rows moment rules state mode goods sending taxes lines blocks is_goods is_sending is_lines fit sent each interval amounts_all =
    let prices : goods.prices ≡ line_prices state rules rows.lines = ap (λ (x : Goods). x.prices) is_goods in
    let all : totals lines ≡ pos (sum_by line_total goods.prices) = rw (is_lines, prices, lines_by-priced state rules rows.lines) (totals-priced state rules rows.lines) in
    let cost : cost_shown (delivery_in rows.method sending.shipped) ≡ pos (cost_of sending.shipped) =
    rw is_sending (cost-shown state rules rows.method_tax goods.measures rows.method (shipping_price rules goods.measures rows.shipping)) in
    record {
      goods = ap pos fit.total ∙ sym all;
      discounts = are-taken goods.measures.goods goods.taken fit.taken;
      delivery_discounts = rw cost (are-taken (cost_of sending.shipped) sending.taken sent.taken);
      tax = taxed-total state mode taxes each;
      raw = rw cost (raw-shown state goods.measures.goods (cost_of sending.shipped) (tax_total taxes) goods.taken sending.taken fit.taken sent.taken);
      rates = raw-at-rates state goods.taken.left sending.taken.left (tax_total taxes) (amounts taxes) (amounts-total state mode taxes each ∙ ap pos amounts_all);
      total = near (pos (raw_of state goods.taken.left sending.taken.left (tax_total taxes))) (interval_of rows.cart) interval;
    }

pub interval-kept : (cart : Row) → IsRowOf E.Cart cart → IsTrue (is_interval (interval_of cart))
interval-kept cart kept = rw cart_interval (interval-within cart kept)
