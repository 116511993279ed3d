use Rattle.std.proofs.Common.{◌≡◌, ◌+◌, ◌≤◌, arith, Result, Ok, Err}
use Rattle.std.specs.Prelude.{IfOk}
use Rattle.cart_sums.specs.Fits.{AreTaxed}
use Rattle.cart_sums.specs.Taxes.{most}
use Rattle.cart_process.specs.Priced.{amount_total, tax_total}
use Rattle.cart_process.specs.Shown.{AreTaxesShown}
use Rattle.cart_process.proofs.Carts.{taxed-most}
use Rattle.cart_process.proofs.taxing.taxes_of.Goals as goal

weaker : {T E : Type 0} (P Q : T → Type 0) → ((x : T) → P x → Q x) → (r : Result T E) → IfOk r P → IfOk r Q
weaker P Q f (Ok x) p = f x p
weaker P Q f (Err e) p = tt

pub returns-clause-bound : goal.returns-clause-bound
returns-clause-bound c =
    weaker (AreTaxed c.args.state c.args.mode c.in_ok-sums-3.sums.list) (λ taxes. tax_total taxes ≤ most) (λ taxes are. taxed-most c.args.state c.args.mode c.in_ok-sums-3.sums.list taxes c.in_ok-sums-3.ensures.sums are) c.tax_sums.result c.tax_sums.ensures.taxed

pub returns-clause-shown : goal.returns-clause-shown
returns-clause-shown c =
    weaker (AreTaxed c.args.state c.args.mode c.in_ok-sums-3.sums.list) (AreTaxesShown c.args.state c.args.mode) (λ taxes are. record { ascend = are.ascend; each = are.each }) c.tax_sums.result c.tax_sums.ensures.taxed

pub returns-clause-amounts : goal.returns-clause-amounts
returns-clause-amounts c =
    let lines = rw c.as_slice.ensures at c.in_ok-sums.ensures.left in
    let goods = rw c.as_slice-2.ensures at c.in_ok-sums-2.ensures.shrinks.left in
    let sent = rw c.as_slice-3.ensures at c.in_ok-sums-3.ensures.left in
    let off = c.requires.goods.taken.sum in
    let total = c.requires.goods.total in
    let less = c.requires.sending.taken.sum in
    weaker (AreTaxed c.args.state c.args.mode c.in_ok-sums-3.sums.list) (λ taxes. amount_total taxes ≡ c.args.goods.now.taken.left + c.args.sending.now.taken.left)
    (λ taxes are. omega (arith, are.all, lines, goods, sent, off, total, less)) c.tax_sums.result c.tax_sums.ensures.taxed
