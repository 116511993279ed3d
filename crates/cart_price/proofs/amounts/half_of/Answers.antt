use Rattle.std.proofs.Common.{◌∙◌, ◌*◌, ℕ, w64, FitsSigned, ap, rules, arith}
use Rattle.std.proofs.lemmas.Int.{to_z-of_z}
use Rattle.cart_price.specs.Nearest.{half_up, with_sign_of}
use Rattle.cart_price.proofs.Halves.{half_of_product}
use Rattle.cart_price.proofs.amounts.half_of.Goals as goal

-- the part of the size, with the sign of the amount, is the part of the amount
pub returns : goal.returns
returns c =
    let fits : FitsSigned w64 c.with_sign_of.result = search rules in
    let amount = to_z-of_z w64 c.args.amount c.ranges.amount in
    let signed = rw amount at c.with_sign_of.ensures in
    let size = rw amount at c.unsigned_abs.ensures.value in
    to_z-of_z w64 c.with_sign_of.result fits
    ∙ signed
    ∙ ap (with_sign_of c.args.amount) (c.part_of_size.ensures.value ∙ ap (λ (s : ℕ). half_up (s * c.args.rate) c.args.whole) size)
    ∙ half_of_product c.args.amount c.args.rate c.args.whole (omega arith)
