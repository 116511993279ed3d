use Rattle.std.proofs.Common.{◌≡◌, ◌≤◌, ◌<◌, ◌^◌, ℕ, List, ap, sym, subst, ◌∙◌, sum_by, All, arith}
use Rattle.std.proofs.lemmas.Grind.{common_steps}
use Rattle.cart_price.specs.declared.shares.Claim.{Claim}
use Rattle.cart_price.specs.LargestRemainder.{part, left_of, claims_of}
use Rattle.cart_price.proofs.Sharing.{rise_of, floors_within, parts_fit}
use Rattle.cart_price.proofs.shares.shares_in.Goals as goal

pub left_of-left-requires : goal.left_of-left-requires
left_of-left-requires c =
    let claims : c.as_slice.result.now ≡ claims_of c.args.amount c.args.bases.now = grind (arith, common_steps) in
    subst (λ (cs : List Claim). sum_by (λ (at : Claim). at.floor) cs ≤ c.args.amount) (sym claims) (floors_within c.args.amount c.args.bases.now c.requires.most)

pub parts_in-requires-clause-fit : goal.parts_in-requires-clause-fit
parts_in-requires-clause-fit c =
    let first : c.as_slice.result.now ≡ claims_of c.args.amount c.args.bases.now = grind (arith, common_steps) in
    let claims : c.as_slice-2.result.now ≡ claims_of c.args.amount c.args.bases.now = grind (arith, common_steps) in
    let left : c.left_of-left.result ≡ left_of c.args.amount (claims_of c.args.amount c.args.bases.now) =
    c.left_of-left.ensures ∙ ap (λ (cs : List Claim). left_of c.args.amount cs) first in
    let fit = parts_fit c.args.amount c.args.bases.now (rise_of c.args.bases.now c.requires.ascend) c.requires.most c.requires.fits in
    let with_left = subst (λ (n : ℕ). All (λ (at : Claim). part (claims_of c.args.amount c.args.bases.now) n at < 2 ^ 63) (claims_of c.args.amount c.args.bases.now)) (sym left) fit in
    subst (λ (cs : List Claim). All (λ (at : Claim). part cs c.left_of-left.result at < 2 ^ 63) cs) (sym claims) with_left
