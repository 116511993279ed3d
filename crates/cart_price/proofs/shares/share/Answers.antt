use Rattle.std.proofs.Common.{◌≡◌, ◌≤◌, ℕ, ℤ, pos, ◌≤ℤ◌, List, ap, sym, map, subst, ◌∙◌, w64, arith}
use Rattle.std.specs.Prelude.{unsigned_abs}
use Rattle.std.specs.List.{AllZip}
use Rattle.std.proofs.lemmas.Int.{ints, to_z-of_z}
use Rattle.std.proofs.lemmas.List.Elements.{recursion_from_All}
use Rattle.cart_price.specs.LargestRemainder.{total, shares, IsPartOf, IsFloorOrNext, IsFairest}
use Rattle.cart_price.proofs.Sharing.{rise_of, shares_sum, shares_are_parts, shares_are_floors}
use Rattle.cart_price.proofs.Fairness.{shares_are_fairest}
use Rattle.cart_price.proofs.shares.share.Goals as goal

-- what is answered is the definition's list
value : (c : goal.After-from_vec) → c.from_vec.result ≡ shares (unsigned_abs c.args.amount) c.args.bases.now
value c =
    let size = rw (to_z-of_z w64 c.args.amount c.ranges.amount) at c.unsigned_abs.ensures.value in
    c.from_vec.ensures ∙ c.shares_in.ensures ∙ ap (λ (n : ℕ). shares n c.args.bases.now) size

within : (c : goal.After-from_vec) → unsigned_abs c.args.amount ≤ total c.args.bases.now
within c = omega (arith, ints)

signed : (z : ℤ) → pos 0 ≤ℤ z → pos (unsigned_abs z) ≡ z
signed z h = omega (arith, ints)

pub returns-clause-sum : goal.returns-clause-sum
returns-clause-sum c =
    ap (λ (parts : List (ℕ × ℤ)). pos (total parts)) (value c)
    ∙ ap pos (shares_sum (unsigned_abs c.args.amount) c.args.bases.now (rise_of c.args.bases.now c.requires.ascend) (within c))
    ∙ signed c.args.amount c.requires.low

pub returns-clause-parts : goal.returns-clause-parts
returns-clause-parts c =
    subst (λ (parts : List (ℕ × ℤ)). AllZip IsPartOf parts c.args.bases.now) (sym (value c))
    (shares_are_parts (unsigned_abs c.args.amount) c.args.bases.now (within c) (recursion_from_All (λ (base : ℕ × ℤ). pos 0 ≤ℤ base.1) c.args.bases.now c.requires.bases))

pub returns-clause-floors : goal.returns-clause-floors
returns-clause-floors c =
    subst (λ (parts : List (ℕ × ℤ)). AllZip (IsFloorOrNext (unsigned_abs c.args.amount) (total c.args.bases.now)) parts c.args.bases.now) (sym (value c))
    (shares_are_floors (unsigned_abs c.args.amount) c.args.bases.now)

pub returns-clause-fairest : goal.returns-clause-fairest
returns-clause-fairest c =
    subst (λ (parts : List (ℕ × ℤ)). IsFairest (unsigned_abs c.args.amount) c.args.bases.now (map (λ (part : ℕ × ℤ). unsigned_abs part.1) parts)) (sym (value c))
    (shares_are_fairest (unsigned_abs c.args.amount) c.args.bases.now (rise_of c.args.bases.now c.requires.ascend) (within c))
