-- A new table, and a shop that is shared.
use Rattle.std.proofs.Common.{◌≡◌, ℕ, zero, suc, ◌+◌, [], ◌∷◌, refl, sym, ap, subst, arith}
use mathlib.Core.Option.{some-ne-none, some-injective}
use Rattle.shop_shared.specs.declared.view.View.{View}
use Rattle.shop_shared.specs.declared.view.View.TheVariants.{Keeps}
use Rattle.shop_shared.specs.declared.view.Opening.{Opening}
use Rattle.shop_shared.specs.Views.{first_state, start_of, new_master}
use Rattle.shop_shared.specs.Rule.{EachView, IsKept}
use Rattle.shop_shared.proofs.Entries.{legal_none}

only : (Q : ℕ → View → Type 0) (x : View) → Q 0 x → EachView Q (x ∷ [])
only Q x here zero v e = subst (Q 0) (some-injective x v e) here
only Q x here (suc j) v e = absurd (some-ne-none v (sym e))

-- the rule is kept at the start
pub begins : (k : Opening) → IsKept (new_master k) (k.number ∷ k.number ∷ 0 ∷ []) (Keeps (new_master k) ∷ [])
begins k = let start : k.number ≡ k.number + 0 = omega arith in record {
  at = refl;
  words_are = (0, ap (λ (n : ℕ). n ∷ k.number ∷ 0 ∷ []) start);
  front = (omega arith, omega arith, omega arith);
  legal = legal_none (first_state (start_of k));
  starts = (only _ _ tt, tt);
  seen = (only _ _ tt, tt);
  fronts = (only _ _ tt, tt);
  looks = (only _ _ tt, tt);
  counts = (only _ _ tt, tt);
  shuts = (only _ _ tt, tt);
  own_seen = only _ _ tt;
  own_held = tt;
  found_held = tt;
  one_master = only _ _ refl;
  doors = only _ _ tt;
  below = only _ _ tt;
  apart = only _ _ (only _ _ (λ c. refl));
  held_apart = only _ _ tt;
  before = λ _. (only _ _ tt, refl, refl);
}
