-- The settled cart as a value is the settled cart in words.
use Rattle.std.proofs.Common.{◌≡◌, ◌≢◌, ℕ, zero, suc, ◌+◌, ◌<◌, ◌≤◌, ℤ, Bool, true, false, List, Option, Some, None, if◌then◌else◌, Result, Ok, Err, refl, sym, ap, ◌∙◌, subst, arith, below_more}
use Rattle.std.specs.Bool.{Decides}
use Rattle.shop_defs.specs.declared.broken.Broken.{Broken}
use Rattle.shop_defs.specs.declared.broken.Broken.TheVariants as B
use Rattle.shop_defs.specs.declared.row.Row.{Row}
use Rattle.cart_price.specs.Lent.{CartRows}
use Rattle.cart_price.specs.declared.priced.Settled.{Settled}
use Rattle.cart_collect.specs.Collected.{collected}
use Rattle.shop_rules.specs.Ranking.{rules}
use Rattle.cart_loop.specs.declared.state.State.{State}
use Rattle.cart_loop.specs.declared.fault.CartRefused.{CartRefused}
use Rattle.cart_loop.specs.declared.fault.CartRefused.TheVariants as F
use Rattle.cart_loop.specs.Labels.{labels}
use Rattle.cart_loop.specs.Sameness.{same_state}
use Rattle.cart_loop.specs.Settling.{state, IsSettledAt, IsUnstable, Settles}
use Rattle.cart_loop.specs.Settled.{round_in, IsRefused, IsSettled, NeverSettles}
use Rattle.cart_loop.specs.Answer.{first_repeated, answer_at, answer_by, answer_of, settling, IsBroken, SettlingIsTheAnswer}
use Rattle.cart_loop.proofs.Samenesses.{state_told}
use Rattle.cart_loop.proofs.Answered.{is_settled}
use Rattle.cart_loop.proofs.Turns.{next_is}

-- ---- the first round that the next one repeats

not_true : (b : Bool) → (b ≡ true → ⊥) → b ≡ false
not_true true never = absurd (never refl)
not_true false never = refl

module _ (round : List ℕ → State) where
  abbrev Repeats : ℕ → Type 0
  Repeats k = state round (k + 1) ≡ state round k

  told : (k : ℕ) → Decides (same_state (state round (k + 1)) (state round k)) (Repeats k)
  told k = state_told (state round (k + 1)) (state round k)

  one_more : (n k : ℕ) → first_repeated round (suc n) k ≡ (if same_state (state round (k + 1)) (state round k) then Some k else first_repeated round n (k + 1))
  unfolding first_repeated
  one_more n k = refl

  none_more : (k : ℕ) → first_repeated round zero k ≡ None
  unfolding first_repeated
  none_more k = refl

  here : (n k : ℕ) → Repeats k → first_repeated round (suc n) k ≡ Some k
  here n k e = one_more n k ∙ ap (λ (b : Bool). if b then Some k else first_repeated round n (k + 1)) ((told k).1 e)

  not_here : (n k : ℕ) → (Repeats k → ⊥) → first_repeated round (suc n) k ≡ first_repeated round n (k + 1)
  not_here n k other = one_more n k ∙ ap (λ (b : Bool). if b then Some k else first_repeated round n (k + 1)) (not_true _ (λ e. other ((told k).0 e)))

  -- it is found, d rounds on
  found : (n k d : ℕ) → d < n → ((j : ℕ) → j < k + d → Repeats j → ⊥) → Repeats (k + d) → first_repeated round n k ≡ Some (k + d)
  found zero k d few before e = absurd (omega arith)
  found (suc n) k zero few before e = let at : k + 0 ≡ k = omega arith in rw at (here n k (subst Repeats at e))
  found (suc n) k (suc d) few before e =
      let at : k + suc d ≡ k + 1 + d = omega arith in
      not_here n k (λ same. before k (omega arith) same) ∙ (rw at (found n (k + 1) d (omega (arith, few)) (λ j less. before j (omega (arith, less))) (subst Repeats at e)))

  none_found : (n k : ℕ) → ((j : ℕ) → j < k + n → Repeats j → ⊥) → first_repeated round n k ≡ None
  none_found zero k never = none_more k
  none_found (suc n) k never = not_here n k (λ same. never k (omega arith) same) ∙ none_found n (k + 1) (λ j less. never j (omega (arith, less)))

  pub settled_found : (turns : ℕ) → IsSettledAt round turns → first_repeated round 6 0 ≡ Some turns
  settled_found turns s =
      let at : 0 + turns ≡ turns = omega arith in
      subst (λ (t : ℕ). first_repeated round 6 0 ≡ Some t) at (found 6 0 turns s.early (λ j less. s.before j (omega (arith, less))) (subst Repeats (sym at) s.same))

  -- where none is found, none of them is repeated
  none_repeats : (n k : ℕ) → ((j : ℕ) → j < k → Repeats j → ⊥) → first_repeated round n k ≡ None → (j : ℕ) → j < k + n → Repeats j → ⊥
  none_repeats zero k before e = λ j less same. before j (omega (arith, less)) same
  none_repeats (suc n) k before e = by (none_repeats n (k + 1)) (same_state (state round (k + 1)) (state round k)) refl
    where
      by : (((j : ℕ) → j < k + 1 → Repeats j → ⊥) → first_repeated round n (k + 1) ≡ None → (j : ℕ) → j < k + 1 + n → Repeats j → ⊥)
          → (b : Bool) → same_state (state round (k + 1)) (state round k) ≡ b → (j : ℕ) → j < k + suc n → Repeats j → ⊥
      by more true f j less same = let never : Some k ≡ None = sym (here n k ((told k).0 f)) ∙ e in absurd (cc)
      by more false f j less same =
          let other : Repeats k → ⊥ = λ r. let never : false ≡ true = sym f ∙ (told k).1 r in absurd (cc) in
          more (below_more (λ (j : ℕ). Repeats j → ⊥) k before other) (sym (not_here n k other) ∙ e) j (omega (arith, less)) same

  pub none_is_unstable : first_repeated round 6 0 ≡ None → IsUnstable round
  none_is_unstable e = none_repeats 6 0 (λ j less. absurd (omega (arith, less))) e

  pub unstable_found : IsUnstable round → first_repeated round 6 0 ≡ None
  unstable_found u = none_found 6 0 u

  -- what is found is the first that the next round repeats
  found_first : (n k turns : ℕ) → ((j : ℕ) → j < k → Repeats j → ⊥) → first_repeated round n k ≡ Some turns → (turns < k + n) × (Repeats turns × ((j : ℕ) → j < turns → Repeats j → ⊥))
  found_first zero k turns before e = let never : None ≡ Some turns = sym (none_more k) ∙ e in absurd (cc)
  found_first (suc n) k turns before e = by (found_first n (k + 1) turns) (same_state (state round (k + 1)) (state round k)) refl
    where
      by : (((j : ℕ) → j < k + 1 → Repeats j → ⊥) → first_repeated round n (k + 1) ≡ Some turns → (turns < k + 1 + n) × (Repeats turns × ((j : ℕ) → j < turns → Repeats j → ⊥)))
          → (b : Bool) → same_state (state round (k + 1)) (state round k) ≡ b → (turns < k + suc n) × (Repeats turns × ((j : ℕ) → j < turns → Repeats j → ⊥))
      by more true f =
          let is : Some k ≡ Some turns = sym (here n k ((told k).0 f)) ∙ e in
          let same : k ≡ turns = cc in
          subst (λ (t : ℕ). (t < k + suc n) × (Repeats t × ((j : ℕ) → j < t → Repeats j → ⊥))) same (omega arith, ((told k).0 f, before))
      by more false f =
          let other : Repeats k → ⊥ = λ r. let never : false ≡ true = sym f ∙ (told k).1 r in absurd (cc) in
          let rest = more (below_more (λ (j : ℕ). Repeats j → ⊥) k before other) (sym (not_here n k other) ∙ e) in
          (omega (arith, rest.0), rest.1)

  settled_at : (turns : ℕ) → first_repeated round 6 0 ≡ Some turns → IsSettledAt round turns
  settled_at turns e = let r = found_first 6 0 turns (λ j less. absurd (omega (arith, less))) e in record { early = r.0; before = r.1.1; same = r.1.0 }

  pub found_settles : (turns : ℕ) → first_repeated round 6 0 ≡ Some turns → Settles round (state round turns, turns + 2)
  found_settles turns e =
      let s = settled_at turns e in
      record { at = turns; settled = s; state = refl; rounds = refl; stays = next_is round turns (state round turns) (round (state round turns).rules) refl refl ∙ s.same }

-- ---- the answer

abbrev as_answer : Settled → Result Settled Broken
as_answer settled = Ok settled

abbrev as_broken : Broken → Result Settled Broken
as_broken broken = Err broken

module _ (rows : List Row) (id : ℕ) (moment : ℤ) where
  is_answer : settling rows id moment ≡ answer_of rows id moment (collected rows id)
  unfolding settling
  is_answer = refl

  of_lent : (lent : CartRows) → collected rows id ≡ Some lent → settling rows id moment ≡ answer_by id lent (round_in rows lent moment) (first_repeated (round_in rows lent moment) 6 0)
  of_lent lent e = is_answer ∙ ap (answer_of rows id moment) e

  same_answer : (settled : Settled) (s : IsSettled rows id moment settled) → answer_at s.lent (state (round_in rows s.lent moment) s.turns) s.turns ≡ settled
  same_answer settled s =
      let names : settled.labels ≡ labels s.lent (state (round_in rows s.lent moment) s.turns).cart = s.names ∙ ap (labels s.lent) s.prices in
      λ i. record { cart = sym s.prices i; labels = sym names i; rules = sym s.holding i; rounds = sym s.count i }

  settled_is : (settled : Settled) → IsSettled rows id moment settled → settling rows id moment ≡ Ok settled
  settled_is settled s =
      of_lent s.lent s.of
      ∙ (ap (answer_by id s.lent (round_in rows s.lent moment)) (settled_found (round_in rows s.lent moment) s.turns s.first)
      ∙ ap as_answer (same_answer settled s))

  refused_is : (fault : CartRefused) → IsRefused rows id moment fault → IsBroken id fault (settling rows id moment)
  refused_is F.NoSuchCart e = is_answer ∙ ap (answer_of rows id moment) e
  refused_is F.Unstable n = of_lent n.lent n.of ∙ ap (answer_by id n.lent (round_in rows n.lent moment)) (unstable_found (round_in rows n.lent moment) n.unstable)
  refused_is F.NoMemory e = tt

  answer_is : (settled : Settled) → settling rows id moment ≡ Ok settled → IsSettled rows id moment settled
  answer_is settled e = by (collected rows id) refl
    where
      by_lent : (lent : CartRows) → collected rows id ≡ Some lent → (turns : Option ℕ) → first_repeated (round_in rows lent moment) 6 0 ≡ turns → IsSettled rows id moment settled
      by_lent lent of None f =
          let never : as_broken (B.Unstable id) ≡ as_answer settled = sym (of_lent lent of ∙ ap (answer_by id lent (round_in rows lent moment)) f) ∙ e in
          absurd (cc)
      by_lent lent of (Some turns) f =
          let given = state (round_in rows lent moment) turns in
          let both : as_answer (answer_at lent given turns) ≡ as_answer settled = sym (of_lent lent of ∙ ap (answer_by id lent (round_in rows lent moment)) f) ∙ e in
          let same : answer_at lent given turns ≡ settled = cc in
          subst (IsSettled rows id moment) same
          (is_settled rows id moment lent of (rules rows) refl moment refl (given, turns + 2) (labels lent given.cart) (found_settles (round_in rows lent moment) turns f) refl)

      by : (lent : Option CartRows) → collected rows id ≡ lent → IsSettled rows id moment settled
      by None of =
          let never : as_broken (B.NoSuchCart id) ≡ as_answer settled = sym (is_answer ∙ ap (answer_of rows id moment) of) ∙ e in
          absurd (cc)
      by (Some lent) of = by_lent lent of (first_repeated (round_in rows lent moment) 6 0) refl

  -- with the rows of the cart it is settled or unstable
  lent_is : (lent : CartRows) → collected rows id ≡ Some lent → settling rows id moment ≡ Err (B.NoSuchCart id) → ⊥
  lent_is lent of e = by (first_repeated (round_in rows lent moment) 6 0) refl
    where
      by : (turns : Option ℕ) → first_repeated (round_in rows lent moment) 6 0 ≡ turns → ⊥
      by None f =
          let never : as_broken (B.Unstable id) ≡ as_broken (B.NoSuchCart id) = sym (of_lent lent of ∙ ap (answer_by id lent (round_in rows lent moment)) f) ∙ e in
          absurd (cc)
      by (Some turns) f =
          let never : as_answer (answer_at lent (state (round_in rows lent moment) turns) turns) ≡ as_broken (B.NoSuchCart id) = sym (of_lent lent of ∙ ap (answer_by id lent (round_in rows lent moment)) f) ∙ e in
          absurd (cc)

  missing_is : settling rows id moment ≡ Err (B.NoSuchCart id) → IsRefused rows id moment F.NoSuchCart
  missing_is e = by (collected rows id) refl
    where
      by : (lent : Option CartRows) → collected rows id ≡ lent → collected rows id ≡ None
      by None of = of
      by (Some lent) of = absurd (lent_is lent of e)

  unstable_is : settling rows id moment ≡ Err (B.Unstable id) → IsRefused rows id moment F.Unstable
  unstable_is e = by (collected rows id) refl
    where
      by_lent : (lent : CartRows) → collected rows id ≡ Some lent → (turns : Option ℕ) → first_repeated (round_in rows lent moment) 6 0 ≡ turns → NeverSettles rows id moment
      by_lent lent of None f = record { lent = lent; of = of; unstable = none_is_unstable (round_in rows lent moment) f }
      by_lent lent of (Some turns) f =
          let never : as_answer (answer_at lent (state (round_in rows lent moment) turns) turns) ≡ as_broken (B.Unstable id) = sym (of_lent lent of ∙ ap (answer_by id lent (round_in rows lent moment)) f) ∙ e in
          absurd (cc)

      by : (lent : Option CartRows) → collected rows id ≡ lent → NeverSettles rows id moment
      by None of =
          let never : as_broken (B.NoSuchCart id) ≡ as_broken (B.Unstable id) = sym (is_answer ∙ ap (answer_of rows id moment) of) ∙ e in
          absurd (cc)
      by (Some lent) of = by_lent lent of (first_repeated (round_in rows lent moment) 6 0) refl

pub the_answer : SettlingIsTheAnswer
the_answer = record { settled = settled_is; refused = refused_is; answered = answer_is; missing = missing_is; unstable = unstable_is }
