-- Places in a strict order: how many elements come before one, and how many of the first there are.
use Rattle.std.proofs.Common.{◌≡◌, ℕ, zero, suc, ◌+◌, ◌≤◌, ◌<◌, Bool, true, false, cond, List, [], ◌∷◌, length, ◌⊎◌, inl, inr, refl, ap, subst, ◌∙◌, arith}
use Rattle.std.specs.Prelude.{nat_lt, count_by}
use Rattle.std.specs.List.{AllByRecursion}
use Rattle.std.proofs.lemmas.List.Sums.{sum_by-cons, count_by-le-length}
use Rattle.std.proofs.lemmas.Bool.{lt-ltb, le-ltb}
use Rattle.std.proofs.lemmas.Bool.Decides.{nat_tests}

-- an element is among those of a list
abbrev pub Among : {A : Type 0} → List A → A → Type 0
Among [] e = ⊥
Among (x ∷ xs) e = (x ≡ e) ⊎ Among xs e

-- what holds of each element holds of one among them
pub at_among : {A : Type 0} (P : A → Type 0) (xs : List A) (e : A) → AllByRecursion P xs → Among xs e → P e
at_among P [] e all among = absurd among
at_among P (x ∷ xs) e all (inl same) = subst P same all.0
at_among P (x ∷ xs) e all (inr later) = at_among P xs e all.1 later

one_more : {A : Type 0} (p : A → Bool) (x : A) (xs : List A) → count_by p (x ∷ xs) ≡ cond (p x) 1 0 + count_by p xs
one_more p x xs = sum_by-cons (λ y. cond (p y) 1 0) x xs

weight_le : (a b : Bool) → (a ≡ true → b ≡ true) → cond a 1 0 ≤ cond b 1 0
weight_le true b h = grind (arith, h refl)
weight_le false true h = omega arith
weight_le false false h = omega arith

-- where one test passes whenever another does, as many pass or more
pub count_le : {A : Type 0} (p q : A → Bool) (xs : List A) → ((x : A) → p x ≡ true → q x ≡ true) → count_by p xs ≤ count_by q xs
count_le p q [] h = omega arith
count_le p q (x ∷ xs) h =
    let rest : count_by p xs ≤ count_by q xs = count_le p q xs h in
    let here = weight_le (p x) (q x) (h x) in
    rw (one_more p x xs, one_more q x xs) (omega arith)

-- and more, where an element among them passes that one alone
pub count_lt : {A : Type 0} (p q : A → Bool) (xs : List A) (e : A) → ((x : A) → p x ≡ true → q x ≡ true) → p e ≡ false → q e ≡ true → Among xs e → count_by p xs < count_by q xs
count_lt p q [] e h fails passes among = absurd among
count_lt p q (x ∷ xs) e h fails passes (inl same) =
    let rest : count_by p xs ≤ count_by q xs = count_le p q xs h in
    let left : p x ≡ false = ap p same ∙ fails in
    let right : q x ≡ true = ap q same ∙ passes in
    rw (one_more p x xs, one_more q x xs, left, right) (omega arith)
count_lt p q (x ∷ xs) e h fails passes (inr later) =
    let rest : count_by p xs < count_by q xs = count_lt p q xs e h fails passes later in
    let here = weight_le (p x) (q x) (h x) in
    rw (one_more p x xs, one_more q x xs) (omega arith)

-- tests that agree at the elements of a list count the same
pub count_same : {A : Type 0} (p q : A → Bool) (xs : List A) → ((e : A) → Among xs e → p e ≡ q e) → count_by p xs ≡ count_by q xs
count_same p q [] h = refl
count_same p q (x ∷ xs) h =
    let rest : count_by p xs ≡ count_by q xs = count_same p q xs (λ e among. h e (inr among)) in
    let here : p x ≡ q x = h x (inl refl) in
    rw (one_more p x xs, one_more q x xs, here, rest) refl

-- the test says which of two elements comes first
pub record IsStrictOrder {A : Type 0} (first : A → A → Bool) : Type 0 where
  pub irreflexive : (a : A) → first a a ≡ false
  pub transitive : (a b c : A) → first a b ≡ true → first b c ≡ true → first a c ≡ true

abbrev pub IsApart : {A : Type 0} → (A → A → Bool) → A → A → Type 0
IsApart first a b = (first a b ≡ true) ⊎ (first b a ≡ true)

-- of any two elements of the list, one comes first
abbrev pub AreApart : {A : Type 0} → (A → A → Bool) → List A → Type 0
AreApart first [] = Unit {0}
AreApart first (x ∷ xs) = AllByRecursion (IsApart first x) xs × AreApart first xs

abbrev pub rank_in : {A : Type 0} → (A → A → Bool) → List A → A → ℕ
rank_in first xs at = count_by (λ other. first other at) xs

step_above : (b : Bool) (rank r v : ℕ) → r < suc v → (b ≡ false → rank < r) → nat_lt (cond b 1 0 + rank) (suc v) ≡ nat_lt rank v
step_above true rank r v low h = grind (arith, nat_tests)
step_above false rank r v low h = let below = h refl in grind (arith, nat_tests)

step_below : (b : Bool) (rank r u : ℕ) → u ≤ r → (b ≡ true → r ≤ rank) → nat_lt (cond b 1 0 + rank) u ≡ nat_lt rank u
step_below true rank r u high h = let above = h refl in grind (arith, nat_tests)
step_below false rank r u high h = grind (arith, nat_tests)

split : (r u : ℕ) → (u ≤ r) ⊎ (r < u)
split r u = grind (arith, nat_tests)

-- of a list whose elements are apart, as many as one likes have a lower rank than that number
module _ {A : Type 0} (first : A → A → Bool) (order : IsStrictOrder first) where
  -- an element that doesn't come after y has fewer before it than y
  lower : (xs : List A) (y e : A) → IsApart first y e → Among xs e → first y e ≡ false → rank_in first xs e < rank_in first xs y
  lower xs y e (inl after) among isnt = absurd (cc)
  lower xs y e (inr earlier) among isnt =
      count_lt (λ other. first other e) (λ other. first other y) xs e (λ o before. order.transitive o e y before earlier) (order.irreflexive e) earlier among

  higher : (xs : List A) (y e : A) → first y e ≡ true → rank_in first xs y ≤ rank_in first xs e
  higher xs y e earlier = count_le (λ other. first other y) (λ other. first other e) xs (λ o before. order.transitive o y e before earlier)

  abbrev ranked_below : List A → ℕ → A → Bool
  ranked_below xs u e = nat_lt (rank_in first xs e) u

  with_first : (y : A) (xs : List A) (v : ℕ) → AllByRecursion (IsApart first y) xs → rank_in first xs y < suc v → count_by (ranked_below (y ∷ xs) (suc v)) (y ∷ xs) ≡ 1 + count_by (ranked_below xs v) xs
  with_first y xs v apart low =
      let rest : count_by (ranked_below (y ∷ xs) (suc v)) xs ≡ count_by (ranked_below xs v) xs =
      count_same (ranked_below (y ∷ xs) (suc v)) (ranked_below xs v) xs (λ e among.
      rw (one_more (λ other. first other e) y xs)
      (step_above (first y e) (rank_in first xs e) (rank_in first xs y) v low (lower xs y e (at_among (IsApart first y) xs e apart among) among))) in
      let here : ranked_below (y ∷ xs) (suc v) y ≡ true =
      rw (one_more (λ other. first other y) y xs, order.irreflexive y) (lt-ltb (0 + rank_in first xs y) (suc v) (omega arith)) in
      rw (one_more (ranked_below (y ∷ xs) (suc v)) y xs, here, rest) refl

  without_first : (y : A) (xs : List A) (u : ℕ) → u ≤ rank_in first xs y → count_by (ranked_below (y ∷ xs) u) (y ∷ xs) ≡ count_by (ranked_below xs u) xs
  without_first y xs u high =
      let rest : count_by (ranked_below (y ∷ xs) u) xs ≡ count_by (ranked_below xs u) xs =
      count_same (ranked_below (y ∷ xs) u) (ranked_below xs u) xs (λ e among.
      rw (one_more (λ other. first other e) y xs)
      (step_below (first y e) (rank_in first xs e) (rank_in first xs y) u high (higher xs y e))) in
      let here : ranked_below (y ∷ xs) u y ≡ false =
      rw (one_more (λ other. first other y) y xs, order.irreflexive y) (le-ltb (0 + rank_in first xs y) u (omega arith)) in
      rw (one_more (ranked_below (y ∷ xs) u) y xs, here, rest) (omega arith)

  either : (y : A) (xs : List A) (u : ℕ) → AllByRecursion (IsApart first y) xs → ((v : ℕ) → v ≤ length xs → count_by (ranked_below xs v) xs ≡ v) → u ≤ suc (length xs) → (u ≤ rank_in first xs y) ⊎ (rank_in first xs y < u) → count_by (ranked_below (y ∷ xs) u) (y ∷ xs) ≡ u
  either y xs u apart below short (inl high) =
      without_first y xs u high ∙ below u (let most = count_by-le-length (λ other. first other y) xs in omega arith)
  either y xs zero apart below short (inr low) = absurd (omega arith)
  either y xs (suc v) apart below short (inr low) =
      with_first y xs v apart low ∙ ap (λ n. 1 + n) (below v (omega arith)) ∙ (omega arith)

  pub first_ones : (xs : List A) (u : ℕ) → AreApart first xs → u ≤ length xs → count_by (ranked_below xs u) xs ≡ u
  first_ones [] u apart short = omega arith
  first_ones (y ∷ xs) u apart short =
      either y xs u apart.0 (λ v less. first_ones xs v apart.1 less) short (split (rank_in first xs y) u)
