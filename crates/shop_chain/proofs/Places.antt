-- Lists in which each id stands at its first place only.
use Rattle.std.proofs.Common.{◌≡◌, ℕ, Bool, true, false, not, List, [], ◌∷◌, ◌++◌, refl, ap, sym, ◌∙◌, ◌≢◌, inl, inr, cond, nat_eq, ◌||◌, append-nil}
use Rattle.std.specs.List.{filter, list_any, AllByRecursion, IsDistinct}
use Rattle.std.specs.Prelude.{Option, Some, None}
use Rattle.std.specs.Option.{option_map_or}
use Rattle.std.proofs.lemmas.Bool.{eqb-true, eq-eqb}
use Rattle.std.proofs.lemmas.List.Elements.{filter-append}
use Rattle.std.proofs.lemmas.List.Folds.{list_any-append}
use Rattle.shop_chain.specs.Chains.{walk, most_ancestors, each_once, chain_by, with_language, IsOfChain, IsChain}
use Rattle.shop_chain.specs.declared.languages.TheConstants.{SYSTEM_LANGUAGE}

-- the test for one id, and the ids other than another
abbrev has : ℕ → List ℕ → Bool
has id ids = list_any (λ other. nat_eq other id) ids

abbrev others : ℕ → List ℕ → List ℕ
others first ids = filter (λ other. not (nat_eq first other)) ids

-- an id that isn't the first is among them exactly where it is among those that aren't the first
has-others : (first id : ℕ) (ids : List ℕ) → nat_eq first id ≡ false → has id (others first ids) ≡ has id ids
has-others first id [] differ = refl
has-others first id (x ∷ ids) differ = by (has-others first id ids differ) (nat_eq first x) refl
  where
    by : has id (others first ids) ≡ has id ids → (same : Bool) → nat_eq first x ≡ same → has id (cond (not same) (x ∷ others first ids) (others first ids)) ≡ (nat_eq x id || has id ids)
    by rest true is = let at : nat_eq x id ≡ false = rw (← eqb-true first x is) differ in rw at rest
    by rest false is = ap (λ among. nat_eq x id || among) rest

-- behind a first id, one more at the end stands there only where it stands nowhere before
behind : (first id : ℕ) (ids : List ℕ) → first ∷ others first (with_language ids id) ≡ with_language (first ∷ others first ids) id
behind first id ids = by (nat_eq first id) refl (has id ids) refl
  where
    last : others first (ids ++ id ∷ []) ≡ others first ids ++ others first (id ∷ [])
    last = filter-append (λ other. not (nat_eq first other)) ids (id ∷ [])

    by : (same : Bool) → nat_eq first id ≡ same → (among : Bool) → has id ids ≡ among → first ∷ others first (cond among ids (ids ++ id ∷ [])) ≡ cond (same || has id (others first ids)) (first ∷ others first ids) ((first ∷ others first ids) ++ id ∷ [])
    by true is true there = refl
    by true is false there = ap (λ rest. first ∷ rest) (rw is at last ∙ append-nil (others first ids))
    by false is true there = rw (has-others first id ids is, there) refl
    by false is false there = rw (has-others first id ids is, there) (ap (λ rest. first ∷ rest) (rw is at last))

-- one id more at the end stands there only where it stands nowhere before
pub each_once-append : (ids : List ℕ) (id : ℕ) → each_once (ids ++ id ∷ []) ≡ with_language (each_once ids) id
each_once-append [] id = refl
each_once-append (first ∷ ids) id =
    ap (λ rest. first ∷ others first rest) (each_once-append ids id) ∙ behind first id (each_once ids)

-- what holds of all elements holds of those that pass a test
all-filter : (P : ℕ → Type 0) (p : ℕ → Bool) (ids : List ℕ) → AllByRecursion P ids → AllByRecursion P (filter p ids)
all-filter P p [] all = tt
all-filter P p (id ∷ ids) all = by (p id) (all-filter P p ids all.1)
  where
    by : (passes : Bool) → AllByRecursion P (filter p ids) → AllByRecursion P (cond passes (id ∷ filter p ids) (filter p ids))
    by true rest = (all.0, rest)
    by false rest = rest

distinct-filter : (p : ℕ → Bool) (ids : List ℕ) → IsDistinct nat_eq ids → IsDistinct nat_eq (filter p ids)
unfolding IsDistinct
distinct-filter p [] distinct = tt
distinct-filter p (id ∷ ids) distinct = by (p id) (distinct-filter p ids distinct.1)
  where
    by : (passes : Bool) → IsDistinct nat_eq (filter p ids) → IsDistinct nat_eq (cond passes (id ∷ filter p ids) (filter p ids))
    by true rest = (all-filter (λ other. nat_eq id other ≡ false) p ids distinct.0, rest)
    by false rest = rest

-- none of the others is the first
differ-others : (first : ℕ) (ids : List ℕ) → AllByRecursion (λ other. nat_eq first other ≡ false) (others first ids)
differ-others first [] = tt
differ-others first (id ∷ ids) = by (nat_eq first id) refl (differ-others first ids)
  where
    by : (same : Bool) → nat_eq first id ≡ same → AllByRecursion (λ other. nat_eq first other ≡ false) (others first ids) → AllByRecursion (λ other. nat_eq first other ≡ false) (cond (not same) (id ∷ others first ids) (others first ids))
    by true is rest = rest
    by false is rest = (is, rest)

-- no id stands twice
each_once-distinct : (ids : List ℕ) → IsDistinct nat_eq (each_once ids)
unfolding IsDistinct
each_once-distinct [] = tt
each_once-distinct (first ∷ ids) =
    (differ-others first (each_once ids), distinct-filter (λ other. not (nat_eq first other)) (each_once ids) (each_once-distinct ids))

-- the last one is there
has-last : (ids : List ℕ) (id : ℕ) → has id (with_language ids id) ≡ true
has-last ids id = by (has id ids) refl
  where
    by : (among : Bool) → has id ids ≡ among → has id (cond among ids (ids ++ id ∷ [])) ≡ true
    by true there = there
    by false there = rw (list_any-append (λ other. nat_eq other id) ids (id ∷ []), there, eq-eqb id id refl) refl

-- what holds of all ids holds of each at its first place
each_once-all : (P : ℕ → Type 0) (ids : List ℕ) → AllByRecursion P ids → AllByRecursion P (each_once ids)
each_once-all P [] all = tt
each_once-all P (id ∷ ids) all = (all.0, all-filter P (λ other. not (nat_eq id other)) (each_once ids) (each_once-all P ids all.1))

-- the ids of which a chain is made are the language, its parent and the system language
none_else : (parent : ℕ → Option ℕ) (language : ℕ) → AllByRecursion (IsOfChain language (parent language)) (walk parent most_ancestors language ++ SYSTEM_LANGUAGE ∷ [])
none_else parent language = by (parent language)
  where
    by : (above : Option ℕ) → AllByRecursion (IsOfChain language above) ((language ∷ option_map_or (walk parent 0) above []) ++ SYSTEM_LANGUAGE ∷ [])
    by None = (inl refl, (inr (inr refl), tt))
    by (Some above) = (inl refl, (inr (inl refl), (inr (inr refl), tt)))

-- another parent stands second
second_is : (parent : ℕ → Option ℕ) (language above : ℕ) → parent language ≡ Some above → above ≢ language → (rest : List ℕ) × (chain_by parent language ≡ language ∷ above ∷ rest)
second_is parent language above named other =
    (_, ap (λ (found : Option ℕ). each_once ((language ∷ option_map_or (walk parent 0) found []) ++ SYSTEM_LANGUAGE ∷ [])) named ∙ by (nat_eq language above) refl)
  where
    by : (same : Bool) → nat_eq language above ≡ same → each_once (language ∷ above ∷ SYSTEM_LANGUAGE ∷ []) ≡ language ∷ above ∷ others language (others above (SYSTEM_LANGUAGE ∷ []))
    by true is = absurd (other (sym (eqb-true language above is)))
    by false is = rw is refl

-- every chain keeps what is said of it in words
pub chain_by-words : (parent : ℕ → Option ℕ) (language : ℕ) → IsChain language (parent language) (chain_by parent language)
chain_by-words parent language = record {
  begins = (_, refl);
  second = second_is parent language;
  once = each_once-distinct (walk parent most_ancestors language ++ SYSTEM_LANGUAGE ∷ []);
  system = ap (λ ids. has SYSTEM_LANGUAGE ids) (each_once-append (walk parent most_ancestors language) SYSTEM_LANGUAGE) ∙ has-last (each_once (walk parent most_ancestors language)) SYSTEM_LANGUAGE;
  no_other = each_once-all (IsOfChain language (parent language)) (walk parent most_ancestors language ++ SYSTEM_LANGUAGE ∷ []) (none_else parent language);
}

pub ruleset places = (each_once-append, chain_by-words)
