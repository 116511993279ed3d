-- Rules that are sorted, each once, are in the order in which they count.
use Rattle.std.proofs.Common.{◌≡◌, ℤ, Bool, true, false, ◌||◌, List, [], ◌∷◌, refl, sym, ap, subst, ◌∙◌}
use Rattle.std.specs.declared.cmp.Ordering.{Ordering}
use Rattle.std.specs.declared.cmp.Ordering.TheVariants.{Less, Equal, Greater}
use Rattle.std.specs.Ordering.{MatchOrdering, is_eq, int_cmp, nat_cmp}
use Rattle.std.proofs.lemmas.Cmp.{int_ranked}
use lib.Signed.{◌<ℤ◌}
use Rattle.keyed.specs.Keyed.{Ascends, put}
use Rattle.keyed.proofs.Changes.{ascends_put}
use Rattle.shop_rows.proofs.Same.{both_equal, nat_is}
use Rattle.shop_rules.specs.declared.ranked.Ranked.{Ranked}
use Rattle.shop_rules.specs.declared.facts.CartFacts.{CartFacts}
use Rattle.shop_rules.specs.Ranking.{Rule, rank_cmp, its, in_rank, holding, matched, is_among as held, AreRanked}
use Rattle.shop_rules.specs.RankOrder.{rank_cmp_total}

int_is : (a b : ℤ) → int_cmp a b ≡ Equal → a ≡ b
int_is a b e = let P : Ordering → Type 0 = λ o. MatchOrdering o (a <ℤ b) (a ≡ b) (b <ℤ a) in subst P e (int_ranked a b (int_cmp a b) refl)

-- rules that tie are one
pub rank_is : (a b : Ranked) → rank_cmp a b ≡ Equal → a ≡ b
rank_is a b e =
    let both = both_equal (int_cmp b.priority a.priority) (nat_cmp a.id b.id) e in
    let priority : a.priority ≡ b.priority = sym (int_is _ _ both.first) in
    let id : a.id ≡ b.id = nat_is _ _ both.second in
    λ i. record { priority = priority i; id = id i }

swapped : (a b c : Bool) → (a || (b || c)) ≡ (b || (a || c))
swapped true true c = refl
swapped true false c = refl
swapped false true c = refl
swapped false false c = refl

twice : (a b c : Bool) → a ≡ b → (b || c) ≡ (b || (a || c))
twice true true c e = refl
twice true false c e = absurd (cc)
twice false true c e = absurd (cc)
twice false false c e = refl

-- a put puts the rule among the others
held-put : (rules : List Ranked) (rule q : Ranked) → held (put rank_cmp its rules rule) q ≡ (is_eq (rank_cmp rule q) || held rules q)
held-put [] rule q = refl
held-put (first ∷ rules) rule q = by (held-put rules rule q) (rank_cmp first rule) refl
  where
    by : held (put rank_cmp its rules rule) q ≡ (is_eq (rank_cmp rule q) || held rules q) → (o : Ordering) → rank_cmp first rule ≡ o → held (put rank_cmp its (first ∷ rules) rule) q ≡ (is_eq (rank_cmp rule q) || held (first ∷ rules) q)
    by more Less e = rw e (ap (λ (b : Bool). is_eq (rank_cmp first q) || b) more ∙ swapped (is_eq (rank_cmp first q)) (is_eq (rank_cmp rule q)) (held rules q))
    by more Equal e = rw e (twice (is_eq (rank_cmp first q)) (is_eq (rank_cmp rule q)) (held rules q) (ap is_eq (rank_cmp_total.congr first rule q e)))
    by more Greater e = rw e refl

pub in_rank-held : (rules : List Ranked) (q : Ranked) → held (in_rank rules) q ≡ held rules q
in_rank-held [] q = refl
in_rank-held (rule ∷ rules) q = held-put (in_rank rules) rule q ∙ ap (λ (b : Bool). is_eq (rank_cmp rule q) || b) (in_rank-held rules q)

pub in_rank-ascends : (rules : List Ranked) → Ascends rank_cmp its (in_rank rules)
in_rank-ascends [] = tt
in_rank-ascends (rule ∷ rules) = ascends_put rank_cmp its rank_cmp_total (in_rank rules) rule (in_rank-ascends rules)

pub are_ranked : (rules : List Rule) (facts : CartFacts) (moment : ℤ) → AreRanked rules facts moment (matched rules facts moment)
are_ranked rules facts moment = record {
  ranked = in_rank (holding rules facts moment);
  are = refl;
  order = in_rank-ascends (holding rules facts moment);
  hold = λ rule. in_rank-held (holding rules facts moment) rule;
}
