-- Keys, topics and mentions that compare as equal are the same.
use Rattle.std.proofs.Common.{◌≡◌, ℕ, ◌<◌, true, eqb, ◌&&◌, refl, ap, subst, arith}
use Rattle.std.specs.declared.cmp.Ordering.{Ordering}
use Rattle.std.specs.declared.cmp.Ordering.TheVariants.{Less, Equal, Greater}
use Rattle.std.specs.Cmp.{IsTotalOrder}
use Rattle.std.specs.Ordering.{is_eq, nat_cmp, ordering_then, ordering_reverse, MatchOrdering}
use Rattle.std.proofs.lemmas.Cmp.{ranked, on_total, then_total}
use Rattle.std.proofs.lemmas.Bool.Decides.{nat_tests}
use Rattle.shop_defs.specs.declared.key.Key.{Key}
use Rattle.shop_defs.specs.Entities.{entity_number}
use Rattle.shop_defs.specs.Keys.{key_cmp}
use Rattle.shop_defs.proofs.EachLine.{same_entity}
use Rattle.shop_defs.proofs.Keys.{key_cmp_total}
use Rattle.shop_rows.specs.declared.topic.Topic.{Topic}
use Rattle.shop_rows.specs.declared.topic.Topic.TheVariants as T
use Rattle.shop_rows.specs.declared.topic.Mention.{Mention}
use Rattle.shop_rows.specs.Topics.{topic_cmp, mention_cmp}
use Rattle.shop_rows.specs.TopicOrder.{topic_cmp_total}

-- ---- orders

pub nat_is : (a b : ℕ) → nat_cmp a b ≡ Equal → a ≡ b
nat_is a b e = let P : Ordering → Type 0 = λ o. MatchOrdering o (a < b) (a ≡ b) (b < a) in subst P e (ranked a b (nat_cmp a b) refl)

pub is_eq-nat_cmp : (a b : ℕ) → is_eq (nat_cmp a b) ≡ eqb a b
is_eq-nat_cmp a b = grind (arith, nat_tests)

pub is_eq-then : (a b : Ordering) → is_eq (ordering_then a b) ≡ (is_eq a && is_eq b)
is_eq-then Less b = refl
is_eq-then Equal b = refl
is_eq-then Greater b = refl

pub record BothEqual (a b : Ordering) : Type 0 where
  pub first : a ≡ Equal
  pub second : b ≡ Equal

pub both_equal : (a b : Ordering) → ordering_then a b ≡ Equal → BothEqual a b
both_equal Less b e = absurd (cc)
both_equal Equal b e = record { first = refl; second = e }
both_equal Greater b e = absurd (cc)

pub is_equal : (o : Ordering) → is_eq o ≡ true → o ≡ Equal
is_equal Less e = absurd (cc)
is_equal Equal e = refl
is_equal Greater e = absurd (cc)

pub itself_equal : {K : Type 0} (cmp : K → K → Ordering) → IsTotalOrder cmp → (x : K) → cmp x x ≡ Equal
itself_equal cmp order x = own (cmp x x) (order.antisymm x x)
  where
    own : (o : Ordering) → o ≡ ordering_reverse o → o ≡ Equal
    own Less e = absurd (cc)
    own Equal e = refl
    own Greater e = absurd (cc)

-- ---- keys

pub key_is : (a b : Key) → key_cmp a b ≡ Equal → a ≡ b
key_is a b e =
    let one = both_equal (nat_cmp (entity_number a.entity) (entity_number b.entity)) (ordering_then (nat_cmp a.version b.version) (ordering_then (nat_cmp a.id b.id) (nat_cmp a.second b.second))) e in
    let two = both_equal (nat_cmp a.version b.version) (ordering_then (nat_cmp a.id b.id) (nat_cmp a.second b.second)) one.second in
    let three = both_equal (nat_cmp a.id b.id) (nat_cmp a.second b.second) two.second in
    let entity : a.entity ≡ b.entity = same_entity a.entity b.entity (nat_is _ _ one.first) in
    let version : a.version ≡ b.version = nat_is _ _ two.first in
    let id : a.id ≡ b.id = nat_is _ _ three.first in
    let second : a.second ≡ b.second = nat_is _ _ three.second in
    λ i. record { entity = entity i; version = version i; id = id i; second = second i }

-- ---- topics

pub topic_is : (a b : Topic) → topic_cmp a b ≡ Equal → a ≡ b
topic_is (T.RefersTo v o n) (T.RefersTo w p m) e =
    let one = both_equal (nat_cmp v w) (ordering_then (nat_cmp (entity_number o) (entity_number p)) (nat_cmp n m)) e in
    let two = both_equal (nat_cmp (entity_number o) (entity_number p)) (nat_cmp n m) one.second in
    let version : v ≡ w = nat_is v w one.first in
    let of : o ≡ p = same_entity o p (nat_is _ _ two.first) in
    let id : n ≡ m = nat_is n m two.second in
    λ i. T.RefersTo (version i) (of i) (id i)
topic_is (T.RefersTo v o n) (T.HasPrint q) e = absurd (cc)
topic_is (T.HasPrint p) (T.RefersTo w o m) e = absurd (cc)
topic_is (T.HasPrint p) (T.HasPrint q) e = ap (λ (x : ℕ). T.HasPrint x) (nat_is p q e)

-- ---- mentions

pub mention_cmp_total : IsTotalOrder mention_cmp
mention_cmp_total = then_total (on_total (λ (m : Mention). m.topic) topic_cmp_total) (on_total (λ (m : Mention). m.key) key_cmp_total)
