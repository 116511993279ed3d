-- Along rows, keys and mentions in order, the places that searches look for rise.
use Rattle.std.proofs.Common.{◌≡◌, ℕ, ◌<◌, ◌≤◌, false, List, [], get_or, refl, sym, ap, ◌∙◌, inl, inr, ◌⊎◌, arith}
use Rattle.std.specs.declared.cmp.Ordering.{Ordering}
use Rattle.std.specs.declared.cmp.Ordering.TheVariants.{Less, Equal, Greater}
use Rattle.std.specs.Cmp.{IsTotalOrder}
use Rattle.std.specs.Ordering.{is_gt, ordering_index, ordering_then, ordering_reverse, nat_cmp}
use Rattle.std.specs.List.Sorted.{IsNonDecreasingBy}
use Rattle.std.proofs.lemmas.Cmp.{nat_cmp_total, on_total, then_total}
use Rattle.keyed.specs.Keyed.{Ascends}
use Rattle.keyed.proofs.Places.{less_by_place}
use Rattle.shop_defs.specs.declared.entity.Entity.{Entity}
use Rattle.shop_defs.specs.declared.entity.Entity.TheVariants as E
use Rattle.shop_defs.specs.declared.key.Key.{Key}
use Rattle.shop_defs.specs.declared.row.Row.{Row}
use Rattle.shop_defs.specs.Entities.{entity_number}
use Rattle.shop_defs.specs.Keys.{key_cmp}
use Rattle.shop_defs.specs.Rows.{row_key, IsInKeyOrder}
use Rattle.shop_defs.proofs.Keys.{key_cmp_total}
use Rattle.shop_rows.specs.declared.topic.Topic.{Topic}
use Rattle.shop_rows.specs.declared.topic.Mention.{Mention}
use Rattle.shop_rows.specs.Topics.{topic_cmp, mention_cmp}
use Rattle.shop_rows.specs.TopicOrder.{topic_cmp_total}
use Rattle.shop_rows.specs.Searches.{from_key, from_entity, from_entity_of, from_live_id, from_topic, from_topic_of, lowest}

module _ {X : Type 0} (before : X → X → Ordering) (order : IsTotalOrder before) (place : X) where
  -- what isn't above another stands no higher, seen from any place
  seen_from : (a b : X) → (o r : Ordering) → before a b ≡ o → before b place ≡ r → is_gt o ≡ false → ordering_index (before a place) ≤ ordering_index (before b place)
  seen_from a b Less Less e f low = rw (order.trans a b place e f, f) (omega arith)
  seen_from a b Less Equal e f low =
      let right : before a b ≡ before a place = order.antisymm a b ∙ (ap ordering_reverse (order.congr b place a f) ∙ sym (order.antisymm a place)) in
      rw (f, ← right, e) (omega arith)
  seen_from a b Less Greater e f low = rw f (at_most_two (before a place))
    where
      at_most_two : (o : Ordering) → ordering_index o ≤ 2
      at_most_two Less = omega arith
      at_most_two Equal = omega arith
      at_most_two Greater = omega arith
  seen_from a b Equal r e f low = rw (order.congr a b place e) (omega arith)
  seen_from a b Greater r e f low = absurd (cc)

  -- along a list in an order of which this one is the front part, places rise
  pub rises_along : {K : Type 0} (cmp : K → K → Ordering) (key : X → K) (xs : List X) → Ascends cmp key xs → ((a b : X) → cmp (key a) (key b) ≡ Less → is_gt (before a b) ≡ false)
      → IsNonDecreasingBy (λ x. ordering_index (before x place)) xs
  rises_along cmp key xs up front i j d l r = by (at_or_below i j l)
    where
      at_or_below : (m n : ℕ) → m ≤ n → (m < n) ⊎ (m ≡ n)
      at_or_below m n h = grind arith

      by : (i < j) ⊎ (i ≡ j) → ordering_index (before (get_or xs i d) place) ≤ ordering_index (before (get_or xs j d) place)
      by (inl less) = seen_from (get_or xs i d) (get_or xs j d) _ _ refl refl (front _ _ (less_by_place cmp key xs i j d up less r))
      by (inr same) = rw same (omega arith)

-- ---- front parts of an order

front_of_two : (a b : Ordering) → ordering_then a b ≡ Less → is_gt a ≡ false
front_of_two Less b e = refl
front_of_two Equal b e = refl
front_of_two Greater b e = absurd (cc)

front_of_three : (a b c : Ordering) → ordering_then a (ordering_then b c) ≡ Less → is_gt (ordering_then a b) ≡ false
front_of_three Less b c e = refl
front_of_three Equal b c e = front_of_two b c e
front_of_three Greater b c e = absurd (cc)

front_of_four : (a b c d : Ordering) → ordering_then a (ordering_then b (ordering_then c d)) ≡ Less → is_gt (ordering_then a (ordering_then b c)) ≡ false
front_of_four Less b c d e = refl
front_of_four Equal b c d e = front_of_three b c d e
front_of_four Greater b c d e = absurd (cc)

no_gt : (o : Ordering) → o ≡ Less → is_gt o ≡ false
no_gt o e = ap is_gt e

-- ---- rows

abbrev row_with : Key → Row
row_with key = record { key = key; fields = []; ops = [] }

pub keys_rise : (rows : List Row) (key : Key) → IsInKeyOrder rows → IsNonDecreasingBy (λ row. ordering_index (from_key key row)) rows
keys_rise rows key order = rises_along (λ (a b : Row). key_cmp a.key b.key) (on_total (λ (row : Row). row.key) key_cmp_total) (row_with key) key_cmp row_key rows order (λ a b e. no_gt _ e)

pub entities_rise : (rows : List Row) (entity : Entity) → IsInKeyOrder rows → IsNonDecreasingBy (λ row. ordering_index (from_entity entity row)) rows
entities_rise rows entity order =
    rises_along (λ (a b : Row). nat_cmp (entity_number a.key.entity) (entity_number b.key.entity)) (on_total (λ (row : Row). entity_number row.key.entity) nat_cmp_total)
    (row_with (record { entity = entity; version = 0; id = 0; second = 0 })) key_cmp row_key rows order (λ a b e. front_of_two _ _ e)

-- ---- keys: a place isn't seen to fall

pub entity_of_mono : (entity : Entity) (version : ℕ) (a b : Key) → key_cmp a b ≡ Less → ordering_index (from_entity_of entity version a) ≤ ordering_index (from_entity_of entity version b)
entity_of_mono entity version a b less =
    seen_from (λ (a b : Key). ordering_then (nat_cmp (entity_number a.entity) (entity_number b.entity)) (nat_cmp a.version b.version))
    (then_total (on_total (λ (key : Key). entity_number key.entity) nat_cmp_total) (on_total (λ (key : Key). key.version) nat_cmp_total))
    (record { entity = entity; version = version; id = 0; second = 0 }) a b _ _ refl refl
    (front_of_three (nat_cmp (entity_number a.entity) (entity_number b.entity)) (nat_cmp a.version b.version) (ordering_then (nat_cmp a.id b.id) (nat_cmp a.second b.second)) less)

pub live_id_mono : (entity : Entity) (id : ℕ) (a b : Key) → key_cmp a b ≡ Less → ordering_index (from_live_id entity id a) ≤ ordering_index (from_live_id entity id b)
live_id_mono entity id a b less =
    seen_from (λ (a b : Key). ordering_then (nat_cmp (entity_number a.entity) (entity_number b.entity)) (ordering_then (nat_cmp a.version b.version) (nat_cmp a.id b.id)))
    (then_total (on_total (λ (key : Key). entity_number key.entity) nat_cmp_total) (then_total (on_total (λ (key : Key). key.version) nat_cmp_total) (on_total (λ (key : Key). key.id) nat_cmp_total)))
    (record { entity = entity; version = 0; id = id; second = 0 }) a b _ _ refl refl
    (front_of_four (nat_cmp (entity_number a.entity) (entity_number b.entity)) (nat_cmp a.version b.version) (nat_cmp a.id b.id) (nat_cmp a.second b.second) less)

-- ---- mentions

pub topic_mono : (topic : Topic) (a b : Mention) → mention_cmp a b ≡ Less → ordering_index (from_topic topic a) ≤ ordering_index (from_topic topic b)
topic_mono topic a b less =
    seen_from (λ (a b : Mention). topic_cmp a.topic b.topic) (on_total (λ (mention : Mention). mention.topic) topic_cmp_total) (lowest topic E.Language) a b _ _ refl refl (front_of_two _ _ less)

pub topic_of_mono : (topic : Topic) (entity : Entity) (a b : Mention) → mention_cmp a b ≡ Less → ordering_index (from_topic_of topic entity a) ≤ ordering_index (from_topic_of topic entity b)
topic_of_mono topic entity a b less =
    seen_from (λ (a b : Mention). ordering_then (topic_cmp a.topic b.topic) (nat_cmp (entity_number a.key.entity) (entity_number b.key.entity)))
    (then_total (on_total (λ (mention : Mention). mention.topic) topic_cmp_total) (on_total (λ (mention : Mention). entity_number mention.key.entity) nat_cmp_total))
    (lowest topic entity) a b _ _ refl refl
    (front_of_three (topic_cmp a.topic b.topic) (nat_cmp (entity_number a.key.entity) (entity_number b.key.entity)) (ordering_then (nat_cmp a.key.version b.key.version) (ordering_then (nat_cmp a.key.id b.key.id) (nat_cmp a.key.second b.key.second))) less)
