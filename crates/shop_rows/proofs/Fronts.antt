-- What stands at a place is the front of what stands from the place's lowest key on.
use Rattle.std.proofs.Common.{◌≡◌, ℕ, zero, suc, ◌≤◌, Bool, true, false, List, [], ◌∷◌, map, filter, if◌then◌else◌, refl, sym, ap, ◌∙◌, arith}
use Rattle.std.specs.declared.cmp.Ordering.{Ordering}
use Rattle.std.specs.declared.cmp.Ordering.TheVariants.{Less, Equal, Greater}
use Rattle.std.specs.Ordering.{is_eq, is_lt, ordering_index, ordering_then, nat_cmp}
use Rattle.std.specs.Cmp.{nat_cmp_is}
use Rattle.std.specs.List.{AllByRecursion}
use Rattle.keyed.specs.Keyed.{Ascends}
use Rattle.paged.specs.Pairs.{key_of, value_of}
use Rattle.paged.specs.Walk.{from}
use Rattle.shop_defs.specs.declared.entity.Entity.{Entity}
use Rattle.shop_defs.specs.declared.entity.Entity.TheVariants as E
use Rattle.shop_defs.specs.declared.key.Key.{Key}
use Rattle.shop_defs.specs.declared.row.Row.{Row}
use Rattle.shop_defs.specs.Entities.{entity_number}
use Rattle.shop_defs.specs.Keys.{key_cmp}
use Rattle.shop_rows.specs.declared.topic.Topic.{Topic}
use Rattle.shop_rows.specs.declared.topic.Mention.{Mention}
use Rattle.shop_defs.specs.Rows.{IsInKeyOrder}
use Rattle.shop_rows.specs.Fronts.{front}
use Rattle.shop_rows.specs.Mentions.{itself}
use Rattle.shop_rows.specs.Paging.{IsUnderItsKey}
use Rattle.shop_rows.specs.Searches.{from_entity_of, from_live_id, from_topic, from_topic_of, lowest}
use Rattle.shop_rows.specs.Topics.{topic_cmp, mention_cmp}
use Rattle.shop_rows.proofs.InPages.{pairs_ascend}
use Rattle.shop_rows.proofs.Rising.{entity_of_mono, live_id_mono, topic_mono, topic_of_mono}

behind_is_greater : (o : Ordering) → 2 ≤ ordering_index o → is_eq o ≡ false
behind_is_greater Less h = refl
behind_is_greater Equal h = absurd (omega arith)
behind_is_greater Greater h = refl

not_before : (o p : Ordering) → ordering_index o ≤ ordering_index p → is_lt o ≡ false → is_lt p ≡ false
not_before Less p h e = absurd (cc)
not_before Equal Less h e = absurd (omega arith)
not_before Equal Equal h e = refl
not_before Equal Greater h e = refl
not_before Greater Less h e = absurd (omega arith)
not_before Greater Equal h e = refl
not_before Greater Greater h e = refl

before_isnt : (o : Ordering) → is_lt o ≡ true → is_eq o ≡ false
before_isnt Less e = refl
before_isnt Equal e = absurd (cc)
before_isnt Greater e = refl

module _ {K X : Type 0} (cmp : K → K → Ordering) (place : K → Ordering) (low : K) (mono : (a b : K) → cmp a b ≡ Less → ordering_index (place a) ≤ ordering_index (place b)) (is_low : (a : K) → is_lt (cmp a low) ≡ is_lt (place a)) where
  abbrev at : K × X → Bool
  at pair = is_eq (place pair.0)

  none_behind : (x : K × X) (xs : List (K × X)) → place x.0 ≡ Greater → AllByRecursion (λ y. cmp x.0 (key_of y) ≡ Less) xs → filter at xs ≡ []
  none_behind x [] e all = refl
  none_behind x (y ∷ xs) e all =
      let high : 2 ≤ ordering_index (place y.0) = rw e at (mono x.0 y.0 all.0) in
      rw (behind_is_greater (place y.0) high) (none_behind x xs e all.1)

  front_at : (xs : List (K × X)) → Ascends cmp key_of xs → AllByRecursion (λ x. is_lt (place (key_of x)) ≡ false) xs → front at xs ≡ filter at xs
  front_at [] up all = refl
  front_at (x ∷ xs) up all = by (front_at xs up.1 all.1) (place x.0) refl
    where
      by : front at xs ≡ filter at xs → (o : Ordering) → place x.0 ≡ o → front at (x ∷ xs) ≡ filter at (x ∷ xs)
      by more Less e = absurd (let no : is_lt (place x.0) ≡ false = all.0 in let yes : is_lt (place x.0) ≡ true = ap is_lt e in cc)
      by more Equal e = rw e (ap (λ ys. x ∷ ys) more)
      by more Greater e = rw e (sym (none_behind x xs e up.0))

  all_behind : (x : K × X) (xs : List (K × X)) → is_lt (place x.0) ≡ false → AllByRecursion (λ y. cmp x.0 (key_of y) ≡ Less) xs → AllByRecursion (λ y. is_lt (place (key_of y)) ≡ false) xs
  all_behind x [] e all = tt
  all_behind x (y ∷ xs) e all = (not_before (place x.0) (place y.0) (mono x.0 y.0 all.0) e, all_behind x xs e all.1)

  pub front_from : (xs : List (K × X)) → Ascends cmp key_of xs → front at (from cmp xs low) ≡ filter at xs
  front_from [] up = refl
  front_from (x ∷ xs) up = by (front_from xs up.1) (is_lt (cmp x.0 low)) refl
    where
      by : front at (from cmp xs low) ≡ filter at xs → (b : Bool) → is_lt (cmp x.0 low) ≡ b → front at (from cmp (x ∷ xs) low) ≡ filter at (x ∷ xs)
      by more true e =
          let before : is_eq (place x.0) ≡ false = before_isnt (place x.0) (sym (is_low x.0) ∙ e) in
          rw (e, before) more
      by more false e =
          let here : is_lt (place x.0) ≡ false = sym (is_low x.0) ∙ e in
          ap (λ (b : Bool). front at (if b then from cmp xs low else x ∷ xs)) e
          ∙ front_at (x ∷ xs) up (here, all_behind x xs here up.0)

-- ---- lowest keys

not_below : (n : ℕ) → is_lt (nat_cmp n 0) ≡ false
not_below zero = ap is_lt (sym (nat_cmp_is 0 0 Equal refl))
not_below (suc n) = ap is_lt (sym (nat_cmp_is (suc n) 0 Greater (omega arith)))

then_low : (a b : Ordering) → is_lt b ≡ false → is_lt (ordering_then a b) ≡ is_lt a
then_low Less b e = refl
then_low Equal b e = e
then_low Greater b e = refl

then_not : (a b : Ordering) → is_lt a ≡ false → is_lt b ≡ false → is_lt (ordering_then a b) ≡ false
then_not Less b e f = absurd (cc)
then_not Equal b e f = f
then_not Greater b e f = refl

then_same : (a b c : Ordering) → is_lt b ≡ is_lt c → is_lt (ordering_then a b) ≡ is_lt (ordering_then a c)
then_same Less b c e = refl
then_same Equal b c e = e
then_same Greater b c e = refl

entity_not_below : (entity : Entity) → is_lt (nat_cmp (entity_number entity) 1) ≡ false
entity_not_below E.Language = refl
entity_not_below E.Tax = refl
entity_not_below E.Category = refl
entity_not_below E.CategoryTranslation = refl
entity_not_below E.Product = refl
entity_not_below E.ProductTranslation = refl
entity_not_below E.ProductCategory = refl
entity_not_below E.ProductPrice = refl
entity_not_below E.Stream = refl
entity_not_below E.StreamFilter = refl
entity_not_below E.Rule = refl
entity_not_below E.RuleCondition = refl
entity_not_below E.Promotion = refl
entity_not_below E.PromotionDiscount = refl
entity_not_below E.ShippingMethod = refl
entity_not_below E.ShippingPrice = refl
entity_not_below E.Stock = refl
entity_not_below E.Cart = refl
entity_not_below E.CartLine = refl
entity_not_below E.CartCode = refl
entity_not_below E.Order = refl
entity_not_below E.OrderLine = refl
entity_not_below E.OrderTax = refl
entity_not_below E.Draft = refl
entity_not_below E.DraftCommit = refl

pub topic_low : (topic : Topic) (a : Mention) → is_lt (mention_cmp a (lowest topic E.Language)) ≡ is_lt (from_topic topic a)
topic_low topic a =
    then_low (topic_cmp a.topic topic) _
    (then_not (nat_cmp (entity_number a.key.entity) 1) _ (entity_not_below a.key.entity)
    (then_not (nat_cmp a.key.version 0) _ (not_below a.key.version) (then_not (nat_cmp a.key.id 0) _ (not_below a.key.id) (not_below a.key.second))))

pub topic_of_low : (topic : Topic) (entity : Entity) (a : Mention) → is_lt (mention_cmp a (lowest topic entity)) ≡ is_lt (from_topic_of topic entity a)
topic_of_low topic entity a =
    then_same (topic_cmp a.topic topic) _ _
    (then_low (nat_cmp (entity_number a.key.entity) (entity_number entity)) _
    (then_not (nat_cmp a.key.version 0) _ (not_below a.key.version) (then_not (nat_cmp a.key.id 0) _ (not_below a.key.id) (not_below a.key.second))))

pub entity_of_low : (entity : Entity) (version : ℕ) (a : Key) → is_lt (key_cmp a (record { entity = entity; version = version; id = 0; second = 0 })) ≡ is_lt (from_entity_of entity version a)
entity_of_low entity version a =
    then_same (nat_cmp (entity_number a.entity) (entity_number entity)) _ _
    (then_low (nat_cmp a.version version) _ (then_not (nat_cmp a.id 0) _ (not_below a.id) (not_below a.second)))

pub live_id_low : (entity : Entity) (id : ℕ) (a : Key) → is_lt (key_cmp a (record { entity = entity; version = 0; id = id; second = 0 })) ≡ is_lt (from_live_id entity id a)
live_id_low entity id a =
    then_same (nat_cmp (entity_number a.entity) (entity_number entity)) _ _
    (then_same (nat_cmp a.version 0) _ _ (then_low (nat_cmp a.id id) _ (not_below a.second)))

-- ---- of pairs, and of what they hold

pub keys_passing : {K X : Type 0} (test : K → Bool) (pairs : List (K × X)) → map key_of (filter (λ pair. test pair.0) pairs) ≡ filter test (map key_of pairs)
keys_passing test [] = refl
keys_passing test (pair ∷ pairs) = by (keys_passing test pairs) (test pair.0) refl
  where
    by : map key_of (filter (λ p. test p.0) pairs) ≡ filter test (map key_of pairs) → (b : Bool) → test pair.0 ≡ b → map key_of (filter (λ p. test p.0) (pair ∷ pairs)) ≡ filter test (map key_of (pair ∷ pairs))
    by more true e = rw e (ap (λ ys. pair.0 ∷ ys) more)
    by more false e = rw e more

pub rows_passing : (test : Key → Bool) (pairs : List (Key × Row)) → AllByRecursion IsUnderItsKey pairs → map value_of (filter (λ pair. test pair.0) pairs) ≡ filter (λ row. test row.key) (map value_of pairs)
rows_passing test [] stand = refl
rows_passing test (pair ∷ pairs) stand = by (rows_passing test pairs stand.1) (test pair.0) refl
  where
    by : map value_of (filter (λ p. test p.0) pairs) ≡ filter (λ row. test row.key) (map value_of pairs) → (b : Bool) → test pair.0 ≡ b → map value_of (filter (λ p. test p.0) (pair ∷ pairs)) ≡ filter (λ row. test row.key) (map value_of (pair ∷ pairs))
    by more true e = let own : test pair.1.key ≡ true = ap test stand.0 ∙ e in rw (e, own) (ap (λ ys. pair.1 ∷ ys) more)
    by more false e = let own : test pair.1.key ≡ false = ap test stand.0 ∙ e in rw (e, own) more

keys_up : {X : Type 0} (pairs : List (Mention × X)) → Ascends mention_cmp itself (map key_of pairs) → Ascends mention_cmp key_of pairs
keys_up [] up = tt
keys_up (pair ∷ pairs) up = (above pair.0 pairs up.0, keys_up pairs up.1)
  where
    above : {X : Type 0} (low : Mention) (pairs : List (Mention × X)) → AllByRecursion (λ m. mention_cmp low (itself m) ≡ Less) (map key_of pairs) → AllByRecursion (λ p. mention_cmp low (key_of p) ≡ Less) pairs
    above low [] all = tt
    above low (p ∷ ps) all = (all.0, above low ps all.1)

pub topic_front : {X : Type 0} (pairs : List (Mention × X)) (topic : Topic) → Ascends mention_cmp itself (map key_of pairs)
    → map key_of (front (λ pair. is_eq (from_topic topic pair.0)) (from mention_cmp pairs (lowest topic E.Language))) ≡ filter (λ mention. is_eq (from_topic topic mention)) (map key_of pairs)
topic_front pairs topic up =
    ap (map key_of) (front_from mention_cmp (from_topic topic) (lowest topic E.Language) (topic_mono topic) (topic_low topic) pairs (keys_up pairs up)) ∙ keys_passing (λ mention. is_eq (from_topic topic mention)) pairs

pub topic_of_front : {X : Type 0} (pairs : List (Mention × X)) (topic : Topic) (entity : Entity) → Ascends mention_cmp itself (map key_of pairs)
    → map key_of (front (λ pair. is_eq (from_topic_of topic entity pair.0)) (from mention_cmp pairs (lowest topic entity))) ≡ filter (λ mention. is_eq (from_topic_of topic entity mention)) (map key_of pairs)
topic_of_front pairs topic entity up =
    ap (map key_of) (front_from mention_cmp (from_topic_of topic entity) (lowest topic entity) (topic_of_mono topic entity) (topic_of_low topic entity) pairs (keys_up pairs up)) ∙ keys_passing (λ mention. is_eq (from_topic_of topic entity mention)) pairs

pub entity_of_front : (pairs : List (Key × Row)) (entity : Entity) (version : ℕ) → AllByRecursion IsUnderItsKey pairs → IsInKeyOrder (map value_of pairs)
    → map value_of (front (λ pair. is_eq (from_entity_of entity version pair.0)) (from key_cmp pairs (record { entity = entity; version = version; id = 0; second = 0 }))) ≡ filter (λ row. is_eq (from_entity_of entity version row.key)) (map value_of pairs)
entity_of_front pairs entity version stand up =
    ap (map value_of) (front_from key_cmp (from_entity_of entity version) (record { entity = entity; version = version; id = 0; second = 0 }) (entity_of_mono entity version) (entity_of_low entity version) pairs (pairs_ascend pairs stand up))
    ∙ rows_passing (λ key. is_eq (from_entity_of entity version key)) pairs stand

pub live_id_front : (pairs : List (Key × Row)) (entity : Entity) (id : ℕ) → AllByRecursion IsUnderItsKey pairs → IsInKeyOrder (map value_of pairs)
    → map value_of (front (λ pair. is_eq (from_live_id entity id pair.0)) (from key_cmp pairs (record { entity = entity; version = 0; id = id; second = 0 }))) ≡ filter (λ row. is_eq (from_live_id entity id row.key)) (map value_of pairs)
live_id_front pairs entity id stand up =
    ap (map value_of) (front_from key_cmp (from_live_id entity id) (record { entity = entity; version = 0; id = id; second = 0 }) (live_id_mono entity id) (live_id_low entity id) pairs (pairs_ascend pairs stand up))
    ∙ rows_passing (λ key. is_eq (from_live_id entity id key)) pairs stand
