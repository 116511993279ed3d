-- Mentions in pages, as some go and others come.
use Rattle.std.proofs.Common.{◌≡◌, Bool, true, false, not, ◌&&◌, ◌||◌, List, [], ◌∷◌, map, Option, Some, None, is_some, if◌then◌else◌, refl, sym, ap, subst, ◌∙◌}
use Rattle.std.specs.declared.cmp.Ordering.{Ordering}
use Rattle.std.specs.declared.cmp.Ordering.TheVariants.{Less, Equal, Greater}
use Rattle.std.specs.Ordering.{is_eq}
use Rattle.std.specs.List.{AllByRecursion, fold, flat_map}
use Rattle.std.proofs.lemmas.List.Folds.{list_any-append}
use Rattle.keyed.specs.Keyed.{Ascends, find, put, without}
use Rattle.keyed.proofs.Changes.{ascends_put, ascends_without, find_put, find_without}
use Rattle.paged.specs.Pairs.{key_of}
use Rattle.paged.specs.Changed.{changed, changed_at}
use Rattle.shop_defs.specs.declared.key.Key.{Key}
use Rattle.shop_defs.specs.declared.row.Row.{Row}
use Rattle.shop_defs.specs.Keys.{key_cmp}
use Rattle.shop_defs.specs.Rows.{row_at, change_rows}
use Rattle.shop_defs.specs.Joined.{Change, change_key, change_at}
use Rattle.shop_defs.proofs.Keys.{key_cmp_total}
use Rattle.shop_rows.specs.Changing.{row_after, StandsUnderItsKey, StandUnderTheirKeys, HasAscendingKeys}
use Rattle.shop_rows.specs.declared.topic.Topic.{Topic}
use Rattle.shop_rows.specs.declared.topic.Mention.{Mention}
use Rattle.shop_rows.specs.Topics.{has_topic, mention_cmp}
use Rattle.shop_rows.specs.Mentions.{itself, has, among, is_found, AreMentioned, are_alike, found_mentions, gone_at, come_at}
use Rattle.shop_rows.proofs.Alike.{topics_alike}
use Rattle.shop_rows.proofs.BuiltMentions.{among-row}
use Rattle.shop_rows.proofs.ChangedRows.{in_order-change_rows, row_at-change_rows, last_in-ascending}
use Rattle.shop_rows.proofs.Mentioning.{found_key}
use Rattle.shop_rows.proofs.Same.{mention_cmp_total, key_is}

-- ---- pairs of mentions

module _ {V C : Type 0} (read : C → Option V) where
  put_keys : (pairs : List (Mention × V)) (mention : Mention) (v : V) → map key_of (put mention_cmp key_of pairs (mention, v)) ≡ put mention_cmp itself (map key_of pairs) mention
  put_keys [] mention v = refl
  put_keys (pair ∷ pairs) mention v = by (put_keys pairs mention v) (mention_cmp pair.0 mention) refl
    where
      by : map key_of (put mention_cmp key_of pairs (mention, v)) ≡ put mention_cmp itself (map key_of pairs) mention → (o : Ordering) → mention_cmp pair.0 mention ≡ o
          → map key_of (put mention_cmp key_of (pair ∷ pairs) (mention, v)) ≡ put mention_cmp itself (map key_of (pair ∷ pairs)) mention
      by more Less e = rw e (ap (λ ms. pair.0 ∷ ms) more)
      by more Equal e = rw e refl
      by more Greater e = rw e refl

  without_keys : (pairs : List (Mention × V)) (mention : Mention) → map key_of (without mention_cmp key_of pairs mention) ≡ without mention_cmp itself (map key_of pairs) mention
  without_keys [] mention = refl
  without_keys (pair ∷ pairs) mention = by (without_keys pairs mention) (mention_cmp pair.0 mention) refl
    where
      by : map key_of (without mention_cmp key_of pairs mention) ≡ without mention_cmp itself (map key_of pairs) mention → (o : Ordering) → mention_cmp pair.0 mention ≡ o
          → map key_of (without mention_cmp key_of (pair ∷ pairs) mention) ≡ without mention_cmp itself (map key_of (pair ∷ pairs)) mention
      by more Less e = rw e (ap (λ ms. pair.0 ∷ ms) more)
      by more Equal e = rw e refl
      by more Greater e = rw e (ap (λ ms. pair.0 ∷ ms) more)

  pub gone_left : (c : C) → read c ≡ None → (gone : List Mention) (pairs : List (Mention × V)) → map key_of (changed mention_cmp read pairs (map (λ mention. (mention, c)) gone)) ≡ fold (without mention_cmp itself) (map key_of pairs) gone
  gone_left c none [] pairs = refl
  gone_left c none (mention ∷ gone) pairs =
      ap (λ o. map key_of (changed mention_cmp read (changed_at mention_cmp pairs mention o) (map (λ m. (m, c)) gone))) none
      ∙ (gone_left c none gone (without mention_cmp key_of pairs mention)
      ∙ ap (λ (ms : List Mention). fold (without mention_cmp itself) ms gone) (without_keys pairs mention))

  pub come_left : (c : C) (v : V) → read c ≡ Some v → (come : List Mention) (pairs : List (Mention × V)) → map key_of (changed mention_cmp read pairs (map (λ mention. (mention, c)) come)) ≡ fold (put mention_cmp itself) (map key_of pairs) come
  come_left c v some [] pairs = refl
  come_left c v some (mention ∷ come) pairs =
      ap (λ o. map key_of (changed mention_cmp read (changed_at mention_cmp pairs mention o) (map (λ m. (m, c)) come))) some
      ∙ (come_left c v some come (put mention_cmp key_of pairs (mention, v))
      ∙ ap (λ (ms : List Mention). fold (put mention_cmp itself) ms come) (put_keys pairs mention v))

with_above : {C : Type 0} (c : C) (low : Mention) (mentions : List Mention) → AllByRecursion (λ mention. mention_cmp low mention ≡ Less) mentions → AllByRecursion (λ change. mention_cmp low (key_of change) ≡ Less) (map (λ mention. (mention, c)) mentions)
with_above c low [] all = tt
with_above c low (mention ∷ mentions) all = (all.0, with_above c low mentions all.1)

pub with_ascends : {C : Type 0} (c : C) (mentions : List Mention) → Ascends mention_cmp itself mentions → Ascends mention_cmp key_of (map (λ mention. (mention, c)) mentions)
with_ascends c [] up = tt
with_ascends c (mention ∷ mentions) up = (with_above c mention mentions up.0, with_ascends c mentions up.1)

-- ---- what is left of them

or_later : (a b c : Bool) → (b || (a || c)) ≡ ((a || b) || c)
or_later true true c = refl
or_later true false c = refl
or_later false true c = refl
or_later false false c = refl

nor_later : (a b c : Bool) → (not b && (not a && c)) ≡ (not (a || b) && c)
nor_later true true c = refl
nor_later true false c = refl
nor_later false true c = refl
nor_later false false c = refl

some_or : {X : Type 0} (b : Bool) (x : X) (found : Option X) → is_some (if b then Some x else found) ≡ (b || is_some found)
some_or true x found = refl
some_or false x found = refl

none_or : {X : Type 0} (b : Bool) (found : Option X) → is_some (if b then None else found) ≡ (not b && is_some found)
none_or true found = refl
none_or false found = refl

pub sorted-gone : (gone mentions : List Mention) → Ascends mention_cmp itself mentions → Ascends mention_cmp itself (fold (without mention_cmp itself) mentions gone)
sorted-gone [] mentions up = up
sorted-gone (m ∷ gone) mentions up = sorted-gone gone (without mention_cmp itself mentions m) (ascends_without mention_cmp itself mention_cmp_total mentions m up)

pub sorted-come : (come mentions : List Mention) → Ascends mention_cmp itself mentions → Ascends mention_cmp itself (fold (put mention_cmp itself) mentions come)
sorted-come [] mentions up = up
sorted-come (m ∷ come) mentions up = sorted-come come (put mention_cmp itself mentions m) (ascends_put mention_cmp itself mention_cmp_total mentions m up)

pub has-gone : (gone mentions : List Mention) (mention : Mention) → Ascends mention_cmp itself mentions → has (fold (without mention_cmp itself) mentions gone) mention ≡ (not (among gone mention) && has mentions mention)
has-gone [] mentions mention up = refl
has-gone (m ∷ gone) mentions mention up =
    has-gone gone (without mention_cmp itself mentions m) mention (ascends_without mention_cmp itself mention_cmp_total mentions m up)
    ∙ (ap (λ (b : Bool). not (among gone mention) && b) (ap is_some (find_without mention_cmp itself mention_cmp_total mentions m mention up) ∙ none_or (is_eq (mention_cmp m mention)) (find mention_cmp itself mentions mention))
    ∙ nor_later (is_eq (mention_cmp m mention)) (among gone mention) (has mentions mention))

pub has-come : (come mentions : List Mention) (mention : Mention) → has (fold (put mention_cmp itself) mentions come) mention ≡ (among come mention || has mentions mention)
has-come [] mentions mention = refl
has-come (m ∷ come) mentions mention =
    has-come come (put mention_cmp itself mentions m) mention
    ∙ (ap (λ (b : Bool). among come mention || b) (ap is_some (find_put mention_cmp itself mention_cmp_total mentions m mention) ∙ some_or (is_eq (mention_cmp m mention)) m (find mention_cmp itself mentions mention))
    ∙ or_later (is_eq (mention_cmp m mention)) (among come mention) (has mentions mention))

-- what is left where sorted mentions go, and where they come
pub record AreLeft (next mentions : List Mention) (says : Mention → Bool → Bool) : Type 0 where
  pub sorted : Ascends mention_cmp itself next
  pub fit : (mention : Mention) → has next mention ≡ says mention (has mentions mention)

pub gone_are : {V C : Type 0} (read : C → Option V) {c : C} (gone once listed : List Mention) (pairs next : List (Mention × V)) (items changes : List (Mention × C))
    → items ≡ map (λ mention. (mention, c)) listed → read c ≡ None → listed ≡ once → changes ≡ items → next ≡ changed mention_cmp read pairs changes → ((mention : Mention) → among once mention ≡ among gone mention) → Ascends mention_cmp itself (map key_of pairs)
    → AreLeft (map key_of next) (map key_of pairs) (λ mention b. not (among gone mention) && b)
gone_are read {c} gone once listed pairs next items changes each none list whole f same up =
    let e : changes ≡ map (λ mention. (mention, c)) once = whole ∙ (each ∙ ap (map (λ mention. (mention, c))) list) in
    let left : map key_of next ≡ fold (without mention_cmp itself) (map key_of pairs) once = ap (map key_of) f ∙ (ap (λ cs. map key_of (changed mention_cmp read pairs cs)) e ∙ gone_left read c none once pairs) in
    record {
      sorted = subst (Ascends mention_cmp itself) (sym left) (sorted-gone once (map key_of pairs) up);
      fit = λ mention. ap (λ ms. has ms mention) left ∙ (has-gone once (map key_of pairs) mention up ∙ ap (λ (b : Bool). not b && has (map key_of pairs) mention) (same mention));
    }

pub come_are : {V C : Type 0} (read : C → Option V) {c : C} {v : V} (come once listed : List Mention) (pairs next : List (Mention × V)) (items changes : List (Mention × C))
    → items ≡ map (λ mention. (mention, c)) listed → read c ≡ Some v → listed ≡ once → changes ≡ items → next ≡ changed mention_cmp read pairs changes → ((mention : Mention) → among once mention ≡ among come mention) → Ascends mention_cmp itself (map key_of pairs)
    → AreLeft (map key_of next) (map key_of pairs) (λ mention b. among come mention || b)
come_are read {c} {v} come once listed pairs next items changes each some list whole f same up =
    let e : changes ≡ map (λ mention. (mention, c)) once = whole ∙ (each ∙ ap (map (λ mention. (mention, c))) list) in
    let left : map key_of next ≡ fold (put mention_cmp itself) (map key_of pairs) once = ap (map key_of) f ∙ (ap (λ cs. map key_of (changed mention_cmp read pairs cs)) e ∙ come_left read c v some once pairs) in
    record {
      sorted = subst (Ascends mention_cmp itself) (sym left) (sorted-come once (map key_of pairs) up);
      fit = λ mention. ap (λ ms. has ms mention) left ∙ (has-come once (map key_of pairs) mention ∙ ap (λ (b : Bool). b || has (map key_of pairs) mention) (same mention));
    }

-- ---- the mentions that changes move

none_at : (low key : Key) (changes : List Change) → AllByRecursion (λ change. key_cmp low (change_key change) ≡ Less) changes → low ≡ key → change_at changes key ≡ None
none_at low key [] above same = refl
none_at low key (change ∷ changes) above same =
    let greater : key_cmp change.0 key ≡ Greater = flip (ap (λ k. key_cmp k change.0) (sym same) ∙ above.0) in
    rw greater (none_at low key changes above.1 same)
  where
    flip : key_cmp key change.0 ≡ Less → key_cmp change.0 key ≡ Greater
    flip e = key_cmp_total.antisymm change.0 key ∙ ap turned e
      where
        turned : Ordering → Ordering
        turned Less = Greater
        turned Equal = Equal
        turned Greater = Less

-- what a change says of a topic, if there is one
abbrev says : (Change → Topic → Bool) → Option Change → Topic → Bool
says g None topic = false
says g (Some change) topic = g change topic

or_false : (b : Bool) → (b || false) ≡ b
or_false true = refl
or_false false = refl

among_changes : (f : Change → List Mention) (g : Change → Topic → Bool) → ((change : Change) (mention : Mention) → StandsUnderItsKey change → among (f change) mention ≡ (is_eq (key_cmp change.0 mention.key) && g change mention.topic))
    → (changes : List Change) (mention : Mention) → HasAscendingKeys changes → StandUnderTheirKeys changes → among (flat_map f changes) mention ≡ says g (change_at changes mention.key) mention.topic
among_changes f g each [] mention up own = refl
among_changes f g each (change ∷ changes) mention up own =
    list_any-append (λ other. is_eq (mention_cmp other mention)) (f change) (flat_map f changes)
    ∙ ((λ i. each change mention own.0 i || among_changes f g each changes mention up.1 own.1 i)
    ∙ by (key_cmp change.0 mention.key) refl)
  where
    by : (o : Ordering) → key_cmp change.0 mention.key ≡ o → ((is_eq (key_cmp change.0 mention.key) && g change mention.topic) || says g (change_at changes mention.key) mention.topic) ≡ says g (change_at (change ∷ changes) mention.key) mention.topic
    by Less e = rw e refl
    by Equal e = rw (e, none_at change.0 mention.key changes up.0 (key_is change.0 mention.key e)) (or_false (g change mention.topic))
    by Greater e = rw e refl

and_false : (b : Bool) → false ≡ (b && false)
and_false true = refl
and_false false = refl

among_found : (b : Bool) (found : Option Row) (key : Key) (mention : Mention) → ((row : Row) → found ≡ Some row → row.key ≡ key)
    → among (if b then [] else found_mentions found) mention ≡ (is_eq (key_cmp key mention.key) && (not b && is_found found mention.topic))
among_found true found key mention own = and_false (is_eq (key_cmp key mention.key))
among_found false None key mention own = and_false (is_eq (key_cmp key mention.key))
among_found false (Some row) key mention own = among-row row mention ∙ ap (λ k. is_eq (key_cmp k mention.key) && has_topic row mention.topic) (own row refl)

module _ (rows : List Row) where
  abbrev comes : Change → Topic → Bool
  comes change topic = not (are_alike (row_at rows change.0) change.1) && is_found change.1 topic

  abbrev goes : Change → Topic → Bool
  goes change topic = not (are_alike (row_at rows change.0) change.1) && is_found (row_at rows change.0) topic

  own_row : (change : Change) → StandsUnderItsKey change → (row : Row) → change.1 ≡ Some row → row.key ≡ change.0
  own_row (key, None) own row e = absurd (cc)
  own_row (key, Some other) own row e = let same : other ≡ row = cc in ap (λ r. r.key) (sym same) ∙ own

  among_come : (change : Change) (mention : Mention) → StandsUnderItsKey change → among (come_at rows change) mention ≡ (is_eq (key_cmp change.0 mention.key) && comes change mention.topic)
  among_come change mention own = among_found (are_alike (row_at rows change.0) change.1) change.1 change.0 mention (own_row change own)

  among_gone : (change : Change) (mention : Mention) → StandsUnderItsKey change → among (gone_at rows change) mention ≡ (is_eq (key_cmp change.0 mention.key) && goes change mention.topic)
  among_gone change mention own = among_found (are_alike (row_at rows change.0) change.1) (row_at rows change.0) change.0 mention (λ row e. found_key rows change.0 row e)

  -- the change that is found has the key, and its row stands under it
  found_change : (changes : List Change) (key : Key) (change : Change) → StandUnderTheirKeys changes → change_at changes key ≡ Some change → (change.0 ≡ key) × StandsUnderItsKey change
  found_change [] key change own e = absurd (cc)
  found_change (x ∷ changes) key change own e = by (found_change changes key change own.1) (key_cmp x.0 key) refl
    where
      is : Some x ≡ Some change → x ≡ change
      is e = cc

      by : (change_at changes key ≡ Some change → (change.0 ≡ key) × StandsUnderItsKey change) → (o : Ordering) → key_cmp x.0 key ≡ o → (change.0 ≡ key) × StandsUnderItsKey change
      by more Less f = more (sym (rw f refl) ∙ e)
      by more Equal f = let same : x ≡ change = is (sym (rw f refl) ∙ e) in (ap (λ c. change_key c) (sym same) ∙ key_is x.0 key f, subst StandsUnderItsKey same own.0)
      by more Greater f = more (sym (rw f refl) ∙ e)

  alike_found : (key : Key) (old new : Option Row) (topic : Topic) → ((row : Row) → old ≡ Some row → row.key ≡ key) → ((row : Row) → new ≡ Some row → row.key ≡ key) → are_alike old new ≡ true → is_found old topic ≡ is_found new topic
  alike_found key None None topic one two e = refl
  alike_found key None (Some new) topic one two e = absurd (cc)
  alike_found key (Some old) None topic one two e = absurd (cc)
  alike_found key (Some old) (Some new) topic one two e = topics_alike old new (one old refl ∙ sym (two new refl)) e topic

  not_itself : (a b : Bool) → (a || (not b && b)) ≡ a
  not_itself true b = refl
  not_itself false true = refl
  not_itself false false = refl

  -- the mentions without those that go and with those that come are those of the rows after the changes
  pub moved_are : (mentions next : List Mention) (changes : List Change) → AreMentioned rows mentions → HasAscendingKeys changes → StandUnderTheirKeys changes → Ascends mention_cmp itself next
      → ((mention : Mention) → has next mention ≡ (among (flat_map (come_at rows) changes) mention || (not (among (flat_map (gone_at rows) changes) mention) && has mentions mention)))
      → AreMentioned (change_rows rows changes) next
  moved_are mentions next changes are up own sorted fit = record {
    order = in_order-change_rows changes rows are.order;
    sorted = sorted;
    fit = λ mention. fit mention
        ∙ ((λ i. among_changes (come_at rows) comes among_come changes mention up own i || (not (among_changes (gone_at rows) goes among_gone changes mention up own i) && are.fit mention i))
        ∙ (by mention (change_at changes mention.key) refl
        ∙ sym (ap (λ found. is_found found mention.topic)
        (row_at-change_rows changes rows are.order own mention.key ∙ ap (λ found. row_after found (row_at rows mention.key)) (last_in-ascending changes mention.key up)))));
  }
    where
      at : (mention : Mention) (change : Change) → change.0 ≡ mention.key → StandsUnderItsKey change → (b : Bool) → are_alike (row_at rows change.0) change.1 ≡ b
          → ((not b && is_found change.1 mention.topic) || (not (not b && is_found (row_at rows change.0) mention.topic) && is_found (row_at rows mention.key) mention.topic)) ≡ is_found change.1 mention.topic
      at mention change key stands true alike =
          ap (λ k. is_found (row_at rows k) mention.topic) (sym key)
          ∙ alike_found change.0 (row_at rows change.0) change.1 mention.topic (λ row e. found_key rows change.0 row e) (own_row change stands) alike
      at mention change key stands false alike =
          ap (λ k. is_found change.1 mention.topic || (not (is_found (row_at rows k) mention.topic) && is_found (row_at rows mention.key) mention.topic)) key
          ∙ not_itself (is_found change.1 mention.topic) (is_found (row_at rows mention.key) mention.topic)

      by : (mention : Mention) (found : Option Change) → change_at changes mention.key ≡ found
          → (says comes found mention.topic || (not (says goes found mention.topic) && is_found (row_at rows mention.key) mention.topic)) ≡ is_found (row_after found (row_at rows mention.key)) mention.topic
      by mention None e = refl
      by mention (Some change) e =
          let is = found_change changes mention.key change own e in
          at mention change is.0 is.1 (are_alike (row_at rows change.0) change.1) refl
