-- What searches find is what look-ups are to answer.
use Rattle.std.proofs.Common.{◌≡◌, ℕ, Bool, true, false, ◌==◌, ◌&&◌, ◌≤◌, List, [], ◌∷◌, Option, Some, None, map, filter, find, count_by, length, drop, is_some, if◌then◌else◌, refl, sym, ap, ◌∙◌, arith}
use Rattle.std.specs.declared.cmp.Ordering.{Ordering}
use Rattle.std.specs.declared.cmp.Ordering.TheVariants.{Less, Equal, Greater}
use Rattle.std.specs.Ordering.{is_eq, is_gt, is_lt, nat_cmp, ordering_then, ordering_reverse}
use Rattle.std.specs.Option.{option_map}
use Rattle.std.specs.List.{AllByRecursion}
use Rattle.paged.specs.Pairs.{key_of, value_of, first_above as first_pair_above}
use Rattle.paged.specs.Walk.{from}
use Rattle.std.proofs.lemmas.List.{length-map}
use Rattle.std.proofs.lemmas.List.Sums.{length-filter}
use borrow.Author.Tests.{eqb-true, eq-eqb}
use Rattle.shop_defs.specs.declared.entity.Entity.{Entity}
use Rattle.shop_defs.specs.declared.key.Key.{Key}
use Rattle.shop_defs.specs.declared.row.Row.{Row}
use Rattle.shop_defs.specs.declared.table.OwnerLimit.{OwnerLimit}
use Rattle.shop_defs.specs.declared.table.Part.{Part}
use Rattle.shop_defs.specs.declared.table.Part.TheVariants as P
use Rattle.shop_defs.specs.declared.table.Reference.{Reference}
use Rattle.shop_defs.specs.declared.table.TheConstants.{REFERENCES}
use Rattle.shop_defs.specs.Entities.{entity_number}
use Rattle.shop_defs.specs.Keys.{key_cmp}
use Rattle.shop_defs.specs.Rows.{row_key, row_at, IsInKeyOrder}
use Rattle.shop_defs.proofs.Keys.{key_cmp_total}
use Rattle.shop_operations.specs.Parents.{parent_id, children}
use Rattle.shop_operations.specs.References.{is_entity, is_id, part_of, is_live, live, of_version, refers_at, referrers}
use Rattle.shop_operations.specs.Upserts.{is_twin}
use Rattle.shop_rows.specs.declared.topic.Topic.{Topic}
use Rattle.shop_rows.specs.declared.topic.Topic.TheVariants as T
use Rattle.shop_rows.specs.declared.topic.Mention.{Mention}
use Rattle.shop_rows.specs.Lookups.{child_keys, count_children, keys_of, first_above, referrers_by, first_twin_in, twins_in}
use Rattle.shop_rows.specs.Mentions.{AreMentioned, rows_of}
use Rattle.shop_rows.specs.Owners.{belongs, count_owned}
use Rattle.shop_rows.specs.Paging.{IsUnderItsKey}
use Rattle.shop_rows.specs.Prints.{print_in}
use Rattle.shop_rows.specs.Searches.{from_key, from_entity_of, from_live_id, from_topic, from_topic_of, is_from, passes, is_version_twin, is_live_of}
use Rattle.shop_rows.specs.Topics.{has_topic}
use Rattle.shop_rows.proofs.Fronts.{keys_passing as pairs_passing}
use Rattle.shop_rows.proofs.FoundByTopic.{keys_found, keys_of_found, rows_found, rows_of_found}
use Rattle.shop_rows.proofs.Lists.{filter-filter, find-filter, count_by-filter}
use Rattle.shop_rows.proofs.Mentioning.{found_key}
use Rattle.shop_rows.proofs.Referring.{child_is, owned_refers}
use Rattle.shop_rows.proofs.Same.{is_eq-then, is_eq-nat_cmp}
use Rattle.shop_rows.proofs.Twins.{twins_share}

-- ---- tests

same_bool : (a b : Bool) → (a ≡ true → b ≡ true) → (b ≡ true → a ≡ true) → a ≡ b
same_bool true b there back = sym (there refl)
same_bool false true there back = back refl
same_bool false false there back = refl

flip_eq : (a b : ℕ) → (a == b) ≡ (b == a)
flip_eq a b = same_bool (a == b) (b == a) (λ e. eq-eqb _ _ (sym (eqb-true _ _ e))) (λ e. eq-eqb _ _ (sym (eqb-true _ _ e)))

-- a test that implies another is not changed by it
implied : (p q : Bool) → (p ≡ true → q ≡ true) → (q && p) ≡ p
implied true q e = ap (λ (b : Bool). b && true) (e refl)
implied false true e = refl
implied false false e = refl

map-map : {A B C : Type 0} (f : A → B) (g : B → C) (xs : List A) → map (λ x. g (f x)) xs ≡ map g (map f xs)
map-map f g [] = refl
map-map f g (x ∷ xs) = ap (λ ys. g (f x) ∷ ys) (map-map f g xs)

-- ---- the next rows

gt_reversed : (o : Ordering) → is_gt o ≡ is_lt (ordering_reverse o)
gt_reversed Less = refl
gt_reversed Equal = refl
gt_reversed Greater = refl

-- the first of the rows behind a key
pub next_found : (pairs : List (Key × Row)) (key : Key) → AllByRecursion IsUnderItsKey pairs → option_map value_of (first_pair_above key_cmp pairs key) ≡ first_above (map value_of pairs) key
next_found [] key stand = refl
next_found (pair ∷ pairs) key stand = by (next_found pairs key stand.1) (is_gt (key_cmp pair.0 key)) refl
  where
    seen : is_gt (key_cmp pair.0 key) ≡ is_lt (key_cmp key pair.1.key)
    seen = gt_reversed (key_cmp pair.0 key) ∙ (ap is_lt (sym (key_cmp_total.antisymm key pair.0)) ∙ ap (λ k. is_lt (key_cmp key k)) (sym stand.0))

    by : option_map value_of (first_pair_above key_cmp pairs key) ≡ first_above (map value_of pairs) key → (b : Bool) → is_gt (key_cmp pair.0 key) ≡ b
        → option_map value_of (first_pair_above key_cmp (pair ∷ pairs) key) ≡ first_above (map value_of (pair ∷ pairs)) key
    by more true e = rw (e, sym seen ∙ e) refl
    by more false e = rw (e, sym seen ∙ e) more

all_greater : (low key : Key) (rows : List Row) → key_cmp low key ≡ Greater → AllByRecursion (λ row. key_cmp low (row_key row) ≡ Less) rows → AllByRecursion (λ row. key_cmp row.key key ≡ Greater) rows
all_greater low key [] above all = tt
all_greater low key (row ∷ rows) above all =
    let below : key_cmp key low ≡ Less = key_cmp_total.antisymm key low ∙ ap ordering_reverse above in
    (key_cmp_total.antisymm row.key key ∙ ap ordering_reverse (key_cmp_total.trans key low row.key below all.0), all_greater low key rows above all.1)

equal_greater : (low key : Key) (rows : List Row) → key_cmp low key ≡ Equal → AllByRecursion (λ row. key_cmp low (row_key row) ≡ Less) rows → AllByRecursion (λ row. key_cmp row.key key ≡ Greater) rows
equal_greater low key [] same all = tt
equal_greater low key (row ∷ rows) same all =
    (key_cmp_total.antisymm row.key key ∙ ap ordering_reverse (sym (key_cmp_total.congr low key row.key same) ∙ all.0), equal_greater low key rows same all.1)

kept_greater : (key : Key) (rows : List Row) → AllByRecursion (λ row. key_cmp row.key key ≡ Greater) rows → filter (λ row. is_gt (from_key key row)) rows ≡ rows
kept_greater key [] all = refl
kept_greater key (row ∷ rows) all = rw all.0 (ap (λ rest. row ∷ rest) (kept_greater key rows all.1))

none_greater : (key : Key) (rows : List Row) → AllByRecursion (λ row. key_cmp row.key key ≡ Greater) rows → row_at rows key ≡ None
none_greater key [] all = refl
none_greater key (row ∷ rows) all = rw all.0 (none_greater key rows all.1)

-- what stands from a key on, without the row at the key
pub behind_found : (pairs : List (Key × Row)) (key : Key) → AllByRecursion IsUnderItsKey pairs → IsInKeyOrder (map value_of pairs)
    → (if is_some (row_at (map value_of pairs) key) then drop 1 (map value_of (from key_cmp pairs key)) else map value_of (from key_cmp pairs key)) ≡ filter (λ row. is_gt (from_key key row)) (map value_of pairs)
behind_found [] key stand up = refl
behind_found (pair ∷ pairs) key stand up = by (behind_found pairs key stand.1 up.1) (key_cmp pair.0 key) refl
  where
    own : (o : Ordering) → key_cmp pair.0 key ≡ o → key_cmp pair.1.key key ≡ o
    own o e = ap (λ k. key_cmp k key) stand.0 ∙ e

    by : (if is_some (row_at (map value_of pairs) key) then drop 1 (map value_of (from key_cmp pairs key)) else map value_of (from key_cmp pairs key)) ≡ filter (λ row. is_gt (from_key key row)) (map value_of pairs)
        → (o : Ordering) → key_cmp pair.0 key ≡ o
        → (if is_some (row_at (map value_of (pair ∷ pairs)) key) then drop 1 (map value_of (from key_cmp (pair ∷ pairs) key)) else map value_of (from key_cmp (pair ∷ pairs) key)) ≡ filter (λ row. is_gt (from_key key row)) (map value_of (pair ∷ pairs))
    by more Less e = rw (e, own Less e) more
    by more Equal e = rw (e, own Equal e) (sym (kept_greater key (map value_of pairs) (equal_greater pair.1.key key (map value_of pairs) (own Equal e) up.0)))
    by more Greater e =
        let rest = all_greater pair.1.key key (map value_of pairs) (own Greater e) up.0 in
        rw (e, own Greater e, none_greater key (map value_of pairs) rest) (ap (λ rows. pair.1 ∷ rows) (sym (kept_greater key (map value_of pairs) rest)))

pub behind_some : (pairs : List (Key × Row)) (key : Key) (row : Row) → AllByRecursion IsUnderItsKey pairs → IsInKeyOrder (map value_of pairs) → Some row ≡ row_at (map value_of pairs) key
    → drop 1 (map value_of (from key_cmp pairs key)) ≡ filter (λ row. is_gt (from_key key row)) (map value_of pairs)
behind_some pairs key row stand up e =
    ap (λ (b : Bool). if b then drop 1 (map value_of (from key_cmp pairs key)) else map value_of (from key_cmp pairs key)) (ap is_some e) ∙ behind_found pairs key stand up

pub behind_none : (pairs : List (Key × Row)) (key : Key) → AllByRecursion IsUnderItsKey pairs → IsInKeyOrder (map value_of pairs) → None ≡ row_at (map value_of pairs) key
    → map value_of (from key_cmp pairs key) ≡ filter (λ row. is_gt (from_key key row)) (map value_of pairs)
behind_none pairs key stand up e =
    ap (λ (b : Bool). if b then drop 1 (map value_of (from key_cmp pairs key)) else map value_of (from key_cmp pairs key)) (ap is_some e) ∙ behind_found pairs key stand up

-- ---- children and referrers

-- the keys of the children
pub child_keys_found : (rows : List Row) (mentions : List Mention) (entity : Entity) (version parent : ℕ) → AreMentioned rows mentions
    → map (λ mention. mention.key) (filter (λ mention. is_eq (from_topic_of (T.RefersTo version entity parent) entity mention)) mentions) ≡ child_keys (of_version version rows) entity parent
child_keys_found rows mentions entity version parent are =
    keys_of_found rows mentions (T.RefersTo version entity parent) entity are
    ∙ (ap (λ (test : Row → Bool). map row_key (filter test rows)) (λ i row. child_is row entity version parent i)
    ∙ sym (ap (map row_key) (filter-filter (λ row. is_entity entity row.key.entity && is_id (parent_id REFERENCES row) parent) (λ row. row.key.version == version) rows)))

-- their ids
pub children_found : (rows : List Row) (mentions : List Mention) (entity : Entity) (version parent : ℕ) → AreMentioned rows mentions
    → map (λ mention. mention.key.id) (filter (λ mention. is_eq (from_topic_of (T.RefersTo version entity parent) entity mention)) mentions) ≡ children REFERENCES (of_version version rows) entity parent
children_found rows mentions entity version parent are =
    map-map (λ (mention : Mention). mention.key) (λ (key : Key). key.id) (filter (λ mention. is_eq (from_topic_of (T.RefersTo version entity parent) entity mention)) mentions)
    ∙ (ap (map (λ (key : Key). key.id)) (child_keys_found rows mentions entity version parent are)
    ∙ sym (map-map row_key (λ (key : Key). key.id) (filter (λ row. is_entity entity row.key.entity && is_id (parent_id REFERENCES row) parent) (of_version version rows))))

-- how many they are
pub children_counted : {V : Type 0} (rows : List Row) (mentions : List Mention) (found : List (Mention × V)) (entity : Entity) (version parent : ℕ) → AreMentioned rows mentions
    → map key_of found ≡ filter (λ mention. is_eq (from_topic_of (T.RefersTo version entity parent) entity mention)) mentions → length found ≡ count_children (of_version version rows) entity parent
children_counted rows mentions found entity version parent are e =
    sym (length-map found key_of)
    ∙ (ap length e
    ∙ (sym (length-map (filter (λ mention. is_eq (from_topic_of (T.RefersTo version entity parent) entity mention)) mentions) (λ (mention : Mention). mention.key))
    ∙ (ap length (child_keys_found rows mentions entity version parent are)
    ∙ (length-map (filter (λ row. is_entity entity row.key.entity && is_id (parent_id REFERENCES row) parent) (of_version version rows)) row_key
    ∙ length-filter (λ row. is_entity entity row.key.entity && is_id (parent_id REFERENCES row) parent) (of_version version rows)))))

-- the keys of the rows of a version that refer
pub referrers_found : (rows : List Row) (mentions : List Mention) (version : ℕ) (entity : Entity) (id : ℕ) → AreMentioned rows mentions
    → map (λ mention. mention.key) (filter (λ mention. is_eq (from_topic (T.RefersTo version entity id) mention)) mentions) ≡ referrers REFERENCES (of_version version rows) (entity_number entity) id
referrers_found rows mentions version entity id are =
    keys_found rows mentions (T.RefersTo version entity id) are
    ∙ sym (ap (map row_key) (filter-filter (λ row. refers_at REFERENCES row (entity_number entity) id) (λ row. row.key.version == version) rows))

-- those of one entity
pub referrers_by_found : (rows : List Row) (mentions : List Mention) (entity : Entity) (version : ℕ) (of : Entity) (id : ℕ) → AreMentioned rows mentions
    → map (λ mention. mention.key) (filter (λ mention. is_eq (from_topic_of (T.RefersTo version of id) entity mention)) mentions) ≡ referrers_by entity (of_version version rows) (entity_number of) id
referrers_by_found rows mentions entity version of id are =
    keys_of_found rows mentions (T.RefersTo version of id) entity are
    ∙ (ap (λ (test : Row → Bool). map row_key (filter test rows)) (λ i row. same row i)
    ∙ sym (ap (map row_key) (filter-filter (λ row. is_entity entity row.key.entity && refers_at REFERENCES row (entity_number of) id) (λ row. row.key.version == version) rows)))
  where
    turn : (v r e : Bool) → ((v && r) && e) ≡ (v && (e && r))
    turn true true true = refl
    turn true true false = refl
    turn true false true = refl
    turn true false false = refl
    turn false r e = refl

    same : (row : Row) → (has_topic row (T.RefersTo version of id) && (entity_number row.key.entity == entity_number entity)) ≡ ((row.key.version == version) && (is_entity entity row.key.entity && refers_at REFERENCES row (entity_number of) id))
    same row =
        turn (row.key.version == version) (refers_at REFERENCES row (entity_number of) id) (entity_number row.key.entity == entity_number entity)
        ∙ ap (λ (b : Bool). (row.key.version == version) && (b && refers_at REFERENCES row (entity_number of) id)) (flip_eq (entity_number row.key.entity) (entity_number entity))

-- the keys of an entity's rows of a version
pub entity_found : (rows : List Row) (entity : Entity) (version : ℕ) → map row_key (filter (λ row. is_eq (from_entity_of entity version row.key)) rows) ≡ keys_of (of_version version rows) entity
entity_found rows entity version =
    ap (λ (test : Row → Bool). map row_key (filter test rows)) (λ i row. same row i)
    ∙ sym (ap (map row_key) (filter-filter (λ row. is_entity entity row.key.entity) (λ row. row.key.version == version) rows))
  where
    swap : (a b : Bool) → (a && b) ≡ (b && a)
    swap true true = refl
    swap true false = refl
    swap false true = refl
    swap false false = refl

    same : (row : Row) → is_eq (from_entity_of entity version row.key) ≡ ((row.key.version == version) && is_entity entity row.key.entity)
    same row =
        is_eq-then (nat_cmp (entity_number row.key.entity) (entity_number entity)) (nat_cmp row.key.version version)
        ∙ ((λ i. (is_eq-nat_cmp (entity_number row.key.entity) (entity_number entity) ∙ flip_eq (entity_number row.key.entity) (entity_number entity)) i && is_eq-nat_cmp row.key.version version i)
        ∙ swap (is_entity entity row.key.entity) (row.key.version == version))

-- ---- twins

-- a twin has the fingerprint of the row in its version
twin_has_print : (version : ℕ) (row other : Row) (print : ℕ) → print_in version row ≡ Some print → is_version_twin version row other ≡ true → has_topic other (T.HasPrint print) ≡ true
twin_has_print version row other print of_row twin =
    let same : (other.key.version == version) ≡ true = left (other.key.version == version) (is_twin row other) twin in
    let is : is_twin row other ≡ true = right (other.key.version == version) (is_twin row other) twin in
    let share = twins_share version row other (eqb-true other.key.version version same) is in
    ap (λ (found : Option ℕ). is_id found print) (share.second ∙ (sym share.first ∙ of_row)) ∙ eq-eqb print print refl
  where
    left : (a b : Bool) → (a && b) ≡ true → a ≡ true
    left true b e = refl
    left false b e = absurd (cc)

    right : (a b : Bool) → (a && b) ≡ true → b ≡ true
    right true b e = e
    right false b e = absurd (cc)

-- a row without a fingerprint has no twin
no_twin : (version : ℕ) (row other : Row) → print_in version row ≡ None → is_version_twin version row other ≡ false
no_twin version row other none = by (is_version_twin version row other) refl
  where
    by : (b : Bool) → is_version_twin version row other ≡ b → is_version_twin version row other ≡ false
    by true e = absurd (let share = twins_share version row other (eqb-true other.key.version version (left (other.key.version == version) (is_twin row other) e)) (right (other.key.version == version) (is_twin row other) e) in let some = share.first in cc)
      where
        left : (a b : Bool) → (a && b) ≡ true → a ≡ true
        left true b f = refl
        left false b f = absurd (cc)

        right : (a b : Bool) → (a && b) ≡ true → b ≡ true
        right true b f = f
        right false b f = absurd (cc)
    by false e = e

none_found : (rows : List Row) → find (λ row. false) rows ≡ None
none_found [] = refl
none_found (row ∷ rows) = none_found rows

none_left : (rows : List Row) → filter (λ row. false) rows ≡ []
none_left [] = refl
none_left (row ∷ rows) = none_left rows

-- the first twin among the rows with the fingerprint
pub twin_found : (rows : List Row) (mentions : List Mention) (version : ℕ) (row : Row) (print : ℕ) → AreMentioned rows mentions → print_in version row ≡ Some print
    → find (is_version_twin version row) (rows_of rows (filter (λ mention. is_eq (from_topic (T.HasPrint print) mention)) mentions)) ≡ first_twin_in version rows row
twin_found rows mentions version row print are of_row =
    ap (find (is_version_twin version row)) (rows_found rows mentions (T.HasPrint print) are)
    ∙ (find-filter (is_version_twin version row) (λ other. has_topic other (T.HasPrint print)) rows
    ∙ (ap (λ (test : Row → Bool). find test rows) (λ i other. implied (is_version_twin version row other) (has_topic other (T.HasPrint print)) (twin_has_print version row other print of_row) i)
    ∙ sym (find-filter (is_twin row) (λ other. other.key.version == version) rows)))

pub no_twin_found : (rows : List Row) (version : ℕ) (row : Row) → print_in version row ≡ None → None ≡ first_twin_in version rows row
no_twin_found rows version row none =
    sym (find-filter (is_twin row) (λ other. other.key.version == version) rows
    ∙ (ap (λ (test : Row → Bool). find test rows) (λ i other. no_twin version row other none i) ∙ none_found rows))

-- the keys of mentions whose rows pass a test
keys_passing : (test : Row → Bool) (rows : List Row) (run : List Mention) → map (λ mention. mention.key) (filter (λ mention. passes test (row_at rows mention.key)) run) ≡ map row_key (filter test (rows_of rows run))
keys_passing test rows [] = refl
keys_passing test rows (mention ∷ run) = by (row_at rows mention.key) refl (keys_passing test rows run)
  where
    at : (found : Row) → row_at rows mention.key ≡ Some found → (b : Bool) → test found ≡ b → map (λ m. m.key) (filter (λ m. passes test (row_at rows m.key)) run) ≡ map row_key (filter test (rows_of rows run))
        → map (λ m. m.key) (filter (λ m. passes test (row_at rows m.key)) (mention ∷ run)) ≡ map row_key (filter test (rows_of rows (mention ∷ run)))
    at found e true f more = rw (e, f) (λ i. sym (found_key rows mention.key found e) i ∷ more i)
    at found e false f more = rw (e, f) more

    by : (found : Option Row) → row_at rows mention.key ≡ found → map (λ m. m.key) (filter (λ m. passes test (row_at rows m.key)) run) ≡ map row_key (filter test (rows_of rows run))
        → map (λ m. m.key) (filter (λ m. passes test (row_at rows m.key)) (mention ∷ run)) ≡ map row_key (filter test (rows_of rows (mention ∷ run)))
    by None e more = rw e more
    by (Some found) e more = at found e (test found) refl more

-- the keys of the twins
pub twins_found : (rows : List Row) (mentions : List Mention) (version : ℕ) (row : Row) (print : ℕ) → AreMentioned rows mentions → print_in version row ≡ Some print
    → map (λ mention. mention.key) (filter (λ mention. passes (is_version_twin version row) (row_at rows mention.key)) (filter (λ mention. is_eq (from_topic (T.HasPrint print) mention)) mentions)) ≡ twins_in version rows row
twins_found rows mentions version row print are of_row =
    keys_passing (is_version_twin version row) rows (filter (λ mention. is_eq (from_topic (T.HasPrint print) mention)) mentions)
    ∙ ap (map row_key)
    (ap (filter (is_version_twin version row)) (rows_found rows mentions (T.HasPrint print) are)
    ∙ (filter-filter (is_version_twin version row) (λ other. has_topic other (T.HasPrint print)) rows
    ∙ (ap (λ (test : Row → Bool). filter test rows) (λ i other. implied (is_version_twin version row other) (has_topic other (T.HasPrint print)) (twin_has_print version row other print of_row) i)
    ∙ sym (filter-filter (is_twin row) (λ other. other.key.version == version) rows))))

pub no_twins_found : (rows : List Row) (version : ℕ) (row : Row) → print_in version row ≡ None → [] ≡ twins_in version rows row
no_twins_found rows version row none =
    sym (ap (map row_key)
    (filter-filter (is_twin row) (λ other. other.key.version == version) rows
    ∙ (ap (λ (test : Row → Bool). filter test rows) (λ i other. no_twin version row other none i) ∙ none_left rows)))

-- ---- the rows of an owner

-- by a walk over all rows
pub owned_in : (limit : OwnerLimit) (rows : List Row) (owner : ℕ) → count_by (is_live_of limit owner) rows ≡ count_owned limit (live rows) owner
owned_in limit rows owner = sym (count_by-filter (belongs limit owner) is_live rows)

-- by a reference
pub owned_found : (limit : OwnerLimit) (rows : List Row) (mentions : List Mention) (owner : ℕ) (reference : Reference) → AreMentioned rows mentions → find (is_from limit.entity limit.owner) REFERENCES ≡ Some reference
    → count_by (λ mention. passes (is_live_of limit owner) (row_at rows mention.key)) (filter (λ mention. is_eq (from_topic_of (T.RefersTo 0 reference.of owner) limit.entity mention)) mentions) ≡ count_owned limit (live rows) owner
owned_found limit rows mentions owner reference are found =
    let run : List Mention = filter (λ mention. is_eq (from_topic_of (T.RefersTo 0 reference.of owner) limit.entity mention)) mentions in
    sym (length-filter (λ mention. passes (is_live_of limit owner) (row_at rows mention.key)) run)
    ∙ (sym (length-map (filter (λ mention. passes (is_live_of limit owner) (row_at rows mention.key)) run) (λ (mention : Mention). mention.key))
    ∙ (ap length (keys_passing (is_live_of limit owner) rows run)
    ∙ (length-map (filter (is_live_of limit owner) (rows_of rows run)) row_key
    ∙ (length-filter (is_live_of limit owner) (rows_of rows run)
    ∙ (ap (count_by (is_live_of limit owner)) (rows_of_found rows mentions (T.RefersTo 0 reference.of owner) limit.entity are)
    ∙ (count_by-filter (is_live_of limit owner) (λ row. has_topic row (T.RefersTo 0 reference.of owner) && (entity_number row.key.entity == entity_number limit.entity)) rows
    ∙ (ap (λ (test : Row → Bool). count_by test rows)
    (λ i row. implied (is_live_of limit owner row) (has_topic row (T.RefersTo 0 reference.of owner) && (entity_number row.key.entity == entity_number limit.entity)) (owned_refers limit owner row reference found) i)
    ∙ owned_in limit rows owner)))))))

-- where the owner is the row's own id
pub owned_by_id : (limit : OwnerLimit) (rows : List Row) (found : List (Key × Row)) (owner : ℕ) → limit.owner ≡ P.Id → map value_of found ≡ filter (λ row. is_eq (from_live_id limit.entity owner row.key)) rows → length found ≡ count_owned limit (live rows) owner
owned_by_id limit rows found owner by_id e =
    sym (length-map found value_of)
    ∙ (ap length e
    ∙ (length-filter (λ row. is_eq (from_live_id limit.entity owner row.key)) rows
    ∙ (ap (λ (test : Row → Bool). count_by test rows) (λ i row. same row i) ∙ owned_in limit rows owner)))
  where
    turn : (e v o : Bool) → (e && (v && o)) ≡ (v && (e && o))
    turn true true o = refl
    turn true false o = refl
    turn false true o = refl
    turn false false o = refl

    same : (row : Row) → is_eq (from_live_id limit.entity owner row.key) ≡ is_live_of limit owner row
    same row =
        is_eq-then (nat_cmp (entity_number row.key.entity) (entity_number limit.entity)) (ordering_then (nat_cmp row.key.version 0) (nat_cmp row.key.id owner))
        ∙ ((λ i. (is_eq-nat_cmp (entity_number row.key.entity) (entity_number limit.entity) ∙ flip_eq (entity_number row.key.entity) (entity_number limit.entity)) i
        && (is_eq-then (nat_cmp row.key.version 0) (nat_cmp row.key.id owner) ∙ (λ j. is_eq-nat_cmp row.key.version 0 j && is_eq-nat_cmp row.key.id owner j)) i)
        ∙ (turn (is_entity limit.entity row.key.entity) (row.key.version == 0) (row.key.id == owner)
        ∙ sym (ap (λ (part : Part). (row.key.version == 0) && (is_entity limit.entity row.key.entity && is_id (part_of part row) owner)) by_id)))

-- ---- the same of pairs that are found

few_pass : {X : Type 0} (test : X → Bool) (xs : List X) → length (filter test xs) ≤ length xs
few_pass test [] = omega arith
few_pass test (x ∷ xs) = by (few_pass test xs) (test x) refl
  where
    by : length (filter test xs) ≤ length xs → (b : Bool) → test x ≡ b → length (filter test (x ∷ xs)) ≤ length (x ∷ xs)
    by more true e = rw e (omega (arith, more))
    by more false e = rw e (omega (arith, more))

module _ {V : Type 0} (rows : List Row) (mentions : List Mention) (are : AreMentioned rows mentions) (found : List (Mention × V)) where
  keys_by : map (λ pair. pair.0.key) found ≡ map (λ mention. mention.key) (map key_of found)
  keys_by = map-map key_of (λ (mention : Mention). mention.key) found

  ids_by : map (λ pair. pair.0.key.id) found ≡ map (λ mention. mention.key.id) (map key_of found)
  ids_by = map-map key_of (λ (mention : Mention). mention.key.id) found

  pub child_keys_of : (entity : Entity) (version parent : ℕ) → map key_of found ≡ filter (λ mention. is_eq (from_topic_of (T.RefersTo version entity parent) entity mention)) mentions → map (λ pair. pair.0.key) found ≡ child_keys (of_version version rows) entity parent
  child_keys_of entity version parent e = keys_by ∙ (ap (map (λ (mention : Mention). mention.key)) e ∙ child_keys_found rows mentions entity version parent are)

  pub children_of : (entity : Entity) (version parent : ℕ) → map key_of found ≡ filter (λ mention. is_eq (from_topic_of (T.RefersTo version entity parent) entity mention)) mentions → map (λ pair. pair.0.key.id) found ≡ children REFERENCES (of_version version rows) entity parent
  children_of entity version parent e = ids_by ∙ (ap (map (λ (mention : Mention). mention.key.id)) e ∙ children_found rows mentions entity version parent are)

  pub referrers_in_of : (version : ℕ) (of : Entity) (id : ℕ) → map key_of found ≡ filter (λ mention. is_eq (from_topic (T.RefersTo version of id) mention)) mentions → map (λ pair. pair.0.key) found ≡ referrers REFERENCES (of_version version rows) (entity_number of) id
  referrers_in_of version of id e = keys_by ∙ (ap (map (λ (mention : Mention). mention.key)) e ∙ referrers_found rows mentions version of id are)

  pub referrers_by_of : (entity : Entity) (version : ℕ) (of : Entity) (id : ℕ) → map key_of found ≡ filter (λ mention. is_eq (from_topic_of (T.RefersTo version of id) entity mention)) mentions → map (λ pair. pair.0.key) found ≡ referrers_by entity (of_version version rows) (entity_number of) id
  referrers_by_of entity version of id e = keys_by ∙ (ap (map (λ (mention : Mention). mention.key)) e ∙ referrers_by_found rows mentions entity version of id are)

  pub twin_of : (version : ℕ) (row : Row) (print : ℕ) → print_in version row ≡ Some print → map key_of found ≡ filter (λ mention. is_eq (from_topic (T.HasPrint print) mention)) mentions → find (is_version_twin version row) (rows_of rows (map key_of found)) ≡ first_twin_in version rows row
  twin_of version row print of_row e = ap (λ ms. find (is_version_twin version row) (rows_of rows ms)) e ∙ twin_found rows mentions version row print are of_row

  pub twins_of : (version : ℕ) (row : Row) (print : ℕ) → print_in version row ≡ Some print → map key_of found ≡ filter (λ mention. is_eq (from_topic (T.HasPrint print) mention)) mentions
      → map (λ pair. pair.0.key) (filter (λ pair. passes (is_version_twin version row) (row_at rows pair.0.key)) found) ≡ twins_in version rows row
  twins_of version row print of_row e =
      map-map key_of (λ (mention : Mention). mention.key) (filter (λ pair. passes (is_version_twin version row) (row_at rows pair.0.key)) found)
      ∙ (ap (map (λ (mention : Mention). mention.key)) (pairs_passing (λ (mention : Mention). passes (is_version_twin version row) (row_at rows mention.key)) found)
      ∙ (ap (λ ms. map (λ (mention : Mention). mention.key) (filter (λ mention. passes (is_version_twin version row) (row_at rows mention.key)) ms)) e
      ∙ twins_found rows mentions version row print are of_row))

  pub owned_of : (limit : OwnerLimit) (owner : ℕ) (reference : Reference) → find (is_from limit.entity limit.owner) REFERENCES ≡ Some reference
      → map key_of found ≡ filter (λ mention. is_eq (from_topic_of (T.RefersTo 0 reference.of owner) limit.entity mention)) mentions
      → count_by (λ pair. passes (is_live_of limit owner) (row_at rows pair.0.key)) found ≡ count_owned limit (live rows) owner
  owned_of limit owner reference from e =
      sym (length-filter (λ pair. passes (is_live_of limit owner) (row_at rows pair.0.key)) found)
      ∙ (sym (length-map (filter (λ pair. passes (is_live_of limit owner) (row_at rows pair.0.key)) found) key_of)
      ∙ (ap length (pairs_passing (λ (mention : Mention). passes (is_live_of limit owner) (row_at rows mention.key)) found)
      ∙ (length-filter (λ mention. passes (is_live_of limit owner) (row_at rows mention.key)) (map key_of found)
      ∙ (ap (count_by (λ mention. passes (is_live_of limit owner) (row_at rows mention.key))) e
      ∙ owned_found limit rows mentions owner reference are from))))

  -- no more than there are rows
  pub found_few : (topic : Topic) (entity : Entity) → map key_of found ≡ filter (λ mention. is_eq (from_topic_of topic entity mention)) mentions → length found ≤ length rows
  found_few topic entity e =
      let same : length found ≡ length (filter (λ row. has_topic row topic && (entity_number row.key.entity == entity_number entity)) rows) =
      sym (length-map found key_of)
      ∙ (ap length e
      ∙ (sym (length-map (filter (λ mention. is_eq (from_topic_of topic entity mention)) mentions) (λ (mention : Mention). mention.key))
      ∙ (ap length (keys_of_found rows mentions topic entity are) ∙ length-map (filter (λ row. has_topic row topic && (entity_number row.key.entity == entity_number entity)) rows) row_key))) in
      omega (arith, same, few_pass (λ row. has_topic row topic && (entity_number row.key.entity == entity_number entity)) rows)

pub rows_few : (test : Row → Bool) (rows : List Row) (found : List (Key × Row)) → map value_of found ≡ filter test rows → length found ≤ length rows
rows_few test rows found e =
    let same : length found ≡ length (filter test rows) = sym (length-map found value_of) ∙ ap length e in
    omega (arith, same, few_pass test rows)

pub entity_keys_of : (rows : List Row) (found : List (Key × Row)) (entity : Entity) (version : ℕ) → map value_of found ≡ filter (λ row. is_eq (from_entity_of entity version row.key)) rows → map (λ pair. pair.1.key) found ≡ keys_of (of_version version rows) entity
entity_keys_of rows found entity version e = map-map value_of row_key found ∙ (ap (map row_key) e ∙ entity_found rows entity version)
