-- The mentions of a topic are those of the rows that it finds.
use Rattle.std.proofs.Common.{◌≡◌, Bool, true, false, ◌==◌, ◌&&◌, ◌||◌, List, [], ◌∷◌, map, filter, refl, sym, ap, ◌∙◌}
use Rattle.std.specs.declared.cmp.Ordering.{Ordering}
use Rattle.std.specs.declared.cmp.Ordering.TheVariants.{Less, Equal}
use Rattle.std.specs.Ordering.{is_eq, nat_cmp, ordering_then}
use Rattle.std.specs.List.{AllByRecursion, list_any, filter_map, cons_option}
use Rattle.keyed.specs.Keyed.{Ascends}
use Rattle.shop_defs.specs.declared.entity.Entity.{Entity}
use Rattle.shop_defs.specs.declared.key.Key.{Key}
use Rattle.shop_defs.specs.declared.row.Row.{Row}
use Rattle.shop_defs.specs.Entities.{entity_number}
use Rattle.shop_defs.specs.Keys.{key_cmp}
use Rattle.shop_defs.specs.Rows.{row_key, row_at, IsInKeyOrder}
use Rattle.shop_defs.proofs.Keys.{key_cmp_total}
use Rattle.shop_rows.specs.declared.topic.Topic.{Topic}
use Rattle.shop_rows.specs.declared.topic.Mention.{Mention}
use Rattle.shop_rows.specs.Topics.{has_topic, is_of_row, topic_cmp, mention_cmp}
use Rattle.shop_rows.specs.TopicOrder.{topic_cmp_total}
use Rattle.shop_rows.specs.Mentions.{itself, among, AreMentioned, rows_of}
use Rattle.shop_rows.specs.Searches.{from_topic, from_topic_of}
use Rattle.shop_rows.proofs.Same.{key_is, topic_is, is_equal, itself_equal, is_eq-then, is_eq-nat_cmp}
use Rattle.shop_rows.proofs.SameLists.{its, same_lists}
use Rattle.shop_rows.proofs.BuiltMentions.{has_is_among, found_in_order}
use Rattle.shop_rows.proofs.Lists.{filter-filter}

-- the mention is of the topic
abbrev pub is_at : Topic → Mention → Bool
is_at topic mention = is_eq (from_topic topic mention)

-- the keys of the mentions of a topic
abbrev pub keys_at : Topic → List Mention → List Key
keys_at topic mentions = map (λ mention. mention.key) (filter (is_at topic) mentions)

-- ---- the keys of a topic's mentions ascend

within_topic : (a b c : Topic) (o : Ordering) → a ≡ c → b ≡ c → ordering_then (topic_cmp a b) o ≡ Less → o ≡ Less
within_topic a b c o e f less =
    let tie : topic_cmp a b ≡ Equal = ap (λ (t : Topic). topic_cmp t b) (e ∙ sym f) ∙ itself_equal topic_cmp topic_cmp_total b in
    sym (ap (λ (p : Ordering). ordering_then p o) tie) ∙ less

keys_above : (low : Mention) (topic : Topic) (mentions : List Mention) → low.topic ≡ topic → AllByRecursion (λ other. mention_cmp low other ≡ Less) mentions → AllByRecursion (λ key. key_cmp low.key key ≡ Less) (keys_at topic mentions)
keys_above low topic [] at above = tt
keys_above low topic (mention ∷ mentions) at above = by (keys_above low topic mentions at above.1) (is_at topic mention) refl
  where
    by : AllByRecursion (λ key. key_cmp low.key key ≡ Less) (keys_at topic mentions) → (b : Bool) → is_at topic mention ≡ b → AllByRecursion (λ key. key_cmp low.key key ≡ Less) (keys_at topic (mention ∷ mentions))
    by more true e = rw e (within_topic low.topic mention.topic topic (key_cmp low.key mention.key) at (topic_is _ _ (is_equal _ e)) above.0, more)
    by more false e = rw e more

keys_ascend : (topic : Topic) (mentions : List Mention) → Ascends mention_cmp itself mentions → Ascends key_cmp its (keys_at topic mentions)
keys_ascend topic [] up = tt
keys_ascend topic (mention ∷ mentions) up = by (keys_ascend topic mentions up.1) (is_at topic mention) refl
  where
    by : Ascends key_cmp its (keys_at topic mentions) → (b : Bool) → is_at topic mention ≡ b → Ascends key_cmp its (keys_at topic (mention ∷ mentions))
    by more true e = rw e (keys_above mention topic mentions (topic_is _ _ (is_equal _ e)) up.0, more)
    by more false e = rw e more

-- the keys of a part of rows ascend
part_above : (low : Key) (test : Row → Bool) (rows : List Row) → AllByRecursion (λ row. key_cmp low (row_key row) ≡ Less) rows → AllByRecursion (λ key. key_cmp low key ≡ Less) (map row_key (filter test rows))
part_above low test [] above = tt
part_above low test (row ∷ rows) above = by (part_above low test rows above.1) (test row) refl
  where
    by : AllByRecursion (λ key. key_cmp low key ≡ Less) (map row_key (filter test rows)) → (b : Bool) → test row ≡ b → AllByRecursion (λ key. key_cmp low key ≡ Less) (map row_key (filter test (row ∷ rows)))
    by more true e = rw e (above.0, more)
    by more false e = rw e more

part_ascends : (test : Row → Bool) (rows : List Row) → IsInKeyOrder rows → Ascends key_cmp its (map row_key (filter test rows))
part_ascends test [] up = tt
part_ascends test (row ∷ rows) up = by (part_ascends test rows up.1) (test row) refl
  where
    by : Ascends key_cmp its (map row_key (filter test rows)) → (b : Bool) → test row ≡ b → Ascends key_cmp its (map row_key (filter test (row ∷ rows)))
    by more true e = rw e (part_above row.key test rows up.0, more)
    by more false e = rw e more

-- ---- they hold the same keys

mention_holds : (topic : Topic) (key : Key) (mentions : List Mention) → list_any (λ k. is_eq (key_cmp k key)) (keys_at topic mentions) ≡ among mentions (record { topic = topic; key = key })
mention_holds topic key [] = refl
mention_holds topic key (mention ∷ mentions) = by (mention_holds topic key mentions) (is_at topic mention) refl
  where
    both : (b : Bool) → is_at topic mention ≡ b → is_eq (mention_cmp mention (record { topic = topic; key = key })) ≡ (b && is_eq (key_cmp mention.key key))
    both b e = is_eq-then (topic_cmp mention.topic topic) (key_cmp mention.key key) ∙ ap (λ (c : Bool). c && is_eq (key_cmp mention.key key)) e

    by : list_any (λ k. is_eq (key_cmp k key)) (keys_at topic mentions) ≡ among mentions (record { topic = topic; key = key }) → (b : Bool) → is_at topic mention ≡ b
        → list_any (λ k. is_eq (key_cmp k key)) (keys_at topic (mention ∷ mentions)) ≡ among (mention ∷ mentions) (record { topic = topic; key = key })
    by more true e = rw (e, both true e) (ap (λ (c : Bool). is_eq (key_cmp mention.key key) || c) more)
    by more false e = rw (e, both false e) more

row_holds : (topic : Topic) (key : Key) (rows : List Row) → list_any (λ k. is_eq (key_cmp k key)) (map row_key (filter (λ row. has_topic row topic) rows)) ≡ list_any (λ row. is_of_row row (record { topic = topic; key = key })) rows
row_holds topic key [] = refl
row_holds topic key (row ∷ rows) = by (row_holds topic key rows) (has_topic row topic) refl
  where
    and_true : (b : Bool) → b ≡ (b && true)
    and_true true = refl
    and_true false = refl

    and_false : (b : Bool) → (b && false) ≡ false
    and_false true = refl
    and_false false = refl

    by : list_any (λ k. is_eq (key_cmp k key)) (map row_key (filter (λ other. has_topic other topic) rows)) ≡ list_any (λ other. is_of_row other (record { topic = topic; key = key })) rows → (b : Bool) → has_topic row topic ≡ b
        → list_any (λ k. is_eq (key_cmp k key)) (map row_key (filter (λ other. has_topic other topic) (row ∷ rows))) ≡ list_any (λ other. is_of_row other (record { topic = topic; key = key })) (row ∷ rows)
    by more true e = rw e (λ i. and_true (is_eq (key_cmp row.key key)) i || more i)
    by more false e = rw e (more ∙ sym (ap (λ (c : Bool). c || list_any (λ other. is_of_row other (record { topic = topic; key = key })) rows) (and_false (is_eq (key_cmp row.key key)))))

-- the keys of a topic's mentions are those of the rows that it finds
pub keys_found : (rows : List Row) (mentions : List Mention) (topic : Topic) → AreMentioned rows mentions → keys_at topic mentions ≡ map row_key (filter (λ row. has_topic row topic) rows)
keys_found rows mentions topic are =
    same_lists key_cmp key_cmp_total key_is (keys_at topic mentions) (map row_key (filter (λ row. has_topic row topic) rows)) (keys_ascend topic mentions are.sorted) (part_ascends (λ row. has_topic row topic) rows are.order)
    (λ key. mention_holds topic key mentions
    ∙ (sym (has_is_among mentions (record { topic = topic; key = key })) ∙ (are.fit (record { topic = topic; key = key })
    ∙ (sym (found_in_order rows (record { topic = topic; key = key }) are.order) ∙ sym (row_holds topic key rows)))))

-- ---- of one entity

abbrev is_key_of : Entity → Key → Bool
is_key_of entity key = entity_number key.entity == entity_number entity

map-filter : {A B : Type 0} (f : A → B) (test : B → Bool) (xs : List A) → map f (filter (λ x. test (f x)) xs) ≡ filter test (map f xs)
map-filter f test [] = refl
map-filter f test (x ∷ xs) = by (map-filter f test xs) (test (f x)) refl
  where
    by : map f (filter (λ y. test (f y)) xs) ≡ filter test (map f xs) → (b : Bool) → test (f x) ≡ b → map f (filter (λ y. test (f y)) (x ∷ xs)) ≡ filter test (map f (x ∷ xs))
    by more true e = rw e (ap (λ ys. f x ∷ ys) more)
    by more false e = rw e more

-- the keys of a topic's mentions by rows of an entity
pub keys_of_found : (rows : List Row) (mentions : List Mention) (topic : Topic) (entity : Entity) → AreMentioned rows mentions
    → map (λ mention. mention.key) (filter (λ mention. is_eq (from_topic_of topic entity mention)) mentions) ≡ map row_key (filter (λ row. has_topic row topic && (entity_number row.key.entity == entity_number entity)) rows)
keys_of_found rows mentions topic entity are =
    ap (λ (test : Mention → Bool). map (λ mention. mention.key) (filter test mentions)) (λ i mention. split mention i)
    ∙ (ap (map (λ mention. mention.key)) (sym (filter-filter (λ mention. is_key_of entity mention.key) (is_at topic) mentions))
    ∙ (map-filter (λ mention. mention.key) (is_key_of entity) (filter (is_at topic) mentions)
    ∙ (ap (filter (is_key_of entity)) (keys_found rows mentions topic are)
    ∙ (sym (map-filter row_key (is_key_of entity) (filter (λ row. has_topic row topic) rows))
    ∙ ap (map row_key) (filter-filter (λ row. is_key_of entity row.key) (λ row. has_topic row topic) rows)))))
  where
    split : (mention : Mention) → is_eq (from_topic_of topic entity mention) ≡ (is_at topic mention && is_key_of entity mention.key)
    split mention =
        is_eq-then (topic_cmp mention.topic topic) (nat_cmp (entity_number mention.key.entity) (entity_number entity))
        ∙ ap (λ (b : Bool). is_at topic mention && b) (is_eq-nat_cmp (entity_number mention.key.entity) (entity_number entity))

-- ---- the rows at the keys

rows_at_keys : (rows : List Row) (mentions : List Mention) → rows_of rows mentions ≡ filter_map (row_at rows) (map (λ mention. mention.key) mentions)
rows_at_keys rows [] = refl
rows_at_keys rows (mention ∷ mentions) = ap (cons_option (row_at rows mention.key)) (rows_at_keys rows mentions)

-- a row below the keys is none of theirs
skipped : (row : Row) (rows : List Row) (keys : List Key) → AllByRecursion (λ key. key_cmp row.key key ≡ Less) keys → filter_map (row_at (row ∷ rows)) keys ≡ filter_map (row_at rows) keys
skipped row rows [] above = refl
skipped row rows (key ∷ keys) above = rw above.0 (ap (cons_option (row_at rows key)) (skipped row rows keys above.1))

part_at_keys : (test : Row → Bool) (rows : List Row) → IsInKeyOrder rows → filter_map (row_at rows) (map row_key (filter test rows)) ≡ filter test rows
part_at_keys test [] up = refl
part_at_keys test (row ∷ rows) up = by (part_at_keys test rows up.1) (test row) refl
  where
    rest : filter_map (row_at (row ∷ rows)) (map row_key (filter test rows)) ≡ filter_map (row_at rows) (map row_key (filter test rows))
    rest = skipped row rows (map row_key (filter test rows)) (part_above row.key test rows up.0)

    by : filter_map (row_at rows) (map row_key (filter test rows)) ≡ filter test rows → (b : Bool) → test row ≡ b → filter_map (row_at (row ∷ rows)) (map row_key (filter test (row ∷ rows))) ≡ filter test (row ∷ rows)
    by more true e = rw (e, itself_equal key_cmp key_cmp_total row.key) (ap (λ (others : List Row). row ∷ others) (rest ∙ more))
    by more false e = rw e (rest ∙ more)

-- the rows of a topic's mentions are those that it finds
pub rows_found : (rows : List Row) (mentions : List Mention) (topic : Topic) → AreMentioned rows mentions → rows_of rows (filter (is_at topic) mentions) ≡ filter (λ row. has_topic row topic) rows
rows_found rows mentions topic are =
    rows_at_keys rows (filter (is_at topic) mentions)
    ∙ (ap (filter_map (row_at rows)) (keys_found rows mentions topic are) ∙ part_at_keys (λ row. has_topic row topic) rows are.order)

-- and so of one entity
pub rows_of_found : (rows : List Row) (mentions : List Mention) (topic : Topic) (entity : Entity) → AreMentioned rows mentions
    → rows_of rows (filter (λ mention. is_eq (from_topic_of topic entity mention)) mentions) ≡ filter (λ row. has_topic row topic && (entity_number row.key.entity == entity_number entity)) rows
rows_of_found rows mentions topic entity are =
    rows_at_keys rows (filter (λ mention. is_eq (from_topic_of topic entity mention)) mentions)
    ∙ (ap (filter_map (row_at rows)) (keys_of_found rows mentions topic entity are) ∙ part_at_keys (λ row. has_topic row topic && (entity_number row.key.entity == entity_number entity)) rows are.order)
