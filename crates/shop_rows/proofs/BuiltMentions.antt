-- The mentions of rows in order are those of each row.
use Rattle.std.proofs.Common.{◌≡◌, Bool, true, false, ◌||◌, List, [], ◌∷◌, Option, Some, None, is_some, if◌then◌else◌, refl, sym, ap, ◌∙◌}
use Rattle.std.specs.declared.cmp.Ordering.{Ordering}
use Rattle.std.specs.declared.cmp.Ordering.TheVariants.{Less, Equal, Greater}
use Rattle.std.specs.Ordering.{is_eq, ordering_reverse}
use Rattle.std.specs.List.{AllByRecursion, list_any}
use Rattle.std.proofs.lemmas.List.Folds.{list_any-append}
use Rattle.keyed.specs.Keyed.{find}
use Rattle.shop_defs.specs.declared.key.Key.{Key}
use Rattle.shop_defs.specs.declared.row.Row.{Row}
use Rattle.shop_defs.specs.declared.table.Reference.{Reference}
use Rattle.shop_defs.specs.declared.table.TheConstants.{REFERENCES}
use Rattle.shop_defs.specs.Keys.{key_cmp}
use Rattle.shop_defs.specs.Rows.{row_key, row_at, IsInKeyOrder}
use Rattle.shop_defs.proofs.Keys.{key_cmp_total}
use Rattle.shop_rows.specs.declared.topic.Topic.{Topic}
use Rattle.shop_rows.specs.declared.topic.Mention.{Mention}
use Rattle.shop_rows.specs.Topics.{has_topic, is_of_row, mention_cmp}
use Rattle.shop_rows.specs.Mentions.{itself, has, among, is_found, topic_by, print_topic, topic_mentions, reference_mentions, row_mentions}
use Rattle.shop_rows.proofs.Mentioning.{marks, any_marks, row_marks_topics}
use Rattle.shop_rows.proofs.Same.{key_is}

pub has_is_among : (mentions : List Mention) (mention : Mention) → has mentions mention ≡ among mentions mention
has_is_among [] mention = refl
has_is_among (x ∷ mentions) mention = by (is_eq (mention_cmp x mention)) (has_is_among mentions mention)
  where
    by : (b : Bool) → has mentions mention ≡ among mentions mention → is_some (if b then Some x else find mention_cmp itself mentions mention) ≡ (b || among mentions mention)
    by true more = refl
    by false more = more

or_false : (b : Bool) → (b || false) ≡ b
or_false true = refl
or_false false = refl

or_swap : (a b : Bool) → (a || b) ≡ (b || a)
or_swap true true = refl
or_swap true false = refl
or_swap false true = refl
or_swap false false = refl

among-topic : (row : Row) (topic : Option Topic) (mention : Mention) → among (topic_mentions row.key topic) mention ≡ marks row topic mention
among-topic row None mention = refl
among-topic row (Some topic) mention = or_false (is_eq (mention_cmp (record { topic = topic; key = row.key }) mention))

among-references : (table : List Reference) (row : Row) (mention : Mention) → among (reference_mentions table row) mention ≡ any_marks table row mention
among-references [] row mention = refl
among-references (reference ∷ table) row mention =
    list_any-append (λ other. is_eq (mention_cmp other mention)) (topic_mentions row.key (topic_by reference row)) (reference_mentions table row)
    ∙ (λ i. among-topic row (topic_by reference row) mention i || among-references table row mention i)

pub among-row : (row : Row) (mention : Mention) → among (row_mentions row) mention ≡ is_of_row row mention
unfolding row_mentions
among-row row mention =
    list_any-append (λ other. is_eq (mention_cmp other mention)) (reference_mentions REFERENCES row) (topic_mentions row.key (print_topic row))
    ∙ ((λ i. among-references REFERENCES row mention i || among-topic row (print_topic row) mention i)
    ∙ (or_swap (any_marks REFERENCES row mention) (marks row (print_topic row) mention) ∙ row_marks_topics row mention.topic mention.key))

-- a key below all rows is none of theirs
pub none_above : (low : Key) (rows : List Row) (mention : Mention) → AllByRecursion (λ row. key_cmp low (row_key row) ≡ Less) rows → low ≡ mention.key → list_any (λ row. is_of_row row mention) rows ≡ false
none_above low [] mention above same = refl
none_above low (row ∷ rows) mention above same =
    let greater : key_cmp row.key mention.key ≡ Greater = key_cmp_total.antisymm row.key mention.key ∙ ap ordering_reverse (ap (λ (k : Key). key_cmp k row.key) (sym same) ∙ above.0) in
    rw greater (none_above low rows mention above.1 same)

-- in key order, the mention is of the row at its key
pub found_in_order : (rows : List Row) (mention : Mention) → IsInKeyOrder rows → list_any (λ row. is_of_row row mention) rows ≡ is_found (row_at rows mention.key) mention.topic
found_in_order [] mention order = refl
found_in_order (row ∷ rows) mention order = by (found_in_order rows mention order.1) (key_cmp row.key mention.key) refl
  where
    by : list_any (λ other. is_of_row other mention) rows ≡ is_found (row_at rows mention.key) mention.topic → (o : Ordering) → key_cmp row.key mention.key ≡ o
        → list_any (λ other. is_of_row other mention) (row ∷ rows) ≡ is_found (row_at (row ∷ rows) mention.key) mention.topic
    by more Less e = rw e more
    by more Equal e = rw e (ap (λ (b : Bool). has_topic row mention.topic || b) (none_above row.key rows mention order.0 (key_is row.key mention.key e)) ∙ or_false (has_topic row mention.topic))
    by more Greater e = rw e more
