-- What is kept of rows beside them, so that they are found by topic. No public contract cites this.
use Rattle.std.specs.Prelude.{◌≡◌, Bool, true, false, ◌&&◌, List, [], ◌∷◌, ◌++◌, Option, Some, None, is_some, if◌then◌else◌}
use Rattle.std.specs.List.{filter_map, flat_map, list_all, list_any}
use Rattle.std.specs.Ordering.{is_eq}
use Rattle.std.specs.Option.{option_map}
use Rattle.keyed.specs.Keyed.{Ascends, find}
use Rattle.shop_defs.specs.declared.key.Key.{Key}
use Rattle.shop_defs.specs.declared.row.Row.{Row}
use Rattle.shop_defs.specs.declared.table.Reference.{Reference}
use Rattle.shop_defs.specs.declared.table.TheConstants.{REFERENCES}
use Rattle.shop_defs.specs.References.{acts_on_delete}
use Rattle.shop_defs.specs.Rows.{IsInKeyOrder, row_at}
use Rattle.shop_defs.specs.Joined.{Change}
use Rattle.shop_operations.specs.References.{named}
use Rattle.shop_rows.specs.declared.topic.Topic.{Topic}
use Rattle.shop_rows.specs.declared.topic.Topic.TheVariants as T
use Rattle.shop_rows.specs.declared.topic.Mention.{Mention}
use Rattle.shop_rows.specs.Prints.{print_of}
use Rattle.shop_rows.specs.Topics.{has_topic, topic_cmp, mention_cmp}

abbrev pub itself : Mention → Mention
itself mention = mention

-- the mention is one of these, in any order
abbrev pub among : List Mention → Mention → Bool
among mentions mention = list_any (λ other. is_eq (mention_cmp other mention)) mentions

-- the mention is among these
abbrev pub has : List Mention → Mention → Bool
has mentions mention = is_some (find mention_cmp itself mentions mention)

-- there is a row, and it is found by the topic
abbrev pub is_found : Option Row → Topic → Bool
is_found None topic = false
is_found (Some row) topic = has_topic row topic

-- the mentions stand in order, and are those of the rows: each topic of each row, and no other
pub record AreMentioned (rows : List Row) (mentions : List Mention) : Type 0 where
  pub order : IsInKeyOrder rows
  pub sorted : Ascends mention_cmp itself mentions
  pub fit : (mention : Mention) → has mentions mention ≡ is_found (row_at rows mention.key) mention.topic

-- ---- the mentions of one row

-- the topic that a reference gives a row, if it gives one
abbrev pub topic_by : Reference → Row → Option Topic
topic_by reference row = if acts_on_delete reference then option_map (λ id. T.RefersTo row.key.version reference.of id) (named reference row) else None

-- the topic that the unique fields give a row, if they give one
abbrev pub print_topic : Row → Option Topic
print_topic row = option_map (λ print. T.HasPrint print) (print_of row)

-- both are the same topic, or neither is there
abbrev pub same_topic : Option Topic → Option Topic → Bool
same_topic None None = true
same_topic (Some a) (Some b) = is_eq (topic_cmp a b)
same_topic a b = false

-- the rows are found by the same topics
abbrev pub have_same_topics : Row → Row → Bool
have_same_topics row other = same_topic (print_topic row) (print_topic other) && list_all (λ reference. same_topic (topic_by reference row) (topic_by reference other)) REFERENCES

-- both rows are there and found by the same topics
abbrev pub are_alike : Option Row → Option Row → Bool
are_alike (Some row) (Some other) = have_same_topics row other
are_alike a b = false

-- ---- the rows that mentions are of

-- the rows at the keys of the mentions
abbrev pub rows_of : List Row → List Mention → List Row
rows_of rows mentions = filter_map (λ mention. row_at rows mention.key) mentions

-- ---- the mentions of rows, one after the other, in no order

abbrev pub topic_mentions : Key → Option Topic → List Mention
topic_mentions key None = []
topic_mentions key (Some topic) = record { topic = topic; key = key } ∷ []

abbrev pub reference_mentions : List Reference → Row → List Mention
reference_mentions table row = flat_map (λ reference. topic_mentions row.key (topic_by reference row)) table

-- the mentions of a row
unfoldable pub row_mentions : Row → List Mention
row_mentions row = reference_mentions REFERENCES row ++ topic_mentions row.key (print_topic row)

-- ---- what changes move

-- the mentions of a row, if there is one
abbrev pub found_mentions : Option Row → List Mention
found_mentions None = []
found_mentions (Some row) = row_mentions row

-- the mentions that go where a row stands in place of another or of none, or none in place of one
abbrev pub gone_by : Option Row → Option Row → List Mention
gone_by old new = if are_alike old new then [] else found_mentions old

-- and those that come
abbrev pub come_by : Option Row → Option Row → List Mention
come_by old new = if are_alike old new then [] else found_mentions new

-- the same by a change of rows
abbrev pub gone_at : List Row → Change → List Mention
gone_at rows change = gone_by (row_at rows change.0) change.1

abbrev pub come_at : List Row → Change → List Mention
come_at rows change = come_by (row_at rows change.0) change.1
