-- What rows are found by, beside their keys.
use Rattle.std.specs.Prelude.{Bool, ◌==◌, ◌&&◌}
use Rattle.std.specs.declared.cmp.Ordering.{Ordering}
use Rattle.std.specs.declared.cmp.Ordering.TheVariants.{Less, Greater}
use Rattle.std.specs.Ordering.{is_eq, nat_cmp, ordering_then}
use Rattle.shop_defs.specs.declared.row.Row.{Row}
use Rattle.shop_defs.specs.declared.table.TheConstants.{REFERENCES}
use Rattle.shop_defs.specs.Entities.{entity_number}
use Rattle.shop_defs.specs.Keys.{key_cmp}
use Rattle.shop_operations.specs.References.{is_id, refers_at}
use Rattle.shop_rows.specs.declared.topic.Topic.{Topic}
use Rattle.shop_rows.specs.declared.topic.Topic.TheVariants as T
use Rattle.shop_rows.specs.declared.topic.Mention.{Mention}
use Rattle.shop_rows.specs.Prints.{print_of}

-- the row is found by the topic
abbrev pub has_topic : Row → Topic → Bool
has_topic row (T.RefersTo version of id) = (row.key.version == version) && refers_at REFERENCES row (entity_number of) id
has_topic row (T.HasPrint print) = is_id (print_of row) print

-- the mention says truly that this row is found by a topic
abbrev pub is_of_row : Row → Mention → Bool
is_of_row row mention = is_eq (key_cmp row.key mention.key) && has_topic row mention.topic

-- the order of topics
abbrev pub topic_cmp : Topic → Topic → Ordering
topic_cmp (T.RefersTo version of id) (T.RefersTo other_version other_of other_id) = ordering_then (nat_cmp version other_version) (ordering_then (nat_cmp (entity_number of) (entity_number other_of)) (nat_cmp id other_id))
topic_cmp (T.RefersTo version of id) (T.HasPrint other) = Less
topic_cmp (T.HasPrint print) (T.RefersTo version of id) = Greater
topic_cmp (T.HasPrint print) (T.HasPrint other) = nat_cmp print other

-- the order of mentions: by topic, and then by key
abbrev pub mention_cmp : Mention → Mention → Ordering
mention_cmp a b = ordering_then (topic_cmp a.topic b.topic) (key_cmp a.key b.key)
