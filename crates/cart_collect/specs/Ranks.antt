-- The order in which the lines of a cart and the promotions of a shop count.
use Rattle.std.specs.Prelude.{pos, List, [], ◌∷◌, unwrap_or}
use Rattle.std.specs.declared.cmp.Ordering.{Ordering}
use Rattle.std.specs.Ordering.{int_cmp, ordering_then}
use Rattle.keyed.specs.Keyed.{put}
use Rattle.shop_defs.specs.declared.entity.Entity.TheVariants as E
use Rattle.shop_defs.specs.declared.row.Row.{Row}
use Rattle.shop_defs.specs.declared.words.FieldName.TheVariants as N
use Rattle.shop_defs.specs.Keys.{key_cmp}
use Rattle.row_fields.specs.Fields.{number_of, int_at}
use Rattle.cart_collect.specs.declared.ranks.Rank.{Rank}

-- a lower position comes first, then a higher priority, then a lower key
abbrev pub rank_cmp : Rank → Rank → Ordering
rank_cmp a b = ordering_then (int_cmp a.position b.position) (ordering_then (int_cmp b.priority a.priority) (key_cmp a.key b.key))

-- a line of a cart ranks by its position and its id
abbrev pub line_rank : Row → Rank
line_rank line = record { position = unwrap_or (int_at line (number_of E.CartLine N.Position)) (pos 0); priority = pos 0; key = line.key }

-- a promotion ranks by its priority and its id
abbrev pub promotion_rank : Row → Rank
promotion_rank promotion = record { position = pos 0; priority = unwrap_or (int_at promotion (number_of E.Promotion N.Priority)) (pos 0); key = promotion.key }

-- rows in the order of their ranks
abbrev pub in_order : (Row → Rank) → List Row → List Row
in_order rank [] = []
in_order rank (row ∷ rows) = put rank_cmp rank (in_order rank rows) row
