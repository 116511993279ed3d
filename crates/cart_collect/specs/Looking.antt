-- How rows are found by look-ups. No public contract cites this.
use Rattle.std.specs.Prelude.{ℕ, Bool, true, false, ◌==◌, ◌&&◌, List, [], ◌∷◌, Option, None, if◌then◌else◌, option_and_then, Some}
use Rattle.std.specs.List.{filter_map}
use Rattle.keyed.specs.Keyed.{put}
use Rattle.shop_defs.specs.declared.entity.Entity.{Entity}
use Rattle.shop_defs.specs.declared.key.Key.{Key}
use Rattle.shop_defs.specs.declared.row.Row.{Row}
use Rattle.shop_defs.specs.Entities.{entity_number}
use Rattle.shop_defs.specs.Rows.{row_at}
use Rattle.shop_operations.specs.References.{is_entity, live}
use Rattle.shop_rows.specs.Lookups.{first_above, referrers_by}
use Rattle.cart_collect.specs.declared.ranks.Rank.{Rank}
use Rattle.cart_collect.specs.Ranks.{rank_cmp}

-- the rows at the keys
abbrev pub rows_at : List Row → List Key → List Row
rows_at rows keys = filter_map (row_at rows) keys

-- the live rows of the entity that refer to the one of the other entity with that id
abbrev pub referring_rows : List Row → Entity → Entity → ℕ → List Row
referring_rows rows entity of id = rows_at rows (referrers_by entity (live rows) (entity_number of) id)

abbrev pub has_any : List Key → Bool
has_any [] = false
has_any (key ∷ keys) = true

-- there is such a row
abbrev pub is_referred : List Row → Entity → Entity → ℕ → Bool
is_referred rows entity of id = has_any (referrers_by entity (live rows) (entity_number of) id)

-- both keys are of one entity and one version
abbrev pub is_beside : Key → Key → Bool
is_beside a b = is_entity a.entity b.entity && (a.version == b.version)

-- the row after the key, where it is of the key's entity and version
abbrev pub if_beside : Key → Row → Option Row
if_beside key row = if is_beside row.key key then Some row else None

abbrev pub next_beside : List Row → Key → Option Row
next_beside rows key = option_and_then (if_beside key) (first_above rows key)

-- ---- ranks

abbrev pub its : Rank → Rank
its rank = rank

-- ranks in their order, each once
abbrev pub in_rank : List Rank → List Rank
in_rank [] = []
in_rank (rank ∷ ranks) = put rank_cmp its (in_rank ranks) rank

abbrev pub rows_at_ranks : List Row → List Rank → List Row
rows_at_ranks rows ranks = filter_map (λ rank. row_at rows rank.key) ranks
