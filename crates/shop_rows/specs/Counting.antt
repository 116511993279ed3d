-- How many rows of each entity there are, as they are counted. No public contract cites this.
use Rattle.std.specs.Prelude.{◌≡◌, ℕ, ◌<◌, ◌^◌, Bool, if◌then◌else◌, List, length, get_or}
use Rattle.shop_defs.specs.declared.entity.Entity.{Entity}
use Rattle.shop_defs.specs.declared.row.Row.{Row}
use Rattle.shop_defs.specs.Entities.{entity_number}
use Rattle.shop_rows.specs.Lookups.{count_rows}

-- 1 where something is so
abbrev pub one : Bool → ℕ
one b = if b then 1 else 0

-- so many rows there are in all, and so many of each entity
pub record AreCounted (rows : List Row) (all : ℕ) (of : List ℕ) : Type 0 where
  pub total : all ≡ length rows
  pub few : all < 2 ^ 63
  pub width : length of ≡ 26
  pub each : (entity : Entity) → get_or of (entity_number entity) 0 ≡ count_rows rows entity
