-- What a step of the search for the rows that a delete touches leaves.
use Rattle.std.specs.Prelude.{◌≡◌, ℕ, ◌+◌, ◌≤◌, Bool, true, false, not, ◌⊎◌, ◌++◌, List, [], ◌∷◌, length, filter, map}
use Rattle.closure.specs.Closure.{IsIn}
use Rattle.keyed.specs.Keyed.{put}
use Rattle.shop_defs.specs.declared.key.Key.{Key}
use Rattle.shop_defs.specs.declared.row.Row.{Row}
use Rattle.shop_defs.specs.declared.table.Reference.{Reference}
use Rattle.shop_defs.specs.Entities.{entity_number}
use Rattle.shop_operations.specs.References.{falls_at, refers_at}
use Rattle.shop_operations.specs.Deletes.{stands_at, goes, gone}
use Rattle.shop_write.specs.declared.place.Place.{Place}
use Rattle.shop_write.specs.declared.worklist.Search.{Search}
use Rattle.shop_write.specs.declared.worklist.Affected.{Affected}
use Rattle.shop_write.specs.Places.{order, itself, Rise, row_place, stands_among}

-- the row goes with what stands at the key
abbrev pub falls_to : List Reference → Key → Row → Bool
falls_to table key row = falls_at table row (entity_number key.entity) key.id

-- the row refers to what stands at the key
abbrev pub refers_to : List Reference → Key → Row → Bool
refers_to table key row = refers_at table row (entity_number key.entity) key.id

-- how many rows stand at none of the places
unfoldable pub unlisted : List Row → List Place → ℕ
unlisted rows places = length (filter (λ row. not (stands_among places row)) rows)

-- a search that begins at the row
pub record Begins (row : Row) (search : Search) : Type 0 where
  pub lost : search.lost ≡ row_place row ∷ []
  pub near : search.near ≡ []
  pub pending : search.pending ≡ row_place row ∷ []

-- the row, which refers to what stands at the key, is among those that go, or it doesn't go with the key and is near
abbrev pub IsNoted : List Reference → Key → Search → Row → Type 0
IsNoted table key search row =
    (stands_among search.lost row ≡ true) ⊎ ((falls_to table key row ≡ false) × (stands_among search.near row ≡ true))

-- how a row is noted: it doesn't go with the key and is near, it is known to go, or it is new
pub data Notes (table : List Reference) (row : Row) (key : Key) (before after : Search) : Type 0 where
  stays : falls_to table key row ≡ false → after.lost ≡ before.lost → after.near ≡ put order itself before.near (row_place row) → after.pending ≡ before.pending → Notes table row key before after
  known : stands_among before.lost row ≡ true → after.lost ≡ before.lost → after.near ≡ before.near → after.pending ≡ before.pending → Notes table row key before after
  fresh : falls_to table key row ≡ true → stands_among before.lost row ≡ false → after.lost ≡ put order itself before.lost (row_place row) → after.near ≡ before.near → after.pending ≡ before.pending ++ row_place row ∷ [] → Notes table row key before after

-- the places are those of rows
abbrev pub AreOf : List Row → List Place → Type 0
AreOf rows places = (place : Place) → IsIn place places → IsIn place (map row_place rows)

-- each place once, in order, and each that of a row
pub record AreInOrder (rows : List Row) (places : List Place) : Type 0 where
  pub rise : Rise places
  pub of_rows : AreOf rows places

-- some of what refers to the row at the key was noted
pub record IsSpread (table : List Reference) (rows : List Row) (key : Key) (before after : Search) : Type 0 where
  pub keeps : (row : Row) → stands_among before.lost row ≡ true → stands_among after.lost row ≡ true
  pub keeps_near : (row : Row) → stands_among before.near row ≡ true → stands_among after.near row ≡ true
  pub keeps_pending : (row : Row) → stands_among before.pending row ≡ true → stands_among after.pending row ≡ true
  pub falls : (row : Row) → IsIn row rows → stands_among after.lost row ≡ true → (stands_among before.lost row ≡ true) ⊎ (falls_to table key row ≡ true)
  pub falls_pending : (row : Row) → IsIn row rows → stands_among after.pending row ≡ true → (stands_among before.pending row ≡ true) ⊎ (falls_to table key row ≡ true)
  pub queued : (row : Row) → stands_among after.lost row ≡ true → (stands_among before.lost row ≡ true) ⊎ (stands_among after.pending row ≡ true)
  pub in_order : AreInOrder rows before.lost → AreInOrder rows after.lost
  pub in_order_near : AreInOrder rows before.near → AreInOrder rows after.near
  pub of_rows : AreOf rows before.pending → AreOf rows after.pending
  pub smaller : unlisted rows after.lost + length after.pending ≤ unlisted rows before.lost + length before.pending

-- what is found so far goes; of each row that goes and doesn't wait, all that refers to it is noted
pub record IsFound (table : List Reference) (rows : List Row) (start : Key) (search : Search) : Type 0 where
  pub has_start : (row : Row) → IsIn row rows → stands_at start row ≡ true → stands_among search.lost row ≡ true
  pub under : (row : Row) → IsIn row rows → stands_among search.lost row ≡ true → goes table rows start row ≡ true
  pub under_pending : (row : Row) → IsIn row rows → stands_among search.pending row ≡ true → goes table rows start row ≡ true
  pub next : (row other : Row) → IsIn row rows → IsIn other rows → stands_among search.lost other ≡ true → refers_to table other.key row ≡ true → IsNoted table other.key search row ⊎ (stands_among search.pending other ≡ true)
  pub in_order : AreInOrder rows search.lost
  pub in_order_near : AreInOrder rows search.near
  pub of_rows : AreOf rows search.pending

-- the rows that go with a delete at the key, and rows that refer to one of them: all of those that stay
pub record IsTouched (table : List Reference) (rows : List Row) (key : Key) (search : Affected) : Type 0 where
  pub lost : search.lost ≡ map row_place (gone table rows key)
  pub near : search.near ≡ map row_place (filter (stands_among search.near) rows)
  pub covers : (row other : Row) → IsIn row rows → IsIn other rows → goes table rows key row ≡ false → goes table rows key other ≡ true → refers_to table other.key row ≡ true → stands_among search.near row ≡ true
