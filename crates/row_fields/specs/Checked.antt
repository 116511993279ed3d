-- Rows that were checked against the table of fields, and what their fields may hold by it.
use Rattle.std.specs.Prelude.{◌≡◌, ℕ, ◌≤◌, ℤ, pos, true, List, length, Some}
use Rattle.std.specs.Prelude.{◌≤ℤ◌}
use Rattle.std.specs.List.{list_all}
use Rattle.shop_defs.specs.declared.day.TheConstants.{LAST_DAY}
use Rattle.shop_defs.specs.declared.entity.Entity.{Entity}
use Rattle.shop_defs.specs.declared.row.Row.{Row}
use Rattle.shop_defs.specs.declared.table.FieldInfo.{FieldInfo}
use Rattle.shop_defs.specs.declared.table.FieldKind.{FieldKind}
use Rattle.shop_defs.specs.declared.table.FieldKind.TheVariants as K
use Rattle.shop_defs.specs.Fitting.{field_fits, has_needed}
use Rattle.shop_defs.specs.Tables.{field_at}

-- the row is of the entity, each of its fields fits, and none is empty that is never null
pub record IsRowOf (entity : Entity) (row : Row) : Type 0 where
  pub of : row.key.entity ≡ entity
  pub fits : list_all (field_fits row.key.entity) row.fields ≡ true
  pub needed : has_needed row ≡ true

-- the numbers of a kind go from low to high
abbrev pub HasNumbers : FieldKind → ℤ → ℤ → Type 0
HasNumbers (K.Int least most) low high = (least ≡ low) × (most ≡ high)
HasNumbers K.Interval low high = (pos 1 ≡ low) × (pos 100 ≡ high)
HasNumbers K.Day low high = (pos 0 ≡ low) × (LAST_DAY ≡ high)
HasNumbers kind low high = ⊥

-- the texts of a kind have low to high bytes
abbrev pub HasTexts : FieldKind → ℕ → ℕ → Type 0
HasTexts (K.Text least most) low high = (least ≡ low) × (most ≡ high)
HasTexts kind low high = ⊥

-- by the table, the field of that number of the entity holds numbers from low to high
pub record HoldsNumbers (entity : Entity) (field : ℕ) (low high : ℤ) : Type 0 where
  pub info : FieldInfo
  pub line : field_at entity field ≡ Some info
  pub bounds : HasNumbers info.kind low high

-- by the table, it holds texts of low to high bytes
pub record HoldsTexts (entity : Entity) (field low high : ℕ) : Type 0 where
  pub info : FieldInfo
  pub line : field_at entity field ≡ Some info
  pub bounds : HasTexts info.kind low high

-- the number lies between low and high
abbrev pub Lies : ℤ → ℤ → ℤ → Type 0
Lies low high number = (low ≤ℤ number) × (number ≤ℤ high)

-- and so the length of the text
abbrev pub HasLength : ℕ → ℕ → List ℕ → Type 0
HasLength low high text = (low ≤ length text) × (length text ≤ high)
