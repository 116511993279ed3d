-- Rows so many steps below a row that is written, and lists of ids.
use Rattle.std.specs.Prelude.{◌≡◌, ℕ, Bool, zero, suc, true, false, not, ◌==◌, ◌<◌, ◌≤◌, List, filter, Option, Some, None, min}
use Rattle.std.specs.List.{flat_map, fold}
use Rattle.std.specs.Option.{option_map_or}
use Rattle.closure.specs.Closure.{IsIn}
use Rattle.shop_defs.specs.declared.row.Row.{Row}
use Rattle.shop_defs.specs.declared.table.TheConstants.{REFERENCES}
use Rattle.shop_operations.specs.Parents.{is_child, children, parent_id}
use Rattle.shop_operations.specs.Upserts.{row_in}

-- a row whose parent is among those
pub record IsChildOf (rows : List Row) (above : Row → Type 0) (row : Row) : Type 0 where
  pub parent : Row
  pub is_in : IsIn parent rows
  pub is_above : above parent
  pub is_child : is_child REFERENCES row parent ≡ true

-- the other is that many steps below the row
abbrev pub IsDown : List Row → Row → ℕ → Row → Type 0
IsDown rows row zero other = row ≡ other
IsDown rows row (suc steps) other = IsChildOf rows (IsDown rows row steps) other

-- the other is below the row, at least as many steps as the first number, and fewer than the second
pub record IsBetween (rows : List Row) (row : Row) (first end : ℕ) (other : Row) : Type 0 where
  pub steps : ℕ
  pub down : IsDown rows row steps other
  pub from : first ≤ steps
  pub before : steps < end

-- a row of the rows that is of the part and has that id
pub record HasId (rows : List Row) (part : Row → Type 0) (id : ℕ) : Type 0 where
  pub row : Row
  pub is_in : IsIn row rows
  pub is_part : part row
  pub same : row.key.id ≡ id

-- the ids are those of that part of the rows
pub record AreIdsOf (rows : List Row) (part : Row → Type 0) (ids : List ℕ) : Type 0 where
  pub has : (row : Row) → IsIn row rows → part row → IsIn row.key.id ids
  pub real : (id : ℕ) → IsIn id ids → HasId rows part id

-- the ids of a row's children that aren't the written row
abbrev pub other_children : List Row → Row → ℕ → List ℕ
other_children rows row id = filter (λ child. not (child == row.key.id)) (children REFERENCES rows row.key.entity id)

-- the ids one step further down
abbrev pub next_ids : List Row → Row → List ℕ → List ℕ
next_ids rows row ids = flat_map (other_children rows row) ids

abbrev pub lesser_id : Option ℕ → ℕ → Option ℕ
lesser_id None id = Some id
lesser_id (Some least) id = Some (min least id)

-- the least of the ids
abbrev pub least_id : List ℕ → Option ℕ
least_id ids = fold lesser_id None ids

-- both name the same, or neither names any
abbrev pub is_same_id : Option ℕ → Option ℕ → Bool
is_same_id None None = true
is_same_id (Some a) (Some b) = a == b
is_same_id a b = false

-- a row stands at the written one's place that has the same parent, or neither has one
abbrev pub keeps_parent : List Row → Row → Bool
keeps_parent rows row = option_map_or (λ before. is_same_id (parent_id REFERENCES before) (parent_id REFERENCES row)) (row_in rows row.key) false
