-- What an accepted operation leaves of the rows that it saw, in words.
use Rattle.std.specs.Prelude.{◌≡◌, ◌≤◌, ℕ, Bool, true, false, not, ◌==◌, ◌||◌, List, [], ◌∷◌, filter, count_by, Option, Some, None, is_some, if◌then◌else◌}
use Rattle.std.specs.List.{fold}
use Rattle.std.specs.Option.{option_and_then, option_or, unwrap_or}
use Rattle.std.specs.Ordering.{nat_cmp}
use Rattle.keyed.specs.Keyed.{Ascends}
use Rattle.closure.specs.Closure.{IsIn}
use Rattle.closure.specs.Least.{IsLeastClosed}
use Rattle.shop_defs.specs.declared.entity.Entity.{Entity}
use Rattle.shop_defs.specs.declared.key.Key.{Key}
use Rattle.shop_defs.specs.declared.op.Op.{Op}
use Rattle.shop_defs.specs.declared.op.OpKind.{OpKind}
use Rattle.shop_defs.specs.declared.op.OpKind.TheVariants.{Upsert, Delete}
use Rattle.shop_defs.specs.declared.row.Row.{Row}
use Rattle.shop_defs.specs.declared.table.FieldInfo.{FieldInfo}
use Rattle.shop_defs.specs.declared.table.OwnerLimit.{OwnerLimit}
use Rattle.shop_defs.specs.declared.table.Part.TheVariants as P
use Rattle.shop_defs.specs.declared.table.Reference.{Reference}
use Rattle.shop_defs.specs.declared.table.TheConstants.{REFERENCES, LEVEL_LIMITS, OWNER_LIMITS, MOST_ROWS}
use Rattle.shop_defs.specs.declared.value.Value.{Value}
use Rattle.shop_defs.specs.Presets.{preset_of}
use Rattle.shop_defs.specs.Rows.{field_of}
use Rattle.shop_defs.specs.Tables.{field_at, fields_of}
use Rattle.shop_operations.specs.Deletes.{stands_at}
use Rattle.shop_operations.specs.Operations.{place}
use Rattle.shop_operations.specs.Parents.{is_below, is_deep}
use Rattle.shop_operations.specs.References.{falls_with, holds_back, is_entity, is_met, sets_null, ties}
use Rattle.shop_operations.specs.Upserts.{bare_row, count_of, field_number, gives_parent, gives_part, given_to, is_of_owner, is_of_tree, is_twin, row_in}
use Rattle.shop_operations.specs.Views.{View, IsInPlaceOrder}

-- ---- upserts

abbrev pub later : ℕ → Option (Option Value) → ℕ × Option Value → Option (Option Value)
later number found entry = if entry.0 == number then Some entry.1 else found

-- what an operation gives for the field with that number: a value, null, or nothing; the last, if it gives two
abbrev pub given_for : Op → ℕ → Option (Option Value)
given_for op number = fold (later number) None op.fields

-- what the entity's field with that number holds where it would be null
abbrev pub preset_at : Entity → ℕ → Option Value
preset_at entity number = option_and_then preset_of (field_at entity number)

-- the row has each field once
abbrev pub HasFieldsOnce : Row → Type 0
HasFieldsOnce row = Ascends nat_cmp field_number row.fields

-- the row that was, with what the operation gives
pub record TakesWhatIsGiven (op : Op) (before after : Row) : Type 0 where
  -- a field that was given a value has it
  pub value : (number : ℕ) (value : Value) → given_for op number ≡ Some (Some value) → field_of after number ≡ Some value
  -- one that was given null has its preset, or nothing
  pub null : HasFieldsOnce before → (number : ℕ) → given_for op number ≡ Some None → field_of after number ≡ preset_at after.key.entity number
  -- any other is as before, or has its preset if it was null
  pub other : (number : ℕ) → given_for op number ≡ None → field_of after number ≡ option_or (field_of before number) (preset_at after.key.entity number)
  -- each field stands once, by rising numbers
  pub once : HasFieldsOnce before → HasFieldsOnce after
  pub key : after.key ≡ before.key
  pub ops : after.ops ≡ before.ops

-- so does the row that an upsert makes of another
abbrev pub RowsTakeWhatIsGiven : Type 0
RowsTakeWhatIsGiven = (op : Op) (row : Row) → TakesWhatIsGiven op row (given_to row op)

-- the rows at all other places
abbrev pub elsewhere : Key → List Row → List Row
elsewhere key rows = filter (λ row. not (stands_at key row)) rows

-- the row keeps to each rule that an upsert is tried against: `before` is what stood at its place, `rows` are the rows with it,
-- and so many rows of an entity aren't among them
pub record KeepsTheRules (op : Op) (before : Option Row) (row : Row) (rows : List Row) (hidden : Entity → ℕ) : Type 0 where
  -- a fixed field of a row that was there is as it was, also if it was null
  pub fixed : (was : Row) → before ≡ Some was → (field : FieldInfo) → IsIn field (fields_of row.key.entity) → field.marks.fixed ≡ true → field_of row field.number ≡ field_of was field.number
  -- no required field is null
  pub required : (field : FieldInfo) → IsIn field (fields_of row.key.entity) → field.marks.required ≡ true → is_some (field_of row field.number) ≡ true
  -- what a given reference names is there,
  pub met : (reference : Reference) → IsIn reference REFERENCES → is_entity reference.entity row.key.entity ≡ true → gives_part op reference.part ≡ true → is_met reference rows row ≡ true
  -- and a node that it names is of the row's tree
  pub of_tree : (reference : Reference) → IsIn reference REFERENCES → is_entity reference.entity row.key.entity ≡ true → gives_part op reference.part ≡ true → is_of_tree reference rows row ≡ true
  -- no other row has the same unique fields
  pub single : (other : Row) → IsIn other rows → is_twin row other ≡ false
  -- if a parent is given, the row isn't below itself,
  pub acyclic : gives_parent op ≡ true → is_below REFERENCES rows row row ≡ false
  -- and neither it nor a row below it stands lower than it may
  pub shallow : gives_parent op ≡ true → (other : Row) → IsIn other rows → (stands_at row.key other || is_below REFERENCES rows row other) ≡ true → is_deep REFERENCES LEVEL_LIMITS rows other ≡ false
  -- there aren't more rows of its entity than there may be,
  pub bounded : count_of hidden rows row.key.entity ≤ MOST_ROWS
  -- nor more of its owner
  pub few : (limit : OwnerLimit) → IsIn limit OWNER_LIMITS → is_entity limit.entity row.key.entity ≡ true → count_by (is_of_owner limit row) rows ≤ limit.most

-- after an upsert at the place: the row that stood there, or one without fields, has what is given, and keeps to the rules; the
-- rows at all other places are as before, and each place stands once if it did
pub record UpsertLeaves (hidden : Entity → ℕ) (key : Key) (op : Op) (before after : List Row) : Type 0 where
  pub row : Row
  pub is_there : row_in after key ≡ Some row
  pub given : TakesWhatIsGiven op (unwrap_or (row_in before key) (bare_row key)) row
  pub unbroken : KeepsTheRules op (row_in before key) row after hidden
  pub others : elsewhere key after ≡ elsewhere key before
  pub in_order : IsInPlaceOrder before → IsInPlaceOrder after

-- ---- deletes

-- the rows that a delete takes out: the least set that has the row at the place, and with each row all that refer to it by
-- references that cascade
abbrev pub AreLost : List Row → Key → (Row → Bool) → Type 0
AreLost rows key lost = IsLeastClosed (falls_with REFERENCES) rows (stands_at key) lost

-- the row's field with that number names a lost row, by a reference that may be emptied
pub record NamesLost (rows : List Row) (lost : Row → Bool) (row : Row) (number : ℕ) : Type 0 where
  pub reference : Reference
  pub is_in : IsIn reference REFERENCES
  pub may_be_emptied : sets_null reference.on_delete ≡ true
  pub part : reference.part ≡ P.Field number
  pub other : Row
  pub was : IsIn other rows
  pub goes : lost other ≡ true
  pub names : ties reference row other ≡ true

-- a row that stays: of its fields just those are gone that name a lost row, by references that may be emptied
pub record LosesWhatIsLost (rows : List Row) (lost : Row → Bool) (before after : Row) : Type 0 where
  pub stays : ℕ → Bool
  pub fields : after.fields ≡ filter (λ field. stays field.0) before.fields
  pub only : (number : ℕ) → stays number ≡ false → NamesLost rows lost before number
  pub all : (number : ℕ) → NamesLost rows lost before number → stays number ≡ false
  pub key : after.key ≡ before.key
  pub ops : after.ops ≡ before.ops

-- the lists are as long, and what stands at one place in both fits
abbrev pub ArePaired : {X : Type 0} → (X → X → Type 0) → List X → List X → Type 0
ArePaired Fits [] [] = Unit {0}
ArePaired Fits [] (y ∷ ys) = ⊥
ArePaired Fits (x ∷ xs) [] = ⊥
ArePaired Fits (x ∷ xs) (y ∷ ys) = Fits x y × ArePaired Fits xs ys

-- after a delete at the place: a row was there, unless the delete is replayed; just the rows that aren't lost stay, and none of
-- them held back a lost one
pub record DeleteLeaves (key : Key) (replay : Bool) (before after : List Row) : Type 0 where
  pub there : replay ≡ false → is_some (row_in before key) ≡ true
  -- where none was, all is as before
  pub missing : row_in before key ≡ None → after ≡ before
  pub lost : Row → Bool
  pub are_lost : AreLost before key lost
  pub stay : ArePaired (LosesWhatIsLost before lost) (filter (λ row. not (lost row)) before) after
  pub free : (row other : Row) → IsIn row before → IsIn other before → lost row ≡ false → lost other ≡ true → holds_back REFERENCES row other ≡ false

-- ---- operations

-- what an operation of that kind, on a view, leaves of its rows
abbrev pub Leaves : OpKind → View → Op → Bool → List Row → Type 0
Leaves Upsert view op replay after = UpsertLeaves view.hidden (place view op) op view.rows after
Leaves Delete view op replay after = DeleteLeaves (place view op) replay view.rows after
