-- What a delete does to the rows that it touches, by the places of those that go.
use Rattle.std.specs.Prelude.{◌≡◌, ◌⊎◌, ℕ, Bool, true, false, not, ◌&&◌, List, [], ◌∷◌, map, filter, Option, Some, None, Result, Ok, Err, if◌then◌else◌}
use Rattle.std.specs.List.{list_any, AllByRecursion}
use Rattle.closure.specs.Closure.{IsIn}
use Rattle.keyed.specs.Keyed.{put}
use Rattle.shop_defs.specs.declared.broken.Broken.{Broken}
use Rattle.shop_defs.specs.declared.broken.Broken.TheVariants as B
use Rattle.shop_defs.specs.declared.delta.Delta.{Delta}
use Rattle.shop_defs.specs.declared.entity.Entity.{Entity}
use Rattle.shop_defs.specs.declared.key.Key.{Key}
use Rattle.shop_defs.specs.declared.refused.PlanFault.{PlanFault}
use Rattle.shop_defs.specs.declared.refused.PlanFault.TheVariants as F
use Rattle.shop_defs.specs.declared.row.Row.{Row}
use Rattle.shop_defs.specs.declared.table.Reference.{Reference}
use Rattle.shop_defs.specs.Joined.{Change, change_key}
use Rattle.shop_defs.specs.Keys.{key_cmp}
use Rattle.shop_operations.specs.References.{named, restricts, sets_null}
use Rattle.shop_operations.specs.Deletes.{is_field, deleted, in_use}
use Rattle.shop_operations.specs.Operations.{unless, in_use_by}
use Rattle.shop_operations.specs.Upserts.{row_in}
use Rattle.shop_operations.specs.Views.{View, change_places}
use Rattle.shop_rows.specs.Changing.{StandUnderTheirKeys, HasAscendingKeys}
use Rattle.shop_write.specs.declared.place.Place.{Place}
use Rattle.shop_write.specs.Places.{key_at, stands_among, has_id}
use Rattle.shop_write.specs.Planning.{IsOfView}

-- ---- one row

-- one of the places is of the entity and has the id, if one is named
abbrev pub has_named : List Place → Entity → Option ℕ → Bool
has_named lost of None = false
has_named lost of (Some id) = has_id lost of id

-- by the reference the row names one that stands at one of the places
abbrev pub names_lost : List Place → Row → Reference → Bool
names_lost lost row reference = has_named lost reference.of (named reference row)

-- the row holds back one that stands at one of the places
unfoldable pub holds_lost : List Reference → List Place → Row → Bool
holds_lost table lost row = list_any (λ reference. restricts reference.on_delete && names_lost lost row reference) table

-- the row's field is emptied where those at the places go
unfoldable pub empties : List Reference → List Place → Row → ℕ → Bool
empties table lost row number = list_any (λ reference. sets_null reference.on_delete && is_field reference.part number && names_lost lost row reference) table

-- one of the row's fields is emptied
abbrev pub loses : List Reference → List Place → Row → Bool
loses table lost row = list_any (λ entry. empties table lost row entry.0) row.fields

-- the row without the fields that are emptied
abbrev pub without_lost : List Reference → List Place → Row → Row
without_lost table lost row = record row { fields = filter (λ entry. not (empties table lost row entry.0)) row.fields }

-- what is left of a row where those at the places go
abbrev pub rest_of : List Reference → List Place → Row → Option Row
rest_of table lost row = if stands_among lost row then None else Some (without_lost table lost row)

-- ---- the row that holds a delete back

abbrev pub or_first : {X : Type 0} → Option X → Option X → Option X
or_first None later = later
or_first (Some x) later = Some x

-- the first that the function gives
abbrev pub first_of : {X Y : Type 0} → (X → Option Y) → List X → Option Y
first_of f [] = None
first_of f (x ∷ xs) = or_first (f x) (first_of f xs)

-- the key of the row, if there is one that stays and holds back one that goes
abbrev pub holder : List Reference → List Place → Option Row → Option Key
holder table lost None = None
holder table lost (Some row) = if not (stands_among lost row) && holds_lost table lost row then Some row.key else None

-- the key of such a row at the place
abbrev pub holder_at : List Reference → List Row → ℕ → List Place → Place → Option Key
holder_at table rows version lost place = holder table lost (row_in rows (key_at version place))

-- ---- the rows that lose a field

-- the row stays and loses a field
abbrev pub is_losing : List Reference → List Place → Option Row → Bool
is_losing table lost None = false
is_losing table lost (Some row) = not (stands_among lost row) && loses table lost row

-- such a row stands at the place
abbrev pub is_losing_at : List Reference → List Row → ℕ → List Place → Place → Bool
is_losing_at table rows version lost place = is_losing table lost (row_in rows (key_at version place))

-- ---- changes

-- the change that leaves of a row what the function gives
abbrev pub change_to : (Row → Option Row) → Row → Change
change_to rest row = (row.key, rest row)

-- the change of a row was put, or nothing is to be changed of it
pub data PutsChange (rest : Row → Option Row) (row : Row) (before after : List Change) : Type 0 where
  changed : after ≡ put key_cmp change_key before (change_to rest row) → PutsChange rest row before after
  same : rest row ≡ Some row → after ≡ before → PutsChange rest row before after

-- each change is that of a row
abbrev pub AreChangesOf : (Row → Option Row) → List Row → List Change → Type 0
AreChangesOf rest rows changes = (change : Change) → IsIn change changes → IsIn change (map (change_to rest) rows)

-- nothing is to be changed of the row, or its change is among these
abbrev pub IsCovered : (Row → Option Row) → List Change → Row → Type 0
IsCovered rest changes row = (rest row ≡ Some row) ⊎ IsIn (change_to rest row) changes

-- changes of rows were put
pub record IsPut (rest : Row → Option Row) (rows : List Row) (before after : List Change) : Type 0 where
  pub of_rows : AreChangesOf rest rows before → AreChangesOf rest rows after
  pub keeps : (row : Row) → IsIn row rows → IsCovered rest before row → IsCovered rest after row

-- ---- plans

-- the changes lead from the view to that outcome
pub record Reaches (view : View) (outcome : Result (List Row) Broken) (changes : List Change) : Type 0 where
  pub rows : outcome ≡ Ok (change_places view.rows changes)
  pub ascends : HasAscendingKeys changes
  pub stand : StandUnderTheirKeys changes
  pub keys : AllByRecursion (λ change. IsOfView view change.0) changes

-- the fault is want of memory, or names the rule of that outcome
abbrev pub IsFaultOf : Result (List Row) Broken → PlanFault → Type 0
IsFaultOf outcome F.NoMemory = Unit {0}
IsFaultOf outcome (F.Refused refused) = (refused.op ≡ 0) × (outcome ≡ Err refused.broken)

-- the answer plans the outcome, or says why there is none
abbrev pub Plans : View → Result (List Row) Broken → Result Delta PlanFault → Type 0
Plans view outcome (Ok delta) = Reaches view outcome delta.changes
Plans view outcome (Err fault) = IsFaultOf outcome fault

-- the rows that a delete of a row that is there leaves, or the row that holds it back
abbrev pub removal : List Reference → List Row → Key → Result (List Row) Broken
removal table rows key = unless (deleted table rows key) (in_use_by (in_use table rows key))

-- no change, if a delete of a row that isn't there is replayed, and else its refusal
abbrev pub Misses : Key → Bool → Result Delta PlanFault → Type 0
Misses key replay (Ok delta) = (replay ≡ true) × (delta.changes ≡ [])
Misses key replay (Err fault) = (replay ≡ false) × (fault ≡ F.Refused (record { op = 0; broken = B.NoSuchRow key }))
