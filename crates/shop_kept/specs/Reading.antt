-- How a row is read from bytes. It need not be believed: `Laws.antt` says that it reads the spellings of rows and nothing else.
use Rattle.std.specs.Prelude.{◌==◌, ◌<◌, ℕ, zero, suc, true, false, List, [], ◌∷◌, Option, Some, None, if◌then◌else◌}
use Rattle.std.specs.Int.{w32, w64, w128, cast_signed}
use Rattle.std.specs.List.{find}
use Rattle.std.specs.Option.{option_map}
use Rattle.shop_defs.specs.declared.entity.Entity.{Entity}
use Rattle.shop_defs.specs.declared.table.EntityInfo.{EntityInfo}
use Rattle.shop_defs.specs.declared.table.TheConstants.{ENTITIES}
use Rattle.shop_defs.specs.Entities.{entity_number}
use Rattle.shop_defs.specs.declared.key.Key.{Key}
use Rattle.shop_defs.specs.declared.row.Row.{Row}
use Rattle.shop_defs.specs.declared.op.Op.{Op}
use Rattle.shop_defs.specs.declared.op.OpKind.{OpKind}
use Rattle.shop_defs.specs.declared.op.OpKind.TheVariants.{Upsert, Delete}
use Rattle.shop_defs.specs.declared.value.Value.{Value}
use Rattle.shop_defs.specs.declared.value.Value.TheVariants as V
use Rattle.shop_kept.specs.Readers.{Reader, ◌>>=◌, byte_at, number_at, text_at, pair_at, as_at, such_at, choice_at, counted_at, count_said, whole}
use Rattle.shop_kept.specs.Spelling.{rises}

abbrev pub value_at : Reader Value
value_at [] = None
value_at (zero ∷ rest) = Some (V.Flag false, rest)
value_at (suc zero ∷ rest) = Some (V.Flag true, rest)
value_at (suc (suc zero) ∷ rest) = number_at w64 rest >>= λ n. Some (V.Int (cast_signed w64 n.0), n.1)
value_at (suc (suc (suc zero)) ∷ rest) = text_at rest >>= λ t. Some (V.Text t.0, t.1)
value_at (suc (suc (suc (suc zero))) ∷ rest) = number_at w128 rest >>= λ n. Some (V.Ident n.0, n.1)
value_at (suc (suc (suc (suc (suc tag)))) ∷ rest) = None

unfoldable pub given_at : Reader (Option Value)
given_at [] = None
given_at (tag ∷ rest) = if tag == 5 then Some (None, rest) else (value_at (tag ∷ rest) >>= λ v. Some (Some v.0, v.1))

abbrev pub field_at : {X : Type 0} → Reader X → Reader (ℕ × X)
field_at read = pair_at byte_at read

-- a count, and that many fields with numbers that ascend
abbrev pub fields_at : {X : Type 0} → Reader X → Reader (List (ℕ × X))
fields_at read = such_at (rises 0) (counted_at byte_at (field_at read))

abbrev pub kind_numbered : ℕ → Option OpKind
kind_numbered zero = None
kind_numbered (suc zero) = Some Upsert
kind_numbered (suc (suc zero)) = Some Delete
kind_numbered (suc (suc (suc number))) = None

abbrev pub kind_at : Reader OpKind
kind_at = choice_at kind_numbered byte_at

-- the line of the table on the entity with that number
abbrev pub info_in : List EntityInfo → ℕ → Option EntityInfo
info_in table number = find (λ info. entity_number info.entity == number) table

unfoldable pub entity_numbered : ℕ → Option Entity
entity_numbered number = option_map (λ info. info.entity) (info_in ENTITIES number)

abbrev pub entity_at : Reader Entity
entity_at = choice_at entity_numbered byte_at

abbrev pub OpParts : Type 0
OpParts = OpKind × (Entity × (ℕ × (ℕ × List (ℕ × Option Value))))

abbrev pub op_of : OpParts → Op
op_of parts = record { kind = parts.0; entity = parts.1.0; id = parts.1.1.0; second = parts.1.1.1.0; fields = parts.1.1.1.1 }

unfoldable pub op_at : Reader Op
op_at = as_at op_of (pair_at kind_at (pair_at entity_at (pair_at (number_at w128) (pair_at (number_at w128) (fields_at given_at)))))

abbrev pub ops_at : Reader (List Op)
ops_at = counted_at (number_at w32) op_at

abbrev pub body_at : Reader (List (ℕ × Value) × List Op)
body_at = pair_at (fields_at value_at) ops_at

-- the fields and the operations that the bytes spell, all of the bytes
unfoldable pub row_parts : List ℕ → Option (List (ℕ × Value) × List Op)
row_parts [] = None
row_parts (zero ∷ bytes) = None
row_parts (suc zero ∷ bytes) = whole body_at bytes
row_parts (suc (suc format) ∷ bytes) = None

-- the bytes begin with the number of the format and count a field or, without fields, an operation
abbrev pub CountParts : List ℕ → Type 0
CountParts [] = ⊥
CountParts (zero ∷ bytes) = ⊥
CountParts (suc zero ∷ []) = ⊥
CountParts (suc zero ∷ zero ∷ bytes) = 0 < count_said (number_at w32) bytes
CountParts (suc zero ∷ suc fields ∷ bytes) = Unit {0}
CountParts (suc (suc format) ∷ bytes) = ⊥

-- the row of that key that the bytes spell
abbrev pub read_kept : Key → List ℕ → Option Row
read_kept key bytes = row_parts bytes >>= λ parts. Some (record { key = key; fields = parts.0; ops = parts.1 })
