-- Values that a product has of its own or inherits from its parent.
use Rattle.std.specs.Prelude.{ℕ, Bool, false, Option, None, if◌then◌else◌, option_and_then}
use Rattle.std.specs.Option.{option_map_or, option_or}
use Rattle.shop_defs.specs.declared.entity.Entity.{Entity}
use Rattle.shop_defs.specs.declared.row.Row.{Row}
use Rattle.shop_defs.specs.declared.value.Value.{Value}
use Rattle.shop_defs.specs.Rows.{field_of}
use Rattle.shop_defs.specs.Tables.{field_at}

-- the table says that a row of the entity inherits the field
abbrev pub is_inherited : Entity → ℕ → Bool
is_inherited entity field = option_map_or (λ info. info.marks.inherited) (field_at entity field) false

-- what a row of the entity inherits from that parent
abbrev pub inherited : Row → Entity → ℕ → Option Value
inherited parent entity field = if is_inherited entity field then field_of parent field else None

-- the row's own value, and where it has none what it inherits from the parent, if there is one
abbrev pub effective : Row → Option Row → ℕ → Option Value
effective own parent field = option_or (field_of own field) (option_and_then (λ row. inherited row own.key.entity field) parent)
