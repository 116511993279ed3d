-- What a field holds where it would be null, and which fields are never null.
use Rattle.std.specs.Prelude.{Bool, true, false, ◌||◌, Option, Some, None, slice_get}
use Rattle.std.specs.Option.{option_map}
use Rattle.shop_defs.specs.declared.value.Value.{Value}
use Rattle.shop_defs.specs.declared.value.Value.TheVariants as V
use Rattle.shop_defs.specs.declared.table.FieldInfo.{FieldInfo}
use Rattle.shop_defs.specs.declared.table.FieldKind.{FieldKind}
use Rattle.shop_defs.specs.declared.table.FieldKind.TheVariants as K
use Rattle.shop_defs.specs.declared.table.Preset.{Preset}
use Rattle.shop_defs.specs.declared.table.Preset.TheVariants as D
use Rattle.shop_defs.specs.Texts.{choice_texts}

-- there is a preset
abbrev pub is_there : Preset → Bool
is_there D.Absent = false
is_there preset = true

-- the field is never null: it is required, or has a preset
abbrev pub is_needed : FieldInfo → Bool
is_needed field = field.marks.required || is_there field.preset

-- a preset as a value of the kind: the first word is one of a choice
abbrev pub preset_in : FieldKind → Preset → Option Value
preset_in kind D.Absent = None
preset_in kind (D.Flag flag) = Some (V.Flag flag)
preset_in kind (D.Int number) = Some (V.Int number)
preset_in (K.Choice choice) D.FirstWord = option_map V.Text (slice_get (choice_texts choice) 0)
preset_in kind D.FirstWord = None

-- what the field holds where it would be null
abbrev pub preset_of : FieldInfo → Option Value
preset_of field = preset_in field.kind field.preset
