-- The fields of an entity in the order of the bytes of their names.
use Rattle.std.specs.Prelude.{ℕ, List, [], ◌∷◌, ◌++◌, slice_get}
use Rattle.std.specs.List.{fold}
use Rattle.std.specs.Option.{option_to_list}
use Rattle.std.specs.Ordering.{nat_cmp}
use Rattle.std.specs.Cmp.Lexicographic.{slice_cmp}
use Rattle.keyed.specs.Keyed.{put}
use Rattle.shop_defs.specs.declared.entity.Entity.{Entity}
use Rattle.shop_defs.specs.declared.table.FieldInfo.{FieldInfo}
use Rattle.shop_defs.specs.Tables.{fields_of}
use Rattle.shop_defs.specs.Texts.{field_text}

-- fields in the order of the bytes of their names
abbrev pub by_name : List FieldInfo → List FieldInfo
by_name fields = fold (put (slice_cmp nat_cmp) (λ field. field_text field.name)) [] fields

unfoldable pub fields_by_name : Entity → List FieldInfo
fields_by_name entity = by_name (fields_of entity)

-- the fields at these places of a table, counted from 0; for a private clause
abbrev pub fields_at : List FieldInfo → List ℕ → List FieldInfo
fields_at table [] = []
fields_at table (place ∷ rest) = option_to_list (slice_get table place) ++ fields_at table rest
