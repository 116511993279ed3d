-- Rules that the order of the fields keeps, each computed over all entities.
use Rattle.std.proofs.Common.{◌≡◌, true, Bool, List, ◌∷◌, length, refl}
use Rattle.std.specs.Prelude.{◌&&◌, ◌==◌}
use Rattle.std.specs.List.{list_all}
use Rattle.std.specs.Ordering.{nat_cmp, is_lt}
use Rattle.std.specs.Cmp.Lexicographic.{slice_cmp}
use Rattle.shop_defs.specs.declared.table.FieldInfo.{FieldInfo}
use Rattle.shop_defs.specs.declared.table.TheConstants.{ENTITIES}
use Rattle.shop_defs.specs.Tables.{fields_of}
use Rattle.shop_defs.specs.Texts.{field_text}
use Rattle.reply_json.specs.FieldOrder.{fields_by_name}

-- the names ascend by their bytes
abbrev pub names_ascend : List FieldInfo → Bool
names_ascend (field ∷ next ∷ rest) = is_lt (slice_cmp nat_cmp (field_text field.name) (field_text next.name)) && names_ascend (next ∷ rest)
names_ascend fields = true

pub fields_ascend : list_all (λ info. names_ascend (fields_by_name info.entity)) ENTITIES ≡ true
unfolding fields_by_name fields_of
fields_ascend = refl

-- no field is lost
pub fields_stay : list_all (λ info. length (fields_by_name info.entity) == length (fields_of info.entity)) ENTITIES ≡ true
unfolding fields_by_name fields_of
fields_stay = refl
