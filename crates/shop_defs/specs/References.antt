-- References, as refusals name them and as a delete looks at them.
use Rattle.std.specs.Prelude.{ℕ, Bool, true, false, List, codes, Option, Some}
use Rattle.std.specs.Option.{option_map}
use Rattle.shop_defs.specs.declared.entity.Entity.{Entity}
use Rattle.shop_defs.specs.declared.table.Part.{Part}
use Rattle.shop_defs.specs.declared.table.Part.TheVariants as P
use Rattle.shop_defs.specs.declared.table.OnDelete.{OnDelete}
use Rattle.shop_defs.specs.declared.table.OnDelete.TheVariants as O
use Rattle.shop_defs.specs.declared.table.Reference.{Reference}
use Rattle.shop_defs.specs.Texts.{field_text}
use Rattle.shop_defs.specs.Tables.{field_at}

-- the name of a part of the entity's rows: none of a field that it hasn't
abbrev pub part_name : Entity → Part → Option (List ℕ)
part_name entity P.Id = Some (codes "id")
part_name entity P.Second = Some (codes "second")
part_name entity (P.Field number) = option_map (λ field. field_text field.name) (field_at entity number)

abbrev pub may_go : OnDelete → Bool
may_go O.NeverDeleted = false
may_go other = true

-- a delete of the row referred to looks at the reference: all but those whose rows are never deleted
abbrev pub acts_on_delete : Reference → Bool
acts_on_delete reference = may_go reference.on_delete
