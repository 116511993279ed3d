-- What a draft edits: a product or a category, with the rows that belong to it.
use Rattle.std.specs.Prelude.{Bool, false, ◌&&◌, List, Option, Some, None}
use Rattle.std.specs.List.{list_any}
use Rattle.shop_defs.specs.declared.entity.Entity.{Entity}
use Rattle.shop_defs.specs.declared.row.Row.{Row}
use Rattle.shop_defs.specs.declared.table.EntityInfo.{EntityInfo}
use Rattle.shop_defs.specs.Tables.{info_of}
use Rattle.shop_operations.specs.References.{is_entity, is_id, part_of}
use Rattle.shop_drafts.specs.declared.aggregate.Member.{Member}
use Rattle.shop_drafts.specs.declared.aggregate.Root.{Root}
use Rattle.shop_drafts.specs.declared.aggregate.TheConstants.{MEMBERS}

abbrev pub line_has_versions : Option EntityInfo → Bool
line_has_versions (Some info) = info.has_versions
line_has_versions None = false

-- rows of the entity may stand in versions beside the live one
abbrev pub has_versions : Entity → Bool
has_versions entity = line_has_versions (info_of entity)

-- a draft may be made of rows of the entity
abbrev pub is_root : Entity → Bool
is_root entity = list_any (λ member. is_entity member.root entity) MEMBERS

-- by that line of the table the row is part of what a draft of the root edits
abbrev pub is_member : Root → Row → Member → Bool
is_member root row member = is_entity member.root root.entity && (is_entity member.entity row.key.entity && is_id (part_of member.part row) root.id)

unfoldable pub is_part_by : List Member → Root → Row → Bool
is_part_by members root row = list_any (is_member root row) members

-- the row is part of what a draft of the root edits
abbrev pub is_part : Root → Row → Bool
is_part root row = is_part_by MEMBERS root row
