-- The rows that belong to an owner.
use Rattle.std.specs.Prelude.{ℕ, Bool, ◌&&◌, List, count_by}
use Rattle.shop_defs.specs.declared.row.Row.{Row}
use Rattle.shop_defs.specs.declared.table.OwnerLimit.{OwnerLimit}
use Rattle.shop_operations.specs.References.{is_entity, is_id, part_of}

-- the row is of the limit's entity and belongs to the owner with that id
abbrev pub belongs : OwnerLimit → ℕ → Row → Bool
belongs limit owner row = is_entity limit.entity row.key.entity && is_id (part_of limit.owner row) owner

-- how many rows belong to the owner with that id
abbrev pub count_owned : OwnerLimit → List Row → ℕ → ℕ
count_owned limit rows owner = count_by (belongs limit owner) rows
