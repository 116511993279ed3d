use Rattle.std.proofs.Common.{◌≡◌, ◌++◌, drop}
use Rattle.std.specs.Prelude.{map}
use Rattle.shop_defs.specs.Rows.{row_key}
use Rattle.shop_operations.specs.References.{live}
use Rattle.shop_drafts.specs.Aggregates.{is_member}
use Rattle.shop_version.specs.Taking.{parts}
use Rattle.shop_version.proofs.making.part_keys.Given as goal

abbrev pub invariant-loop-member : goal.invariant-loop-member
invariant-loop-member l = l.keys.items ++ map row_key (parts (is_member l.root) (drop l.member-index l.members) (live l.rows.list)) ≡ map row_key (parts (is_member l.root) l.members (live l.rows.list))
