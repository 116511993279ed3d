use Rattle.std.proofs.Common.{◌≡◌, ◌++◌, drop}
use Rattle.std.specs.Prelude.{map}
use Rattle.shop_defs.specs.Rows.{row_key}
use Rattle.shop_operations.specs.References.{of_version}
use Rattle.shop_version.specs.Taking.{parts, of_member}
use Rattle.shop_version.proofs.drafts.keys_by.Given as goal

abbrev pub invariant-loop-member : goal.invariant-loop-member
invariant-loop-member l = l.keys.items ++ map row_key (parts of_member (drop l.member-index l.members) (of_version l.version l.rows.list)) ≡ map row_key (parts of_member l.members (of_version l.version l.rows.list))
