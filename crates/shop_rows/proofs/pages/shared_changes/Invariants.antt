use Rattle.std.proofs.Common.{◌≡◌, map, take}
use Rattle.shop_rows.specs.Paging.{read_change}
use Rattle.shop_rows.proofs.pages.shared_changes.Given as goal

abbrev pub invariant-loop-key : goal.invariant-loop-key
invariant-loop-key l = map read_change l.shared.items ≡ take l.key-index l.changes
