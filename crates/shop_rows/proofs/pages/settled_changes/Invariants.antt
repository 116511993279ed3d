use Rattle.std.proofs.Common.{◌≡◌, [], map, take}
use Rattle.std.specs.List.{fold}
use Rattle.keyed.specs.Keyed.{put}
use Rattle.shop_defs.specs.Keys.{key_cmp}
use Rattle.shop_defs.specs.Joined.{change_key}
use Rattle.shop_rows.specs.Paging.{read_change, own_change}
use Rattle.shop_rows.proofs.pages.settled_changes.Given as goal

abbrev pub invariant-loop-change : goal.invariant-loop-change
invariant-loop-change l = map read_change l.settled.list ≡ fold (put key_cmp change_key) [] (map own_change (map read_change (take l.change-index l.changes)))
