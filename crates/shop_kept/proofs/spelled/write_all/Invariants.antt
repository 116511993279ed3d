use Rattle.std.proofs.Common.{◌≡◌, ◌++◌, take}
use Rattle.std.specs.List.{flat_map, AllByRecursion}
use Rattle.shop_kept.proofs.spelled.write_all.Given as goal

abbrev pub invariant-loop-item : goal.invariant-loop-item
invariant-loop-item g l = (l.out.items ≡ l.initial.out.items ++ flat_map g.T.Spelled.spelled (take l.item-index l.items)) × AllByRecursion g.T.Spelled.is_kept (take l.item-index l.items)
