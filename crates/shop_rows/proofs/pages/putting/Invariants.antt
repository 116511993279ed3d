use Rattle.std.proofs.Common.{◌≡◌, ◌++◌, map}
use Rattle.std.specs.Vec.Iter.{into_iter_items}
use Rattle.shop_rows.specs.Paging.{read_change, put_in}
use Rattle.shop_rows.proofs.pages.putting.Given as goal

abbrev pub invariant-loop-row : goal.invariant-loop-row
invariant-loop-row l = map read_change l.changes.items ++ map put_in (into_iter_items l.row-iterator) ≡ map put_in (into_iter_items l.initial.row-iterator)
