use Rattle.std.proofs.Common.{◌≡◌, true, take}
use Rattle.closure.specs.Closure.{IsIn}
use Rattle.shop_defs.specs.declared.row.Row.{Row}
use Rattle.shop_defs.specs.declared.table.TheConstants.{REFERENCES}
use Rattle.shop_write.specs.Places.{stands_among}
use Rattle.shop_write.specs.Deleting.{rest_of, IsPut, IsCovered}
use Rattle.shop_write.proofs.delete.put_changes.Given as goal

abbrev pub invariant-loop-place : goal.invariant-loop-place
invariant-loop-place g l = record {
  put : IsPut (rest_of REFERENCES l.lost) (g.V.View.seen l.view).rows l.initial.changes.list l.changes.list;
  covered : (row : Row) → IsIn row (g.V.View.seen l.view).rows → stands_among (take l.place-index l.places) row ≡ true → IsCovered (rest_of REFERENCES l.lost) l.changes.list row;
}
