use Rattle.std.proofs.Common.{◌≡◌, true, take}
use Rattle.shop_defs.specs.declared.row.Row.{Row}
use Rattle.shop_defs.specs.declared.table.TheConstants.{REFERENCES}
use Rattle.closure.specs.Closure.{IsIn}
use Rattle.shop_write.specs.Searching.{IsSpread, IsNoted, refers_to}
use Rattle.shop_write.proofs.worklist.spread.Given as goal

abbrev pub invariant-loop-at : goal.invariant-loop-at
invariant-loop-at g l = record {
  spread : IsSpread REFERENCES (g.V.View.seen l.view).rows l.key l.initial.search l.search;
  visited : (row : Row) → IsIn row (g.V.View.seen l.view).rows → IsIn row.key (take l.at-index l.at-items) → refers_to REFERENCES l.key row ≡ true → IsNoted REFERENCES l.key l.search row;
}
