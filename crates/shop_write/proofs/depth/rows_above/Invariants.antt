use Rattle.std.proofs.Common.{◌≡◌, ◌+◌, ◌-◌, length}
use Rattle.std.specs.Option.{option_copied}
use Rattle.shop_defs.specs.declared.table.TheConstants.{REFERENCES}
use Rattle.shop_operations.specs.Parents.{walk, parent_row}
use Rattle.shop_operations.specs.Upserts.{with_row}
use Rattle.shop_write.proofs.depth.rows_above.Given as goal

abbrev pub invariant-loop-count : goal.invariant-loop-count
invariant-loop-count g l = l.count + length (walk REFERENCES (with_row (g.V.View.seen l.view).rows l.row) (l.most - l.count) (option_copied l.at)) ≡ length (walk REFERENCES (with_row (g.V.View.seen l.view).rows l.row) l.most (parent_row REFERENCES (with_row (g.V.View.seen l.view).rows l.row) l.row))
