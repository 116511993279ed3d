use Rattle.std.proofs.Common.{◌≡◌}
use Rattle.shop_defs.specs.declared.table.TheConstants.{REFERENCES}
use Rattle.shop_operations.specs.Parents.{is_past}
use Rattle.shop_operations.specs.References.{live}
use Rattle.shop_check.proofs.among.is_past.Given as goal

abbrev pub invariant-loop-left : goal.invariant-loop-left
invariant-loop-left g l = is_past REFERENCES (live (g.O.Others.rows l.others)) l.left l.at ≡ is_past REFERENCES (live (g.O.Others.rows l.others)) l.level l.row

abbrev pub decreases-loop-left : goal.decreases-loop-left
decreases-loop-left g l = l.left
