use Rattle.std.proofs.Common.{◌≡◌, ◌&&◌, length}
use Rattle.std.specs.List.{list_any}
use Rattle.shop_defs.specs.declared.table.TheConstants.{REFERENCES}
use Rattle.shop_operations.specs.Parents.{is_past}
use Rattle.shop_operations.specs.References.{is_entity, live}
use Rattle.shop_check.proofs.among.is_deep.Given as goal

abbrev pub invariant-loop-rest : goal.invariant-loop-rest
invariant-loop-rest g l =
    list_any (λ limit. is_entity limit.entity l.row.key.entity && is_past REFERENCES (live (g.O.Others.rows l.others)) limit.most l.row) l.rest
    ≡ list_any (λ limit. is_entity limit.entity l.row.key.entity && is_past REFERENCES (live (g.O.Others.rows l.others)) limit.most l.row) l.limits

abbrev pub decreases-loop-rest : goal.decreases-loop-rest
decreases-loop-rest g l = length l.rest
