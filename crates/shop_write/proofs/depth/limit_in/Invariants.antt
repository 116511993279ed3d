use Rattle.std.proofs.Common.{◌≡◌, find, length}
use Rattle.shop_defs.specs.declared.table.LevelLimit.{LevelLimit}
use Rattle.shop_operations.specs.References.{is_entity}
use Rattle.shop_write.proofs.depth.limit_in.Given as goal

abbrev pub invariant-loop-rest : goal.invariant-loop-rest
invariant-loop-rest l = find (λ (limit : LevelLimit). is_entity limit.entity l.entity) l.rest ≡ find (λ (limit : LevelLimit). is_entity limit.entity l.entity) l.limits

abbrev pub decreases-loop-rest : goal.decreases-loop-rest
decreases-loop-rest l = length l.rest
