use Rattle.std.proofs.Common.{map}
use Rattle.shop_core.specs.Seeing.{is_of}
use Rattle.shop_core.proofs.Listed.{AreListed}
use Rattle.shop_core.proofs.read.first_live.Given as goal

abbrev pub invariant-loop-row : goal.invariant-loop-row
invariant-loop-row l = AreListed (is_of l.entity) l.initial.rest (map (λ row. row.now) l.listed.items) l.rest
