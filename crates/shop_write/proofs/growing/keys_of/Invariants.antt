use Rattle.std.proofs.Common.{◌≡◌, ◌++◌}
use Rattle.std.specs.Prelude.{map}
use Rattle.shop_defs.specs.Rows.{row_key}
use Rattle.shop_write.proofs.growing.keys_of.Given as goal

abbrev pub invariant-loop-row : goal.invariant-loop-row
invariant-loop-row l = l.keys.items ++ map row_key l.rows ≡ map row_key l.initial.rows
