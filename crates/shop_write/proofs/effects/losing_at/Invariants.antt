use Rattle.std.proofs.Common.{◌≡◌, take}
use Rattle.std.specs.Prelude.{filter}
use Rattle.shop_defs.specs.declared.table.TheConstants.{REFERENCES}
use Rattle.shop_write.specs.Deleting.{is_losing_at}
use Rattle.shop_write.proofs.effects.losing_at.Given as goal

abbrev pub invariant-loop-place : goal.invariant-loop-place
invariant-loop-place g l = l.losing.items ≡ filter (is_losing_at REFERENCES (g.V.View.seen l.view).rows (g.V.View.seen l.view).version l.lost) (take l.place-index l.places)
