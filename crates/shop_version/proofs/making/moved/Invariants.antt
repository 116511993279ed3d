use Rattle.std.proofs.Common.{◌≡◌}
use Rattle.std.specs.Prelude.{map}
use Rattle.shop_drafts.specs.Making.{at_version}
use Rattle.shop_version.proofs.making.moved.Given as goal

abbrev pub invariant-loop-part : goal.invariant-loop-part
invariant-loop-part l = l.moved.items ≡ map (at_version l.version) l.yielded
