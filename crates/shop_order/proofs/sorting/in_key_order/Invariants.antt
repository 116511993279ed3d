use Rattle.std.proofs.Common.{◌≡◌, []}
use Rattle.shop_defs.specs.Joined.{add_changes}
use Rattle.shop_order.proofs.sorting.in_key_order.Given as goal

abbrev pub invariant-loop-change : goal.invariant-loop-change
invariant-loop-change l = add_changes [] l.yielded ≡ l.all.list
