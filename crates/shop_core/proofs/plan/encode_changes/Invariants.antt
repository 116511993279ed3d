use Rattle.std.proofs.Common.{◌≡◌, take}
use Rattle.shop_core.specs.Plans.{encoded, AreKeptRows}
use Rattle.shop_core.proofs.plan.encode_changes.Given as goal

abbrev pub invariant-loop-key : goal.invariant-loop-key
invariant-loop-key l = record {
  bytes : l.bytes ≡ encoded (take l.key-index l.changes);
  kept : AreKeptRows (take l.key-index l.changes);
}
