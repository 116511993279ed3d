use Rattle.std.proofs.Common.{◌≡◌, arith, refl}
use Rattle.std.specs.Vec.Iter.{into_iter_items}
use Rattle.std.proofs.lemmas.Grind.{common_steps}
use Rattle.shop_outside.proofs.Unchanged.{all_change}
use Rattle.shop_outside.proofs.bodies.change_all_by_scan.Goals as goal

pub loop-key-init : goal.loop-key-init
loop-key-init c =
    let all : into_iter_items c.into_iter-key-iterator.result ≡ c.args.changes.items = grind (arith, common_steps) in
    record {
      bytes = λ q. refl;
      others = refl;
      rest = rw all (all_change c.args.changes.items);
      room = rw all c.requires;
    }
