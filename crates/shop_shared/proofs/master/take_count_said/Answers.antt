use Rattle.std.proofs.Common.{◌≤◌, sym, subst, ℕ, arith}
use Rattle.shop_shared.specs.Views.{master_of}
use Rattle.shop_shared.proofs.Asks.{fault_as}
use Rattle.shop_shared.proofs.master.take_count_said.Goals as goal

pub fetch_add-requires : goal.fetch_add-requires
fetch_add-requires g c =
    let s = c.requires.seat in
    (s.0, omega arith, fault_as _ _ _ _ _ s.2 s.3 (subst (λ (n : ℕ). (master_of c.args.seat.now.me.0).faults ≤ n) (sym c.requires.said) c.requires.count))
