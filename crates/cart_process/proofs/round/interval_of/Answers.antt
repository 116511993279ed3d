use Rattle.std.proofs.Common.{w64, rules}
use Rattle.std.specs.Prelude.{FitsSigned}
use Rattle.std.proofs.lemmas.Int.{to_z-of_z}
use Rattle.cart_process.proofs.Bounds.{interval-within}
use Rattle.cart_process.proofs.round.interval_of.Goals as goal

pub returns-clause-interval : goal.returns-clause-interval
returns-clause-interval c =
    let fits : FitsSigned w64 c.unwrap_or.result = search rules in
    rw (to_z-of_z w64 c.unwrap_or.result fits, c.unwrap_or.ensures, c.int_at.ensures.value) (interval-within c.args.cart.now c.requires)
