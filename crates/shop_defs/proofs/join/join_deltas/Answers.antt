use Rattle.std.proofs.Common.{arith, ◌≡◌, sym, subst}
use Rattle.std.proofs.lemmas.Grind.{common_steps}
use Rattle.keyed.specs.Keyed.{Ascends}
use Rattle.shop_defs.specs.Keys.{key_cmp}
use Rattle.shop_defs.specs.Joined.{joined, change_key}
use Rattle.shop_defs.proofs.LastChanges.{joined_has_last}
use Rattle.shop_defs.proofs.join.join_deltas.Goals as goal

pub returns-clause-ascends : goal.returns-clause-ascends
returns-clause-ascends c = subst (Ascends key_cmp change_key) (sym c.from_vec.ensures) c.into_vec.ensures.ascends

pub returns-clause-last : goal.returns-clause-last
returns-clause-last c =
    let value : c.from_vec.result ≡ joined c.args.deltas.now = grind (arith, common_steps) in
    λ key. rw value (joined_has_last c.args.deltas.now key)
