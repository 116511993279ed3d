use Rattle.std.proofs.Common.{◌≡◌, ℕ, ℤ, pos, ◌≤ℤ◌, arith, rules}
use Rattle.std.specs.Prelude.{sum_by}
use Rattle.std.proofs.lemmas.Int.{ints}
use Rattle.std.proofs.lemmas.List.Elements.{All-from_recursion}
use Rattle.cart_sums.specs.Fits.{Shrinks}
use Rattle.cart_sums.specs.Sums.{bases, left_at, take_shared}
use Rattle.cart_price.specs.LargestRemainder.{shares}
use Rattle.cart_sums.proofs.Shared.{bases-ascend, bases-natural, left-most, less-length, take_shared-shrinks}
use Rattle.cart_sums.proofs.goods.take_shared.Goals as goal

pub share-requires-clause-ascend : goal.share-requires-clause-ascend
share-requires-clause-ascend c =
    rw (c.as_slice-2.ensures.value, c.in_ok-bases.ensures.bases, c.as_slice.ensures) (bases-ascend c.args.sums.now.list c.requires.sums.ascend)

pub share-requires-clause-bases : goal.share-requires-clause-bases
share-requires-clause-bases c =
    rw (c.as_slice-2.ensures.value, c.in_ok-bases.ensures.bases, c.as_slice.ensures) (All-from_recursion (λ (base : ℕ × ℤ). pos 0 ≤ℤ base.1) (bases c.args.sums.now.list) (bases-natural c.args.sums.now.list))

pub overflow_cast-amount : goal.overflow_cast-amount
overflow_cast-amount c = omega (arith, c.requires.within, left-most c.args.sums.now.list c.requires.sums)

pub share-requires-clause-low : goal.share-requires-clause-low
share-requires-clause-low c = omega (arith, ints, c.requires.within, left-most c.args.sums.now.list c.requires.sums)

pub returns-clause-shrinks : goal.returns-clause-shrinks
returns-clause-shrinks c =
    let e : c.from_ascending.result.list ≡ take_shared c.args.state c.args.sums.now.list c.args.amount = search rules in
    rw e (take_shared-shrinks c.args.state c.args.sums.now.list c.args.amount c.requires.sums c.requires.within)

pub from_ascending-requires : goal.from_ascending-requires
from_ascending-requires c =
    let e : c.in_ok-after.after.items ≡ take_shared c.args.state c.args.sums.now.list c.args.amount = search rules in
    let shrinks : Shrinks c.args.sums.now.list (take_shared c.args.state c.args.sums.now.list c.args.amount) c.args.amount = take_shared-shrinks c.args.state c.args.sums.now.list c.args.amount c.requires.sums c.requires.within in
    rw e shrinks.sums.ascend

pub returns-clause-length : goal.returns-clause-length
returns-clause-length c =
    let e : c.from_ascending.result.list ≡ take_shared c.args.state c.args.sums.now.list c.args.amount = search rules in
    rw e (less-length c.args.state c.args.sums.now.list (shares c.args.amount (bases c.args.sums.now.list)))
