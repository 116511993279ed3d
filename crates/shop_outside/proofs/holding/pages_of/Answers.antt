use Rattle.std.proofs.Common.{◌<◌, length, ap, ◌∙◌, arith}
use Rattle.paged.specs.Paged.{all_pairs}
use Rattle.shop_outside.specs.Scanning.{keys_ascend}
use Rattle.shop_outside.proofs.InPages.{ended}
use Rattle.shop_outside.proofs.holding.pages_of.Goals as goal

pub returns-clause-rows : goal.returns-clause-rows
returns-clause-rows c =
    let short : length c.loop-rest.rest.now < 1 = omega (arith, c.in_default.len_below) in
    ended (all_pairs c.loop-rest.pages) c.loop-rest.rest.now c.args.rows.now short c.loop-rest.invariant c.requires

pub returns-clause-order : goal.returns-clause-order
returns-clause-order c =
    let short : length c.loop-rest.rest.now < 1 = omega (arith, c.in_default.len_below) in
    ap keys_ascend (ended (all_pairs c.loop-rest.pages) c.loop-rest.rest.now c.args.rows.now short c.loop-rest.invariant c.requires) ∙ c.requires
