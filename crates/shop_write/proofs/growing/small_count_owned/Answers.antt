use Rattle.std.proofs.Common.{arith}
use Rattle.std.proofs.lemmas.List.Sums.{count_by-le-length, length-filter}
use Rattle.shop_operations.specs.References.{is_live, live}
use Rattle.shop_rows.specs.Owners.{belongs}
use Rattle.shop_write.proofs.growing.small_count_owned.Goals as goal

pub returns-clause-small : goal.returns-clause-small
returns-clause-small c =
    let rows = c.args.rows.now.list in
    let owned = count_by-le-length (belongs c.args.limit.now c.args.owner) (live rows) in
    let shown = length-filter is_live rows in
    let all = count_by-le-length is_live rows in
    omega (arith, owned, shown, all, c.len-all.ensures.count, c.len-all.ensures.few)
