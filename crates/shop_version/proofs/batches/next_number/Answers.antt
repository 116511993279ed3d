use Rattle.std.proofs.Common.{arith, length}
use Rattle.shop_drafts.specs.Drafts.{commits}
use Rattle.shop_version.proofs.CommitRows.{few}
use Rattle.shop_version.proofs.batches.next_number.Goals as goal

pub overflow_add-result : goal.overflow_add-result
overflow_add-result c =
    let rows = c.args.rows.now.list in
    let version = c.args.version in
    let bound = few rows version c.requires.drafted in
    let is = c.commit_count.ensures.commits rows version c.requires.drafted c.requires.draft in
    omega arith

pub returns : goal.returns
returns c =
    let rows = c.args.rows.now.list in
    let version = c.args.version in
    let is = c.commit_count.ensures.commits rows version c.requires.drafted c.requires.draft in
    omega arith
