use Rattle.std.proofs.Common.{sym, ◌∙◌, arith}
use Rattle.shop_rows.specs.Paging.{rows_in, mentions_in}
use Rattle.shop_rows.proofs.LookedUp.{owned_of, owned_in, found_few}
use Rattle.shop_rows.proofs.lookups.count_referring.Goals as goal

pub count_owned_of-requires-clause-few : goal.count_owned_of-requires-clause-few
count_owned_of-requires-clause-few c =
    omega (arith, c.requires.counted.total, c.requires.counted.few, found_few (rows_in c.args.pages.now.rows) (mentions_in c.args.pages.now.mentions) c.requires.mentioned c.mentions_at_of-found.result _ c.args.limit.now.entity c.mentions_at_of-found.ensures)

pub returns-in-Some : goal.returns-in-Some
returns-in-Some c =
    c.count_owned_of.ensures
    ∙ owned_of (rows_in c.args.pages.now.rows) (mentions_in c.args.pages.now.mentions) c.requires.mentioned c.mentions_at_of-found.result c.args.limit.now c.args.owner c.in-Some.reference.now (sym c.in-Some.ensures) (rw c.referring-topic.ensures at c.mentions_at_of-found.ensures)

pub returns-in-None : goal.returns-in-None
returns-in-None c = rw (c.count_owned_in.ensures, c.over.ensures, c.runs.ensures) (owned_in c.args.limit.now (rows_in c.args.pages.now.rows) c.args.owner)
