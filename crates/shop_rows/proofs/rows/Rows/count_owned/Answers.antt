use Rattle.std.proofs.Common.{ap, ◌∙◌, arith}
use Rattle.std.specs.Ordering.{is_eq}
use Rattle.shop_rows.specs.Held.{Held}
use Rattle.shop_rows.specs.Paging.{rows_in}
use Rattle.shop_rows.specs.Searches.{from_live_id}
use Rattle.shop_rows.proofs.LookedUp.{owned_by_id, rows_few}
use Rattle.shop_rows.proofs.rows.Rows.count_owned.Goals as goal

pub count_of_rows-requires : goal.count_of_rows-requires
count_of_rows-requires c =
    let counted = c.self.invariant.0.counted in
    omega (arith, counted.total, counted.few, rows_few (λ row. is_eq (from_live_id c.args.limit.now.entity c.args.owner row.key)) (rows_in c.self.inside.pages.rows) c.live_rows_of.result c.live_rows_of.ensures)

pub returns-in-Id : goal.returns-in-Id
returns-in-Id c =
    let same = ap (λ (h : Held). h.list) c.self.view_is in
    c.count_of_rows.ensures ∙ rw (← same) (owned_by_id c.args.limit.now (rows_in c.self.inside.pages.rows) c.live_rows_of.result c.args.owner c.in-Id.is c.live_rows_of.ensures)
