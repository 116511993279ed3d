use Rattle.std.proofs.Common.{sym, ap, ◌∙◌}
use Rattle.shop_rows.specs.Held.{Held}
use Rattle.shop_rows.specs.Paging.{rows_in, mentions_in}
use Rattle.shop_rows.proofs.LookedUp.{twin_of, no_twin_found}
use Rattle.shop_rows.proofs.rows.Rows.twin_in.Goals as goal

pub returns-in-Some : goal.returns-in-Some
returns-in-Some c =
    let same = ap (λ (h : Held). h.list) c.self.view_is in
    c.first_twin.ensures ∙ rw (← same) (twin_of (rows_in c.self.inside.pages.rows) (mentions_in c.self.inside.pages.mentions) c.self.invariant.0.mentioned c.mentions_at-found.result c.args.version c.args.row.now c.in-Some.print (sym c.in-Some.ensures) c.mentions_at-found.ensures)

pub returns-in-None : goal.returns-in-None
returns-in-None c = no_twin_found _ c.args.version c.args.row.now (sym c.in-None.ensures)
