use Rattle.std.proofs.Common.{sym, ap, ◌∙◌}
use Rattle.shop_rows.specs.Held.{Held}
use Rattle.shop_rows.specs.Paging.{rows_in, mentions_in}
use Rattle.shop_rows.proofs.Wanted.{wanted_by}
use Rattle.shop_rows.proofs.LookedUp.{twins_of, no_twins_found}
use Rattle.shop_rows.proofs.rows.Rows.twins_in.Goals as goal

pub returns-in_ok-keys-in-Some : goal.returns-in_ok-keys-in-Some
returns-in_ok-keys-in-Some c =
    let same = ap (λ (h : Held). h.list) c.self.view_is in
    record { keys = c.from_vec.ensures ∙ (c.in_ok-keys-in-Some.ensures.keys ∙ rw (← same) (twins_of (rows_in c.self.inside.pages.rows) (mentions_in c.self.inside.pages.mentions) c.self.invariant.0.mentioned c.mentions_at-found.result c.args.version c.args.row.now c.in-Some.print (sym c.in-Some.ensures) c.mentions_at-found.ensures)); wanted = tt }

pub returns-in_err-keys-in-Some-clause-wanted : goal.returns-in_err-keys-in-Some-clause-wanted
returns-in_err-keys-in-Some-clause-wanted c =
    let same = ap (λ (h : Held). h.list) c.self.view_is in
    wanted_by _ c.from_residual.result _ c.from_residual.ensures.1 (rw (← same) (rw (twins_of (rows_in c.self.inside.pages.rows) (mentions_in c.self.inside.pages.mentions) c.self.invariant.0.mentioned c.mentions_at-found.result c.args.version c.args.row.now c.in-Some.print (sym c.in-Some.ensures) c.mentions_at-found.ensures) at c.in_err-keys-in-Some.ensures.wanted))

pub returns-in-None : goal.returns-in-None
returns-in-None c = record { keys = c.new.ensures ∙ no_twins_found _ c.args.version c.args.row.now (sym c.in-None.ensures); wanted = tt }
