use Rattle.std.proofs.Common.{ap, ◌∙◌}
use Rattle.shop_rows.specs.Held.{Held}
use Rattle.shop_rows.specs.Paging.{rows_in, mentions_in}
use Rattle.shop_rows.proofs.Wanted.{wanted_by}
use Rattle.shop_rows.proofs.LookedUp.{referrers_in_of}
use Rattle.shop_rows.proofs.rows.Rows.referrers_in.Goals as goal

pub returns : goal.returns
returns c =
    let same = ap (λ (h : Held). h.list) c.self.view_is in
    record { keys = c.from_vec.ensures ∙ (c.in_ok-keys.ensures.keys ∙ rw (← same) (referrers_in_of (rows_in c.self.inside.pages.rows) (mentions_in c.self.inside.pages.mentions) c.self.invariant.0.mentioned c.mentions_at.result c.args.version c.args.key.now.entity c.args.key.now.id (rw c.referring-topic.ensures at c.mentions_at.ensures))); wanted = tt }

pub returns-in_err-keys-clause-wanted : goal.returns-in_err-keys-clause-wanted
returns-in_err-keys-clause-wanted c =
    let same = ap (λ (h : Held). h.list) c.self.view_is in
    wanted_by _ c.from_residual.result _ c.from_residual.ensures.1 (rw (← same) (rw (referrers_in_of (rows_in c.self.inside.pages.rows) (mentions_in c.self.inside.pages.mentions) c.self.invariant.0.mentioned c.mentions_at.result c.args.version c.args.key.now.entity c.args.key.now.id (rw c.referring-topic.ensures at c.mentions_at.ensures)) at c.in_err-keys.ensures.wanted))
