use Rattle.std.proofs.Common.{ap, ◌∙◌}
use Rattle.shop_rows.specs.Held.{Held}
use Rattle.shop_rows.specs.Paging.{rows_in, mentions_in}
use Rattle.shop_rows.proofs.Wanted.{wanted_by}
use Rattle.shop_rows.proofs.LookedUp.{child_keys_of}
use Rattle.shop_rows.proofs.rows.Rows.child_keys.Goals as goal

pub returns : goal.returns
returns c =
    let same = ap (λ (h : Held). h.list) c.self.view_is in
    record { keys = c.from_vec.ensures ∙ (c.in_ok-keys.ensures.keys ∙ rw (← same) (child_keys_of (rows_in c.self.inside.pages.rows) (mentions_in c.self.inside.pages.mentions) c.self.invariant.0.mentioned c.mentions_at_of-found.result c.args.entity c.args.version c.args.parent (rw c.referring.ensures at c.mentions_at_of-found.ensures))); wanted = tt }

pub returns-in_err-keys-clause-wanted : goal.returns-in_err-keys-clause-wanted
returns-in_err-keys-clause-wanted c =
    let same = ap (λ (h : Held). h.list) c.self.view_is in
    wanted_by _ c.from_residual.result _ c.from_residual.ensures.1 (rw (← same) (rw (child_keys_of (rows_in c.self.inside.pages.rows) (mentions_in c.self.inside.pages.mentions) c.self.invariant.0.mentioned c.mentions_at_of-found.result c.args.entity c.args.version c.args.parent (rw c.referring.ensures at c.mentions_at_of-found.ensures)) at c.in_err-keys.ensures.wanted))
