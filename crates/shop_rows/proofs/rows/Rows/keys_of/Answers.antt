use Rattle.std.proofs.Common.{ap, ◌∙◌}
use Rattle.shop_rows.specs.Held.{Held}
use Rattle.shop_rows.specs.Paging.{rows_in}
use Rattle.shop_rows.proofs.Wanted.{wanted_by}
use Rattle.shop_rows.proofs.LookedUp.{entity_keys_of}
use Rattle.shop_rows.proofs.rows.Rows.keys_of.Goals as goal

pub returns : goal.returns
returns c =
    let same = ap (λ (h : Held). h.list) c.self.view_is in
    record { keys = c.from_vec.ensures ∙ (c.in_ok-keys.ensures.keys ∙ rw (← same) (entity_keys_of (rows_in c.self.inside.pages.rows) c.rows_of.result c.args.entity c.args.version c.rows_of.ensures)); wanted = tt }

pub returns-in_err-keys-clause-wanted : goal.returns-in_err-keys-clause-wanted
returns-in_err-keys-clause-wanted c =
    let same = ap (λ (h : Held). h.list) c.self.view_is in
    wanted_by _ c.from_residual.result _ c.from_residual.ensures.1 (rw (← same) (rw (entity_keys_of (rows_in c.self.inside.pages.rows) c.rows_of.result c.args.entity c.args.version c.rows_of.ensures) at c.in_err-keys.ensures.wanted))
