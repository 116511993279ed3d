use Rattle.std.proofs.Common.{sym, ap, ◌∙◌}
use Rattle.std.specs.Prelude.{unwrap_or}
use Rattle.std.specs.Option.{option_copied}
use Rattle.shop_defs.specs.declared.key.Key.{Key}
use Rattle.shop_operations.specs.Upserts.{bare_row, given_to, row_in}
use Rattle.shop_write.proofs.UpsertPlans.{is_write, is_plan, is_fault}
use Rattle.shop_write.proofs.upsert.plan_upsert.Goals as goal

pub returns : goal.returns
returns g c = λ replay.
    is_plan (g.V.View.seen c.args.view.now) c.args.op.now (option_copied c.get-before.result)
    (c.get-before.ensures.row ∙ ap (row_in (g.V.View.seen c.args.view.now).rows) c.place_of-key.ensures) c.in_ok-row.row
    (c.in_ok-row.ensures ∙ ap (λ (key : Key). given_to (unwrap_or (option_copied c.get-before.result) (bare_row key)) c.args.op.now) c.place_of-key.ensures)
    c.requires.kind replay c.in_ok-written.field-0.changes (sym c.in_default.is ∙ c.in_ok-broken.ensures) c.in_ok-written.ensures

pub returns-in-Some : goal.returns-in-Some
returns-in-Some g c = λ replay.
    is_fault (g.V.View.seen c.args.view.now) c.args.op.now (option_copied c.get-before.result)
    (c.get-before.ensures.row ∙ ap (row_in (g.V.View.seen c.args.view.now).rows) c.place_of-key.ensures) c.in_ok-row.row
    (c.in_ok-row.ensures ∙ ap (λ (key : Key). given_to (unwrap_or (option_copied c.get-before.result) (bare_row key)) c.args.op.now) c.place_of-key.ensures)
    c.requires.kind replay c.in-Some.broken c.refused.result (sym c.in-Some.is ∙ c.in_ok-broken.ensures) c.refused.ensures

pub broken_by-requires-clause-write : goal.broken_by-requires-clause-write
broken_by-requires-clause-write g c =
    is_write (g.V.View.seen c.args.view.now) c.args.op.now (option_copied c.get-before.result)
    (c.get-before.ensures.row ∙ ap (row_in (g.V.View.seen c.args.view.now).rows) c.place_of-key.ensures) c.in_ok-row.row
    (c.in_ok-row.ensures ∙ ap (λ (key : Key). given_to (unwrap_or (option_copied c.get-before.result) (bare_row key)) c.args.op.now) c.place_of-key.ensures)
    c.get-before.ensures.order c.requires.takes c.requires.fits
