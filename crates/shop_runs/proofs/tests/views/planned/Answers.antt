use Rattle.std.proofs.Common.{sym, ◌∙◌}
use Rattle.shop_defs.specs.declared.row.Row.{Row}
use Rattle.shop_defs.specs.Fitting.{row_key_fits}
use Rattle.shop_runs.proofs.Formed.{live_pass}
use Rattle.shop_runs.proofs.tests.views.planned.Goals as goal

pub plan_op-requires-clause-takes : goal.plan_op-requires-clause-takes
plan_op-requires-clause-takes c = λ kind. record {
  formed = live_pass (λ (row : Row). row_key_fits row.key) c.args.shown.now.rows.list (sym c.are_formed.ensures ∙ c.if-are_formed.true);
  shallow = λ given live. absurd (c.if-shown-ne0.true live);
}
