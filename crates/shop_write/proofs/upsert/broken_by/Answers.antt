use Rattle.std.proofs.Common.{Option, sym, ap, ◌∷◌, [], ◌∙◌}
use Rattle.shop_defs.specs.declared.row.Row.{Row}
use Rattle.shop_operations.specs.Operations.{first}
use Rattle.shop_operations.specs.Upserts.{fixed_field, missing_required}
use Rattle.shop_write.proofs.RuleOrder.{breaks_alone, breaks_beside, breaks_above, breaks_limit}
use Rattle.shop_write.proofs.upsert.broken_by.Goals as goal

pub returns-in-Some : goal.returns-in-Some
returns-in-Some g c =
    breaks_alone (g.V.View.seen c.args.view.now) c.args.op.now c.args.row.now c.in-Some.broken
    (sym c.in-Some.is ∙ (c.in_ok-broken.ensures ∙ ap (λ (o : Option Row). first (fixed_field o c.args.row.now ∷ missing_required c.args.row.now ∷ [])) c.requires.before))

pub returns-in-Some-2 : goal.returns-in-Some-2
returns-in-Some-2 g c =
    breaks_beside (g.V.View.seen c.args.view.now) c.args.op.now c.args.row.now c.in-Some-2.broken
    (sym c.in_default.is ∙ (c.in_ok-broken.ensures ∙ ap (λ (o : Option Row). first (fixed_field o c.args.row.now ∷ missing_required c.args.row.now ∷ [])) c.requires.before))
    (sym c.in-Some-2.is ∙ c.in_ok-broken-2.ensures)

pub returns-in-Some-3 : goal.returns-in-Some-3
returns-in-Some-3 g c =
    breaks_above (g.V.View.seen c.args.view.now) c.args.op.now c.args.row.now c.in-Some-3.broken
    (sym c.in_default.is ∙ (c.in_ok-broken.ensures ∙ ap (λ (o : Option Row). first (fixed_field o c.args.row.now ∷ missing_required c.args.row.now ∷ [])) c.requires.before))
    (sym c.in_default-2.is ∙ c.in_ok-broken-2.ensures) (sym c.in-Some-3.is ∙ c.in_ok-broken-3.ensures)

pub returns : goal.returns
returns g c =
    breaks_limit (g.V.View.seen c.args.view.now) c.args.op.now c.args.row.now c.too_many.result
    (sym c.in_default.is ∙ (c.in_ok-broken.ensures ∙ ap (λ (o : Option Row). first (fixed_field o c.args.row.now ∷ missing_required c.args.row.now ∷ [])) c.requires.before))
    (sym c.in_default-2.is ∙ c.in_ok-broken-2.ensures) (sym c.in_default-3.is ∙ c.in_ok-broken-3.ensures) c.too_many.ensures
