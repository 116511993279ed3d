use Rattle.std.proofs.Common.{sym, ap, ◌∙◌}
use Rattle.std.specs.Prelude.{slice_get}
use Rattle.shop_operations.specs.Upserts.{is_twin}
use Rattle.shop_write.proofs.FirstKeys.{first_at, none_at}
use Rattle.shop_write.proofs.view.View.twin.Goals as goal

pub returns-in-Some : goal.returns-in-Some
returns-in-Some g c =
    c.get-in-Some.ensures.row
    ∙ first_at (is_twin c.args.row.now) (g.Self.View.seen c.args.self.now).rows c.in-Some.key.now c.get-in-Some.ensures.order
    (sym (c.in-Some.ensures.value ∙ ap (λ keys. slice_get keys 0) c.in_ok-twins.ensures))

pub returns : goal.returns
returns g c = none_at (is_twin c.args.row.now) (g.Self.View.seen c.args.self.now).rows (sym (c.in-None.ensures.value ∙ ap (λ keys. slice_get keys 0) c.in_ok-twins.ensures))
