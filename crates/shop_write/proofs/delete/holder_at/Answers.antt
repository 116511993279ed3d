use Rattle.std.proofs.Common.{ℕ, ap, ◌∙◌}
use Rattle.shop_defs.specs.declared.table.TheConstants.{REFERENCES}
use Rattle.shop_operations.specs.Upserts.{row_in}
use Rattle.shop_write.specs.Places.{key_at}
use Rattle.shop_write.specs.Deleting.{holder}
use Rattle.shop_write.proofs.delete.holder_at.Goals as goal

pub returns-in-Some : goal.returns-in-Some
returns-in-Some g c =
    c.holder.ensures
    ∙ ap (holder REFERENCES c.args.lost.now) (c.in-Some.ensures.row ∙ ap (row_in (g.V.View.seen c.args.view.now).rows) (c.key.ensures ∙ ap (λ (version : ℕ). key_at version c.args.place) c.version.ensures))
