use Rattle.std.proofs.Common.{ap, ◌∙◌, not}
use Rattle.std.specs.Prelude.{find}
use Rattle.shop_version.specs.DraftSteps.{is_free_or_inside}
use Rattle.shop_version.specs.Overlays.{layer_rows}
use Rattle.shop_version.proofs.Outsides.{emptied_up, emptied_is, gone_is, first_outside_is}
use Rattle.shop_version.proofs.touching.delete_outside.Goals as goal

pub joined_places-requires : goal.joined_places-requires
joined_places-requires c =
    emptied_up c.args.overlay.now c.requires.layer c.args.op.now _ (c.as_slice-emptied.ensures ∙ emptied_is c.args.overlay.now c.requires.layer c.args.op.now c.args.reached.now c.requires.kind c.requires.reach)

pub returns : goal.returns
returns c =
    c.first_outside.ensures
    ∙ (ap (find (λ key. not (is_free_or_inside c.args.overlay.now.root (layer_rows c.args.overlay.now) key))) (c.as_slice.ensures.value ∙ c.in_ok-touched.ensures)
    ∙ first_outside_is c.args.overlay.now c.requires.layer c.args.op.now _ _
    (c.as_slice-gone.ensures ∙ gone_is c.args.overlay.now c.requires.layer c.args.op.now c.args.reached.now c.requires.kind c.requires.reach)
    (c.as_slice-emptied.ensures ∙ emptied_is c.args.overlay.now c.requires.layer c.args.op.now c.args.reached.now c.requires.kind c.requires.reach))
