use Rattle.std.proofs.Common.{◌∙◌, ap}
use Rattle.shop_rows.specs.Lookups.{child_keys}
use Rattle.shop_write.specs.Seen.{is_child_of}
use Rattle.shop_version.proofs.Layers.{own_keys_ascend, merged_as}
use Rattle.shop_version.proofs.overlay.OverlayView.child_keys.Goals as goal

pub merged-requires : goal.merged-requires
merged-requires c = own_keys_ascend _ c.self.invariant (is_child_of c.args.entity c.args.parent) _ (c.as_slice-2.ensures ∙ (c.in_ok-own.ensures.keys ∙ ap (λ rows. child_keys rows c.args.entity c.args.parent) c.self.invariant.own_is))

pub returns : goal.returns
returns c =
    merged_as _ c.self.invariant _ c.self.view_is (is_child_of c.args.entity c.args.parent) _ _ _ c.in_ok-keys.ensures (c.as_slice.ensures ∙ c.in_ok-live.ensures.keys) (c.as_slice-2.ensures ∙ (c.in_ok-own.ensures.keys ∙ ap (λ rows. child_keys rows c.args.entity c.args.parent) c.self.invariant.own_is))
