use Rattle.std.proofs.Common.{◌∙◌, ap}
use Rattle.shop_operations.specs.Upserts.{is_twin}
use Rattle.std.specs.Prelude.{map, filter}
use Rattle.shop_defs.specs.Rows.{row_key}
use Rattle.shop_version.proofs.Layers.{own_keys_ascend, merged_as}
use Rattle.shop_version.proofs.overlay.OverlayView.twins.Goals as goal

pub merged-requires : goal.merged-requires
merged-requires c = own_keys_ascend _ c.self.invariant (is_twin c.args.row.now) _ (c.as_slice-2.ensures ∙ (c.in_ok-own.ensures.keys ∙ ap (λ rows. map row_key (filter (is_twin c.args.row.now) rows)) c.self.invariant.own_is))

pub returns : goal.returns
returns c =
    merged_as _ c.self.invariant _ c.self.view_is (is_twin c.args.row.now) _ _ _ c.in_ok-keys.ensures (c.as_slice.ensures ∙ c.in_ok-live.ensures.keys) (c.as_slice-2.ensures ∙ (c.in_ok-own.ensures.keys ∙ ap (λ rows. map row_key (filter (is_twin c.args.row.now) rows)) c.self.invariant.own_is))
