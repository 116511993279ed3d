use Rattle.std.proofs.Common.{◌∙◌, ap}
use Rattle.shop_defs.specs.declared.row.Row.{Row}
use Rattle.shop_defs.specs.declared.table.TheConstants.{REFERENCES}
use Rattle.shop_defs.specs.Entities.{entity_number}
use Rattle.shop_operations.specs.References.{refers_at, referrers}
use Rattle.shop_version.proofs.Layers.{own_keys_ascend, merged_as}
use Rattle.shop_version.proofs.overlay.OverlayView.referrers_of.Goals as goal

pub merged-requires : goal.merged-requires
merged-requires c = own_keys_ascend _ c.self.invariant (λ (row : Row). refers_at REFERENCES row (entity_number c.args.key.now.entity) c.args.key.now.id) _ (c.as_slice-2.ensures ∙ (c.in_ok-own.ensures.keys ∙ ap (λ rows. referrers REFERENCES rows (entity_number c.args.key.now.entity) c.args.key.now.id) c.self.invariant.own_is))

pub returns : goal.returns
returns c =
    merged_as _ c.self.invariant _ c.self.view_is (λ (row : Row). refers_at REFERENCES row (entity_number c.args.key.now.entity) c.args.key.now.id) _ _ _ c.in_ok-keys.ensures (c.as_slice.ensures ∙ c.in_ok-live.ensures.keys) (c.as_slice-2.ensures ∙ (c.in_ok-own.ensures.keys ∙ ap (λ rows. referrers REFERENCES rows (entity_number c.args.key.now.entity) c.args.key.now.id) c.self.invariant.own_is))
