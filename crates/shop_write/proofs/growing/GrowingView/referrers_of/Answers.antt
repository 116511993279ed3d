use Rattle.std.proofs.Common.{◌∙◌}
use Rattle.shop_defs.specs.declared.row.Row.{Row}
use Rattle.shop_defs.specs.declared.table.TheConstants.{REFERENCES}
use Rattle.shop_defs.specs.Entities.{entity_number}
use Rattle.shop_operations.specs.References.{refers_at}
use Rattle.shop_write.proofs.Growths.{over_keys_up, merged_is}
use Rattle.shop_write.proofs.growing.GrowingView.referrers_of.Goals as goal

pub merged_keys-requires : goal.merged_keys-requires
merged_keys-requires c = over_keys_up _ c.self.invariant (λ (row : Row). refers_at REFERENCES row (entity_number c.args.key.now.entity) c.args.key.now.id) _ (c.as_slice-2.ensures ∙ c.in_ok-over.ensures)

pub returns : goal.returns
returns c =
    rw (← c.self.view_is)
    (merged_is _ c.self.invariant (λ (row : Row). refers_at REFERENCES row (entity_number c.args.key.now.entity) c.args.key.now.id) _ _ _ c.in_ok-keys.ensures (c.as_slice.ensures ∙ c.in_ok-base.ensures) (c.as_slice-2.ensures ∙ c.in_ok-over.ensures))
