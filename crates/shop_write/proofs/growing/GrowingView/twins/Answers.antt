use Rattle.std.proofs.Common.{◌∙◌}
use Rattle.shop_operations.specs.Upserts.{is_twin}
use Rattle.shop_write.proofs.Growths.{over_keys_up, merged_is}
use Rattle.shop_write.proofs.growing.GrowingView.twins.Goals as goal

pub merged_keys-requires : goal.merged_keys-requires
merged_keys-requires c = over_keys_up _ c.self.invariant (is_twin c.args.row.now) _ (c.as_slice-2.ensures ∙ c.in_ok-over.ensures)

pub returns : goal.returns
returns c =
    rw (← c.self.view_is)
    (merged_is _ c.self.invariant (is_twin c.args.row.now) _ _ _ c.in_ok-keys.ensures (c.as_slice.ensures ∙ c.in_ok-base.ensures) (c.as_slice-2.ensures ∙ c.in_ok-over.ensures))
