use Rattle.std.proofs.Common.{◌∙◌}
use Rattle.shop_write.specs.Seen.{is_child_of}
use Rattle.shop_write.proofs.Growths.{over_keys_up, merged_is}
use Rattle.shop_write.proofs.growing.GrowingView.child_keys.Goals as goal

pub merged_keys-requires : goal.merged_keys-requires
merged_keys-requires c = over_keys_up _ c.self.invariant (is_child_of c.args.entity c.args.parent) _ (c.as_slice-2.ensures ∙ c.in_ok-over.ensures)

pub returns : goal.returns
returns c =
    rw (← c.self.view_is)
    (merged_is _ c.self.invariant (is_child_of c.args.entity c.args.parent) _ _ _ c.in_ok-keys.ensures (c.as_slice.ensures ∙ c.in_ok-base.ensures) (c.as_slice-2.ensures ∙ c.in_ok-over.ensures))
