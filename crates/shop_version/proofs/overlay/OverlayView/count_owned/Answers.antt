use Rattle.shop_rows.specs.Owners.{belongs}
use Rattle.shop_version.proofs.Layers.{counted_as}
use Rattle.shop_version.proofs.overlay.OverlayView.count_owned.Goals as goal

pub returns : goal.returns
returns c = counted_as _ c.self.invariant _ c.self.view_is (belongs c.args.limit.now c.args.owner) _ _ c.count_open.ensures.count c.count_own.ensures.count
