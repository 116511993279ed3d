use Rattle.std.proofs.Common.{refl, ◌∙◌}
use Rattle.shop_rows.specs.Owners.{belongs}
use Rattle.shop_version.proofs.Layers.{counts_open}
use Rattle.shop_version.proofs.overlay.count_open.Goals as goal

pub returns-clause-count : goal.returns-clause-count
returns-clause-count c = c.count_open_in.ensures.count ∙ counts_open _ c.overlay.invariant _ c.overlay.view_is (belongs c.args.limit.now c.args.owner) _ refl
