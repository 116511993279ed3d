use Rattle.std.proofs.Common.{subst}
use Rattle.shop_version.specs.Overlays.{IsLayer}
use Rattle.shop_version.proofs.overlay.Overlay.draft.Goals as goal

pub returns-clause-layer : goal.returns-clause-layer
returns-clause-layer c = subst IsLayer c.self.view_is c.self.invariant
