use Rattle.std.proofs.Common.{◌∙◌}
use Rattle.shop_routes.proofs.parts.with_text.Goals as goal

pub returns : goal.returns
returns c = λ rest all h. (
  c.or_named-version.ensures rest ∙ h.0,
  c.or_named-id.ensures rest ∙ h.1,
  c.or_named-second.ensures rest ∙ h.2,
  c.or_named-page.ensures rest ∙ h.3,
)
