use Rattle.std.proofs.Common.{map, ap, ◌∙◌}
use Rattle.paged.specs.Pairs.{value_of}
use Rattle.paged.specs.Parts.{parts}
use Rattle.paged.proofs.paged.Paged.runs.Goals as goal

pub returns : goal.returns
returns g c = c.over.ensures ∙ (ap (λ (t : _). map value_of (parts t)) c.entries.ensures ∙ c.self.view_is)
