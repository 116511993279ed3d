use Rattle.std.proofs.Common.{◌∙◌, ℕ, List, ap}
use Rattle.id_sets.specs.Sets.{has}
use Rattle.id_sets.proofs.Sets.{has_at, has_gap}
use Rattle.id_sets.proofs.set.Ids.has.Goals as goal

pub returns-in-Ok : goal.returns-in-Ok
returns-in-Ok c = has_at _ _ _ c.in-Ok.ensures.found ∙ ap (λ (ids : List ℕ). has ids c.args.id) (c.as_slice.ensures.value ∙ c.self.view_is)

pub returns-in-Err : goal.returns-in-Err
returns-in-Err c = has_gap _ _ _ c.in-Err.ensures.absent ∙ ap (λ (ids : List ℕ). has ids c.args.id) (c.as_slice.ensures.value ∙ c.self.view_is)
