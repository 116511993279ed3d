use Rattle.std.proofs.Common.{◌≡◌, ◌+◌, length}
use Rattle.std.specs.List.{AllByRecursion}
use Rattle.std.specs.Vec.Iter.{into_iter_items}
use Rattle.serde_json.specs.View.{items_view}
use Rattle.body_json.specs.WellFormed.{IsWellFormed}
use Rattle.body_json.specs.Shapes.{elements}
use Rattle.body_json.proofs.ElementSteps.{after}
use Rattle.body_json.proofs.batch.read_elements.Given as goal

abbrev pub invariant-loop-value : goal.invariant-loop-value
invariant-loop-value l =
    (goal.iterator-loop-value).can_next l.value-iterator ×
    (goal.iterator-loop-value).is_finite l.value-iterator ×
    (elements 0 (items_view l.fn.values.items) ≡ after l.ops (elements (length l.ops) (items_view (into_iter_items l.value-iterator)))) ×
    (length l.ops + length (into_iter_items l.value-iterator) ≡ length l.fn.values.items) ×
    AllByRecursion IsWellFormed l.ops
