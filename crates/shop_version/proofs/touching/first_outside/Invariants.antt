use Rattle.std.proofs.Common.{◌≡◌, find, length, not}
use Rattle.shop_version.specs.DraftSteps.{is_free_or_inside}
use Rattle.shop_version.specs.Overlays.{layer_rows}
use Rattle.shop_version.proofs.touching.first_outside.Given as goal

abbrev pub invariant-loop-rest : goal.invariant-loop-rest
invariant-loop-rest l = find (λ key. not (is_free_or_inside l.overlay.root (layer_rows l.overlay) key)) l.rest ≡ find (λ key. not (is_free_or_inside l.overlay.root (layer_rows l.overlay) key)) l.keys

abbrev pub decreases-loop-rest : goal.decreases-loop-rest
decreases-loop-rest l = length l.rest
