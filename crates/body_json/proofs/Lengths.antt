-- When a value is a list of 1 to 1,000.
use Rattle.std.proofs.Common.{◌≡◌, ℕ, List, [], length, Some, None, Err, Bool, true, false, refl, sym, ap, ◌∙◌}
use Rattle.serde_json.proofs.Views.{items_len-items_view}
use Rattle.serde_json.specs.Data.{Data}
use Rattle.serde_json.specs.Events.{items_len}
use Rattle.serde_json.specs.Find.{as_array}
use Rattle.serde_json.specs.View.{items_view}
use Rattle.serde_json.specs.declared.value.Value.{Value}
use Rattle.body_json.specs.Shapes.{batch, elements, is_count}

same_count : (vs : List Value) (n : ℕ) (b : Bool) → n ≡ length vs → b ≡ is_count n → is_count (items_len (items_view vs)) ≡ b
same_count vs n b e h = ap is_count (items_len-items_view vs ∙ sym e) ∙ sym h

pub batch_whole : (vs : List Value) (n : ℕ) (d : Data) → Some (items_view vs) ≡ as_array d → n ≡ length vs → true ≡ is_count n → batch d ≡ elements 0 (items_view vs)
unfolding batch
batch_whole vs n d e l h = rw (← e, same_count vs n true l h) refl

pub batch_wrong : (vs : List Value) (n : ℕ) (d : Data) → Some (items_view vs) ≡ as_array d → n ≡ length vs → false ≡ is_count n → batch d ≡ Err []
unfolding batch
batch_wrong vs n d e l h = rw (← e, same_count vs n false l h) refl

pub batch_none : (d : Data) → None ≡ as_array d → batch d ≡ Err []
unfolding batch
batch_none d e = rw (← e) refl
