use Rattle.std.proofs.Common.{◌≡◌, ℕ, ◌≤◌, min, List, length, take, refl, sym, ap, ◌∙◌, rules}
use Rattle.std.proofs.lemmas.List.{take_all, take_min, take-map}
use Rattle.std.specs.declared.sync.Arc.{Arc}
use Rattle.shop_defs.specs.declared.delta.Delta.{Delta}
use Rattle.idx_copy.specs.Fronts.{changes_of, changes_in}
use Rattle.publishing.proofs.queue.first_of.Goals as goal

first_changes : {Z : Type 0} (made items part all : List (Arc Delta Z)) (most index count : ℕ) → made ≡ items → changes_in items ≡ changes_in (take index part) → length part ≤ index → part ≡ take count all → count ≡ min most (length all) → changes_in made ≡ take most (changes_in all)
first_changes made items part all most index count e f g h k =
    ap changes_in e ∙ (f ∙ (ap changes_in (take_all index part g ∙ (h ∙ (ap (λ (n : ℕ). take n all) k ∙ take_min most all))) ∙ sym (take-map changes_of most all)))

pub returns : goal.returns
returns c =
    let least : c.min.result ≡ min c.args.most (length c.args.deltas.now) = search rules in
    first_changes c.from_vec.result c.loop-delta.first.items _ c.args.deltas.now c.args.most c.loop-delta.delta-index c.min.result c.from_vec.ensures c.loop-delta.invariant c.loop-delta-test.false refl least
