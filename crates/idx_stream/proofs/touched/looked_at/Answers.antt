use Rattle.std.proofs.Common.{◌≡◌, ◌++◌, ◌∙◌, ℕ, List, sym, ap}
use Rattle.id_sets.specs.Sets.{has}
use Rattle.idx_stream.proofs.Belonging.{apart_keys}
use Rattle.idx_stream.proofs.touched.looked_at.Goals as goal

pub returns : goal.returns
returns c = λ id off.
    let first = c.in_ok-keys.ensures.items ∙ c.as_slice.ensures.ids in
    let whole : c.extend_from_slice.new.self.items ≡ c.args.affected.now.streams ++ c.in_ok-others.others.items = c.in_ok-extend_from_slice.ensures.items ∙ (λ i. first i ++ c.as_slice-2.ensures.value i) in
    let both = apart_keys c.args.affected.now.streams c.in_ok-others.others.items id (ap (λ (ids : List ℕ). has ids id) (sym whole) ∙ off) in
    record { unchanged = both.0; apart = c.in_ok-others.ensures id both.1 }
