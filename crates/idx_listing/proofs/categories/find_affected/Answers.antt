use Rattle.std.proofs.Common.{◌≡◌, ◌++◌, ℕ, ◌∙◌, ap, List}
use Rattle.std.specs.List.{flat_map}
use Rattle.id_sets.specs.Sets.{has}
use Rattle.idx_listing.specs.Relisting.{changed_categories, stood_in, relisted}
use Rattle.idx_listing.proofs.Relisted.{outside_both}
use Rattle.idx_listing.proofs.categories.find_affected.Goals as goal

pub returns : goal.returns
returns c =
    let before = c.args.before.now.list in
    let after = c.args.after.now.list in
    let changed = c.in_ok-categories.ensures ∙ ap changed_categories c.as_slice.ensures in
    let stood = c.as_slice-3.ensures.value ∙ (c.in_ok-stood_in.ensures ∙ ap (flat_map (stood_in before after)) c.as_slice-2.ensures.ids) in
    let whole : c.extend_from_slice.new.self.items ≡ relisted before after c.args.delta.now.changes c.in_ok-products.products = c.in_ok-extend_from_slice.ensures.items ∙ (λ i. changed i ++ stood i) in
    outside_both before after c.args.delta.now.changes c.in_ok-products.products c.from_vec.result
    c.requires.was_orderly c.requires.orderly c.requires.leads c.requires.keys c.requires.once c.in_ok-products.ensures
    (λ id. c.from_vec.ensures.same id ∙ ap (λ (ids : List ℕ). has ids id) whole)
