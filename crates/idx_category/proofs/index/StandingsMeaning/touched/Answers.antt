use Rattle.std.proofs.Common.{◌≡◌, ◌++◌, ℕ, List, false, subst, sym}
use Rattle.shop_meanings.specs.Categories.{children_of, standing}
use Rattle.renewed.specs.Showing.{has_key}
use Rattle.idx_category.specs.Touching.{near, layers, moved}
use Rattle.idx_category.proofs.Steps.{if_ok}
use Rattle.idx_category.proofs.Moves.{untouched_by}
use Rattle.idx_category.proofs.index.StandingsMeaning.touched.Goals as goal

pub returns-clause-touched : goal.returns-clause-touched
returns-clause-touched c =
    let before = c.args.before.now.list in
    let after = c.args.after.now.list in
    let changes = c.args.change.now.changes in
    if_ok (λ (ids : List ℕ). ids ≡ near before after changes ++ layers (children_of after) 32 (moved before after changes)) (λ (ids : List ℕ). Unit {0}) c.touched_ids.result (λ ids e. tt) c.touched_ids.ensures

pub returns-clause-outside : goal.returns-clause-outside
returns-clause-outside c =
    let before = c.args.before.now.list in
    let after = c.args.after.now.list in
    let changes = c.args.change.now.changes in
    if_ok (λ (ids : List ℕ). ids ≡ near before after changes ++ layers (children_of after) 32 (moved before after changes)) (λ (ids : List ℕ). (key : ℕ) → has_key ids key ≡ false → standing before key ≡ standing after key) c.touched_ids.result
    (λ ids e. subst (λ (keys : List ℕ). (key : ℕ) → has_key keys key ≡ false → standing before key ≡ standing after key) (sym e) (untouched_by before after changes c.requires.was_fit c.requires.fit c.requires.leads.0 c.requires.leads.1 c.requires.leads.2))
    c.touched_ids.ensures
