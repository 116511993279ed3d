use Rattle.std.proofs.Common.{◌≡◌, ℕ, List, false, None, map, subst, sym}
use Rattle.renewed.specs.Showing.{has_key}
use Rattle.shop_defs.specs.declared.entity.Entity.TheVariants as E
use Rattle.shop_defs.specs.declared.key.Key.{Key}
use Rattle.shop_operations.specs.References.{of_version}
use Rattle.shop_rows.specs.Lookups.{keys_of}
use Rattle.shop_meanings.specs.Categories.{standing}
use Rattle.idx_category.proofs.Steps.{if_ok}
use Rattle.idx_category.proofs.Moves.{ids_cover}
use Rattle.idx_category.proofs.index.StandingsMeaning.keys.Goals as goal

pub returns : goal.returns
returns c =
    let rows = c.args.over.now.list in
    if_ok (λ (ids : List ℕ). ids ≡ map (λ (key : Key). key.id) (keys_of (of_version 0 rows) E.Category)) (λ (ids : List ℕ). (key : ℕ) → has_key ids key ≡ false → standing rows key ≡ None) c.category_ids.result
    (λ ids e. subst (λ (keys : List ℕ). (key : ℕ) → has_key keys key ≡ false → standing rows key ≡ None) (sym e) (ids_cover rows))
    c.category_ids.ensures
