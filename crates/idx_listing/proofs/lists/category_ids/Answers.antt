use Rattle.std.proofs.Common.{ℕ, ◌∙◌, ap, sym, List, map}
use Rattle.shop_defs.specs.declared.entity.Entity.TheVariants as E
use Rattle.shop_defs.specs.declared.key.Key.{Key}
use Rattle.id_sets.specs.Sets.{has}
use Rattle.product_rows.proofs.Referring.{keys_cover}
use Rattle.idx_listing.proofs.lists.category_ids.Goals as goal

pub returns : goal.returns
returns c = λ id off.
    keys_cover c.args.rows.now.list E.Category id
    (ap (λ (ids : List ℕ). has ids id) (sym (c.in_ok-ids.ensures ∙ ap (map (λ (key : Key). key.id)) (c.as_slice.ensures ∙ c.in_ok-keys.ensures.keys))) ∙ off)
