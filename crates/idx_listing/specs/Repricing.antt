-- Of which products a change of rows may change the price. No public contract cites this.
use Rattle.std.specs.Prelude.{ℕ, List, [], ◌∷◌, ◌++◌, if◌then◌else◌}
use Rattle.std.specs.List.{flat_map}
use Rattle.shop_defs.specs.declared.entity.Entity.TheVariants as E
use Rattle.shop_defs.specs.declared.key.Key.{Key}
use Rattle.shop_defs.specs.declared.row.Row.{Row}
use Rattle.shop_defs.specs.Joined.{Change}
use Rattle.shop_defs.specs.Rows.{row_at}
use Rattle.idx_category.specs.Touching.{parent_ids}
use Rattle.product_rows.specs.Affecting.{is_live_of, with_variants}

-- the product whose own row stands at the key
abbrev pub changed_at : Key → List ℕ
changed_at key = if is_live_of E.Product key then key.id ∷ [] else []

abbrev pub changed : List Change → List ℕ
changed changes = flat_map (λ change. changed_at change.0) changes

-- the products that it names as its parent, before and after
abbrev pub parents_at : List Row → List Row → Key → List ℕ
parents_at before after key = if is_live_of E.Product key then parent_ids (row_at before key) ++ parent_ids (row_at after key) else []

abbrev pub parents : List Row → List Row → List Change → List ℕ
parents before after changes = flat_map (λ change. parents_at before after change.0) changes

-- the products whose own row came, went or changed, their variants, and their parents before and after
abbrev pub repriced : List Row → List Row → List Change → List ℕ
repriced before after changes = with_variants after (changed changes) ++ parents before after changes
