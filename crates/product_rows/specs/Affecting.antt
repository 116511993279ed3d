-- Which products a change of rows may affect.
use Rattle.std.specs.Prelude.{ℕ, ◌≡◌, false, Bool, ◌==◌, ◌&&◌, List, [], ◌∷◌, ◌++◌, map, filter, Some, if◌then◌else◌}
use Rattle.std.specs.List.{flat_map}
use Rattle.shop_defs.specs.declared.entity.Entity.{Entity}
use Rattle.shop_defs.specs.declared.entity.Entity.TheVariants as E
use Rattle.shop_defs.specs.declared.key.Key.{Key}
use Rattle.shop_defs.specs.declared.row.Row.{Row}
use Rattle.shop_defs.specs.Joined.{Change}
use Rattle.shop_operations.specs.References.{is_entity}
use Rattle.id_sets.specs.Sets.{has}
use Rattle.shop_meanings.specs.Live.{live_rows}
use Rattle.shop_meanings.specs.Categories.{children_of}
use Rattle.product_meanings.specs.Products.{product, parent_of, variant_ids, own_links, with_above, categories}
use Rattle.idx_category.specs.Touching.{moved, layers}

-- the key is one of a live row of the entity
abbrev pub is_live_of : Entity → Key → Bool
is_live_of entity key = (key.version == 0) && is_entity entity key.entity

-- the product whose own row, or a link of whose own, stands at the key
abbrev pub product_at : Key → List ℕ
product_at key = if is_live_of E.Product key then key.id ∷ [] else if is_live_of E.ProductCategory key then key.id ∷ [] else []

-- the products that changes are of
abbrev pub changed_products : List Change → List ℕ
changed_products changes = flat_map (λ change. product_at change.0) changes

-- the products with a link of their own to a category
abbrev pub linked_to : List Row → ℕ → List ℕ
linked_to rows category = map (λ link. link.key.id) (filter (λ link. link.key.second == category) (live_rows rows E.ProductCategory))

-- the products that changed, and those with a link to a category that was moved or is below one
abbrev pub own_products : List Row → List Row → List Change → List ℕ
own_products before after changes = changed_products changes ++ flat_map (linked_to after) (layers (children_of after) 32 (moved before after changes))

-- products, and the variants of each
abbrev pub with_variants : List Row → List ℕ → List ℕ
with_variants rows ids = ids ++ flat_map (variant_ids rows) ids

abbrev pub products_of : List Row → List Row → List Change → List ℕ
products_of before after changes = with_variants after (own_products before after changes)

-- outside of these products each has the same row before and after, the same parent, and stands in the same categories
pub record IsOutside (before after : List Row) (products : List ℕ) : Type 0 where
  pub row : (id : ℕ) → has products id ≡ false → product before id ≡ product after id
  pub parent : (id : ℕ) (row : Row) → has products id ≡ false → product after id ≡ Some row → parent_of before row ≡ parent_of after row
  pub stood_in : (id : ℕ) (row : Row) → has products id ≡ false → product after id ≡ Some row → categories before row ≡ categories after row
  pub own_stood_in : (id : ℕ) → has products id ≡ false → with_above before (own_links before id) ≡ with_above after (own_links after id)
