-- Which categories a change of rows may make list other products.
use Rattle.std.specs.Prelude.{ℕ, ◌≡◌, false, Bool, ◌&&◌, List, [], ◌∷◌, ◌++◌, Option, Some, is_none, unwrap_or, if◌then◌else◌}
use Rattle.std.specs.List.{flat_map}
use Rattle.std.specs.Option.{option_map_or}
use Rattle.shop_defs.specs.declared.entity.Entity.TheVariants as E
use Rattle.shop_defs.specs.declared.key.Key.{Key}
use Rattle.shop_defs.specs.declared.row.Row.{Row}
use Rattle.shop_defs.specs.declared.table.TheConstants.{REFERENCES}
use Rattle.shop_defs.specs.Joined.{Change}
use Rattle.shop_operations.specs.Parents.{parent_id}
use Rattle.id_sets.specs.Sets.{has, AreAscending}
use Rattle.shop_meanings.specs.Categories.{children_of}
use Rattle.product_meanings.specs.Products.{product, is_active, own_links, with_above}
use Rattle.product_meanings.specs.Listings.{is_listed, listed}
use Rattle.idx_category.specs.Touching.{layers}
use Rattle.product_rows.specs.Affecting.{is_live_of, linked_to}

-- the product is active and no variant
abbrev pub is_sold_by_itself : Row → Bool
is_sold_by_itself row = is_active row && is_none (parent_id REFERENCES row)

-- the category lists the product with that id: not where there is no such live product
abbrev pub belongs : List Row → ℕ → ℕ → Bool
belongs rows category id = option_map_or (is_listed rows category) (product rows id) false

-- the products with a link of their own to the category or to one below it
abbrev pub linked_below : List Row → ℕ → List ℕ
linked_below rows category = flat_map (linked_to rows) (layers (children_of rows) 32 (category ∷ []))

-- the category whose own row stands at the key
abbrev pub category_at : Key → List ℕ
category_at key = if is_live_of E.Category key then key.id ∷ [] else []

abbrev pub changed_categories : List Change → List ℕ
changed_categories changes = flat_map (λ change. category_at change.0) changes

-- the categories to which, or to one below which, the product has a link of its own, before and after
abbrev pub stood_in : List Row → List Row → ℕ → List ℕ
stood_in before after id = with_above before (own_links before id) ++ with_above after (own_links after id)

-- the categories that came, went or changed, and those that the products stood in or stand in by links of their own
abbrev pub relisted : List Row → List Row → List Change → List ℕ → List ℕ
relisted before after changes products = changed_categories changes ++ flat_map (stood_in before after) products

-- outside of these products each belongs to the same lists before and after, and outside of these categories each lists the same products
pub record IsOutside (before after : List Row) (products categories : List ℕ) : Type 0 where
  pub belonging : (category id : ℕ) → has products id ≡ false → belongs before category id ≡ belongs after category id
  pub lists : (category : ℕ) → has categories category ≡ false → listed before category ≡ listed after category

-- each of the products is among the ids where the category lists it, and the others are as before; the ids ascend
pub record IsEdited (rows : List Row) (category : ℕ) (old products : List ℕ) (edited : Option (List ℕ)) : Type 0 where
  pub members : (id : ℕ) → has (unwrap_or edited old) id ≡ (if has products id then belongs rows category id else has old id)
  pub ascend : AreAscending (unwrap_or edited old)

-- what stands at a category is the edited list
pub record IsRenewed (rows : List Row) (category : ℕ) (old products : List ℕ) (now : Option (List ℕ)) : Type 0 where
  pub edited : Option (List ℕ)
  pub is : IsEdited rows category old products edited
  pub left : now ≡ Some (unwrap_or edited old)
