-- What counts for a product: its own, and else its parent's.
use Rattle.std.specs.Prelude.{ℕ, ◌==◌, Bool, List, [], ◌∷◌, map, filter, Option}
use Rattle.std.specs.List.{flat_map, list_any}
use Rattle.std.specs.Option.{option_map_or, option_and_then}
use Rattle.shop_defs.specs.declared.entity.Entity.TheVariants as E
use Rattle.shop_defs.specs.declared.row.Row.{Row}
use Rattle.shop_defs.specs.declared.table.TheConstants.{REFERENCES}
use Rattle.shop_defs.specs.declared.value.Value.{Value}
use Rattle.shop_defs.specs.declared.words.FieldName.TheVariants as N
use Rattle.shop_operations.specs.Parents.{children, parent_id}
use Rattle.shop_operations.specs.References.{of_version}
use Rattle.shop_chain.specs.Inheriting.{effective}
use Rattle.row_fields.specs.Fields.{number_of, is_set}
use Rattle.shop_meanings.specs.Live.{live_row, live_rows}
use Rattle.shop_meanings.specs.Categories.{path}

-- the live product with that id
abbrev pub product : List Row → ℕ → Option Row
product rows id = live_row rows E.Product id

-- the product that a product names as its parent
abbrev pub parent_of : List Row → Row → Option Row
parent_of rows row = option_and_then (product rows) (parent_id REFERENCES row)

-- the ids of a product's variants
abbrev pub variant_ids : List Row → ℕ → List ℕ
variant_ids rows id = children REFERENCES (of_version 0 rows) E.Product id

-- what counts for a field: the product's own value, and where it has none what it inherits
abbrev pub value_of : List Row → Row → ℕ → Option Value
value_of rows row field = effective row (parent_of rows row) field

abbrev pub is_active : Row → Bool
is_active row = is_set row (number_of E.Product N.Active)

-- the id is among these
abbrev pub is_among : List ℕ → ℕ → Bool
is_among ids id = list_any (λ other. other == id) ids

-- the first list, and where it is empty the other
abbrev pub or_else : {X : Type 0} → List X → List X → List X
or_else [] other = other
or_else (x ∷ xs) other = x ∷ xs

-- the categories that the product with that id is linked to itself
abbrev pub own_links : List Row → ℕ → List ℕ
own_links rows id = map (λ link. link.key.second) (filter (λ link. link.key.id == id) (live_rows rows E.ProductCategory))

-- the links that count: its own, and where it has none those of its parent
abbrev pub links_by : List Row → ℕ → Option ℕ → List ℕ
links_by rows id parent = or_else (own_links rows id) (option_map_or (own_links rows) parent [])

-- categories, each with those above it
abbrev pub with_above : List Row → List ℕ → List ℕ
with_above rows ids = flat_map (λ id. id ∷ path rows id) ids

-- the categories that a product stands in: those that it is linked to, by the links that count, and all above them
abbrev pub categories : List Row → Row → List ℕ
categories rows row = with_above rows (links_by rows row.key.id (parent_id REFERENCES row))

-- the ids of the live products that pass a test, ascending
abbrev pub picked : (Row → Bool) → List Row → List ℕ
picked test rows = map (λ row. row.key.id) (filter test (live_rows rows E.Product))
