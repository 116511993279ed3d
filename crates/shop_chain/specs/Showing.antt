-- What is shown of a product or a category beside the fields of its own row.
use Rattle.std.specs.Prelude.{ℕ, Bool, ◌==◌, List, [], ◌∷◌, map, Option, None, if◌then◌else◌, option_and_then}
use Rattle.std.specs.Option.{option_copied}
use Rattle.shop_defs.specs.declared.entity.Entity.TheVariants as E
use Rattle.shop_defs.specs.declared.key.Key.{Key}
use Rattle.shop_defs.specs.declared.row.Row.{Row}
use Rattle.shop_defs.specs.declared.value.Value.{Value}
use Rattle.shop_defs.specs.declared.words.FieldName.{FieldName}
use Rattle.shop_defs.specs.declared.words.FieldName.TheVariants as N
use Rattle.shop_defs.specs.Entities.{entity_number}
use Rattle.shop_defs.specs.Texts.{field_text}
use Rattle.shop_chain.specs.declared.lent.ShownValue.{ShownValue}
use Rattle.shop_chain.specs.Chains.{number_of, id_in}
use Rattle.shop_chain.specs.Inheriting.{effective}
use Rattle.shop_chain.specs.Translations as texts

-- the names of what is shown, each with its value: none where there is none
abbrev pub ShownList : Type 0
ShownList = List (List ℕ × Option Value)

-- the key of a product
abbrev pub product_key : ℕ → ℕ → Key
product_key version product = record { entity = E.Product; version = version; id = product; second = 0 }

-- the parent that is asked: the one that the product's row names, where inheritance is asked for
abbrev pub asked_parent : Row → Bool → Option ℕ
asked_parent row inherits = if inherits then id_in row (number_of E.Product N.Parent) else None

-- what a product shows for a field of its own row
abbrev pub product_value : (Key → Option Row) → ℕ → Row → Bool → FieldName → List ℕ × Option Value
product_value look version row inherits name =
    (field_text name, effective row (option_and_then (λ parent. look (product_key version parent)) (asked_parent row inherits)) (number_of E.Product name))

-- what a product shows for a field of its translations
abbrev pub product_text : (Key → Option Row) → ℕ → Row → Bool → List ℕ → FieldName → List ℕ × Option Value
product_text look version row inherits languages name =
    (field_text name, texts.as_value (texts.text_of look version row.key.id (asked_parent row inherits) (number_of E.ProductTranslation name) languages))

-- what a category shows for a field of its translations
abbrev pub category_text : (Key → Option Row) → ℕ → Row → List ℕ → FieldName → List ℕ × Option Value
category_text look version row languages name =
    (field_text name, texts.as_value (texts.category_text look version row.key.id (number_of E.CategoryTranslation name) languages))

-- what is shown of a product
abbrev pub product_shown : (Key → Option Row) → ℕ → Row → Bool → List ℕ → ShownList
product_shown look version row inherits languages =
    let text = product_text look version row inherits languages in
    let value = product_value look version row inherits in
    text N.Description ∷ value N.Gross ∷ value N.MaxOrder ∷ value N.MinOrder ∷ text N.Name ∷ value N.Net ∷ value N.Tax ∷ value N.Weight ∷ []

-- what is shown of a category
abbrev pub category_shown : (Key → Option Row) → ℕ → Row → List ℕ → ShownList
category_shown look version row languages =
    let text = category_text look version row languages in
    text N.Description ∷ text N.Name ∷ []

-- what is shown beside a row: nothing where it is neither a product nor a category
abbrev pub shown : (Key → Option Row) → ℕ → Row → Bool → List ℕ → ShownList
shown look version row inherits languages =
    if entity_number row.key.entity == entity_number E.Product then product_shown look version row inherits languages
    else if entity_number row.key.entity == entity_number E.Category then category_shown look version row languages
    else []

-- what was lent, as names and values
abbrev pub lent : List ShownValue → ShownList
lent values = map (λ value. (field_text value.name, option_copied value.value)) values
