-- The entities and their fields, looked up in the tables.
use Rattle.std.specs.Prelude.{ℕ, ◌==◌, List, Option}
use Rattle.std.specs.List.{find}
use Rattle.std.specs.Option.{option_map}
use Rattle.std.specs.Str.{bytes_eq}
use Rattle.shop_defs.specs.declared.entity.Entity.{Entity}
use Rattle.shop_defs.specs.declared.entity.Entity.TheVariants as E
use Rattle.shop_defs.specs.Entities.{entity_number}
use Rattle.shop_defs.specs.declared.table.EntityInfo.{EntityInfo}
use Rattle.shop_defs.specs.declared.table.FieldInfo.{FieldInfo}
use Rattle.shop_defs.specs.declared.table.TheConstants.{ENTITIES, LANGUAGE_FIELDS, TAX_FIELDS, CATEGORY_FIELDS, CATEGORY_TRANSLATION_FIELDS, PRODUCT_FIELDS, PRODUCT_TRANSLATION_FIELDS, PRODUCT_CATEGORY_FIELDS, PRODUCT_PRICE_FIELDS, STREAM_FIELDS, STREAM_FILTER_FIELDS, RULE_FIELDS, RULE_CONDITION_FIELDS, PROMOTION_FIELDS, PROMOTION_DISCOUNT_FIELDS, SHIPPING_METHOD_FIELDS, SHIPPING_PRICE_FIELDS, STOCK_FIELDS, CART_FIELDS, CART_LINE_FIELDS, CART_CODE_FIELDS, ORDER_FIELDS, ORDER_LINE_FIELDS, ORDER_TAX_FIELDS, DRAFT_FIELDS, DRAFT_COMMIT_FIELDS}
use Rattle.shop_defs.specs.Texts.{entity_text, field_text}

-- the fields of an entity
unfoldable pub fields_of : Entity → List FieldInfo
fields_of E.Language = LANGUAGE_FIELDS
fields_of E.Tax = TAX_FIELDS
fields_of E.Category = CATEGORY_FIELDS
fields_of E.CategoryTranslation = CATEGORY_TRANSLATION_FIELDS
fields_of E.Product = PRODUCT_FIELDS
fields_of E.ProductTranslation = PRODUCT_TRANSLATION_FIELDS
fields_of E.ProductCategory = PRODUCT_CATEGORY_FIELDS
fields_of E.ProductPrice = PRODUCT_PRICE_FIELDS
fields_of E.Stream = STREAM_FIELDS
fields_of E.StreamFilter = STREAM_FILTER_FIELDS
fields_of E.Rule = RULE_FIELDS
fields_of E.RuleCondition = RULE_CONDITION_FIELDS
fields_of E.Promotion = PROMOTION_FIELDS
fields_of E.PromotionDiscount = PROMOTION_DISCOUNT_FIELDS
fields_of E.ShippingMethod = SHIPPING_METHOD_FIELDS
fields_of E.ShippingPrice = SHIPPING_PRICE_FIELDS
fields_of E.Stock = STOCK_FIELDS
fields_of E.Cart = CART_FIELDS
fields_of E.CartLine = CART_LINE_FIELDS
fields_of E.CartCode = CART_CODE_FIELDS
fields_of E.Order = ORDER_FIELDS
fields_of E.OrderLine = ORDER_LINE_FIELDS
fields_of E.OrderTax = ORDER_TAX_FIELDS
fields_of E.Draft = DRAFT_FIELDS
fields_of E.DraftCommit = DRAFT_COMMIT_FIELDS

-- the entity of the table with that name
abbrev pub entity_in : List EntityInfo → List ℕ → Option EntityInfo
entity_in table name = find (λ info. bytes_eq (entity_text info.entity) name) table

-- the line of the table on an entity
abbrev pub line_in : List EntityInfo → Entity → Option EntityInfo
line_in table entity = find (λ info. entity_number info.entity == entity_number entity) table

-- the field of the table with that name
abbrev pub name_in : List FieldInfo → List ℕ → Option FieldInfo
name_in table name = find (λ field. bytes_eq (field_text field.name) name) table

-- the field of the table with that number
abbrev pub number_in : List FieldInfo → ℕ → Option FieldInfo
number_in table number = find (λ field. field.number == number) table

-- what the table says of an entity
unfoldable pub info_of : Entity → Option EntityInfo
info_of entity = line_in ENTITIES entity

-- what the table says of the entity with that name
unfoldable pub info_named : List ℕ → Option EntityInfo
info_named name = entity_in ENTITIES name

-- the entity with that name
abbrev pub entity_named : List ℕ → Option Entity
entity_named name = option_map (λ info. info.entity) (info_named name)

-- the field of the entity with that name
abbrev pub field_with_name : Entity → List ℕ → Option FieldInfo
field_with_name entity name = name_in (fields_of entity) name

-- the number of the field with that name
abbrev pub field_named : Entity → List ℕ → Option ℕ
field_named entity name = option_map (λ field. field.number) (field_with_name entity name)

-- the field of the entity with that number
abbrev pub field_at : Entity → ℕ → Option FieldInfo
field_at entity number = number_in (fields_of entity) number
