-- The kinds of row, by number.
use Rattle.std.specs.Prelude.{ℕ}
use Rattle.shop_defs.specs.declared.entity.Entity.{Entity}
use Rattle.shop_defs.specs.declared.entity.Entity.TheVariants.{Language, Tax, Category, CategoryTranslation, Product, ProductTranslation, ProductCategory, ProductPrice, Stream, StreamFilter, Rule, RuleCondition, Promotion, PromotionDiscount, ShippingMethod, ShippingPrice, Stock, Cart, CartLine, CartCode, Order, OrderLine, OrderTax, Draft, DraftCommit}

-- the number of an entity: keys are ordered by it
abbrev pub entity_number : Entity → ℕ
entity_number Language = 1
entity_number Tax = 2
entity_number Category = 3
entity_number CategoryTranslation = 4
entity_number Product = 5
entity_number ProductTranslation = 6
entity_number ProductCategory = 7
entity_number ProductPrice = 8
entity_number Stream = 9
entity_number StreamFilter = 10
entity_number Rule = 11
entity_number RuleCondition = 12
entity_number Promotion = 13
entity_number PromotionDiscount = 14
entity_number ShippingMethod = 15
entity_number ShippingPrice = 16
entity_number Stock = 17
entity_number Cart = 18
entity_number CartLine = 19
entity_number CartCode = 20
entity_number Order = 21
entity_number OrderLine = 22
entity_number OrderTax = 23
entity_number Draft = 24
entity_number DraftCommit = 25
