-- The names of entities and fields, and the words that a field may choose from.
use Rattle.std.specs.Prelude.{ℕ, List, [], ◌∷◌, codes}
use Rattle.shop_defs.specs.declared.entity.Entity.{Entity}
use Rattle.shop_defs.specs.declared.entity.Entity.TheVariants as E
use Rattle.shop_defs.specs.declared.words.FieldName.{FieldName}
use Rattle.shop_defs.specs.declared.words.FieldName.TheVariants as N
use Rattle.shop_defs.specs.declared.words.Choice.{Choice}
use Rattle.shop_defs.specs.declared.words.Choice.TheVariants as C

-- the name of an entity
abbrev pub entity_text : Entity → List ℕ
entity_text E.Language = codes "language"
entity_text E.Tax = codes "tax"
entity_text E.Category = codes "category"
entity_text E.CategoryTranslation = codes "category_translation"
entity_text E.Product = codes "product"
entity_text E.ProductTranslation = codes "product_translation"
entity_text E.ProductCategory = codes "product_category"
entity_text E.ProductPrice = codes "product_price"
entity_text E.Stream = codes "stream"
entity_text E.StreamFilter = codes "stream_filter"
entity_text E.Rule = codes "rule"
entity_text E.RuleCondition = codes "rule_condition"
entity_text E.Promotion = codes "promotion"
entity_text E.PromotionDiscount = codes "promotion_discount"
entity_text E.ShippingMethod = codes "shipping_method"
entity_text E.ShippingPrice = codes "shipping_price"
entity_text E.Stock = codes "stock"
entity_text E.Cart = codes "cart"
entity_text E.CartLine = codes "cart_line"
entity_text E.CartCode = codes "cart_code"
entity_text E.Order = codes "order"
entity_text E.OrderLine = codes "order_line"
entity_text E.OrderTax = codes "order_tax"
entity_text E.Draft = codes "draft"
entity_text E.DraftCommit = codes "draft_commit"

-- the name of a field
abbrev pub field_text : FieldName → List ℕ
field_text N.Name = codes "name"
field_text N.Parent = codes "parent"
field_text N.Rate = codes "rate"
field_text N.Active = codes "active"
field_text N.Position = codes "position"
field_text N.Description = codes "description"
field_text N.Number = codes "number"
field_text N.Tax = codes "tax"
field_text N.Gross = codes "gross"
field_text N.Net = codes "net"
field_text N.Weight = codes "weight"
field_text N.MinOrder = codes "min_order"
field_text N.MaxOrder = codes "max_order"
field_text N.Product = codes "product"
field_text N.Rule = codes "rule"
field_text N.Low = codes "low"
field_text N.High = codes "high"
field_text N.Stream = codes "stream"
field_text N.Kind = codes "kind"
field_text N.Field = codes "field"
field_text N.Value = codes "value"
field_text N.Category = codes "category"
field_text N.Priority = codes "priority"
field_text N.FromDay = codes "from_day"
field_text N.ToDay = codes "to_day"
field_text N.Text = codes "text"
field_text N.Method = codes "method"
field_text N.Code = codes "code"
field_text N.FromMoment = codes "from_moment"
field_text N.UntilMoment = codes "until_moment"
field_text N.Promotion = codes "promotion"
field_text N.Scope = codes "scope"
field_text N.By = codes "by"
field_text N.Available = codes "available"
field_text N.Adjusted = codes "adjusted"
field_text N.Language = codes "language"
field_text N.TaxState = codes "tax_state"
field_text N.TaxMode = codes "tax_mode"
field_text N.Interval = codes "interval"
field_text N.Group = codes "group"
field_text N.Country = codes "country"
field_text N.Cart = codes "cart"
field_text N.Quantity = codes "quantity"
field_text N.State = codes "state"
field_text N.Placed = codes "placed"
field_text N.Total = codes "total"
field_text N.Rounding = codes "rounding"
field_text N.Label = codes "label"
field_text N.Unit = codes "unit"
field_text N.Amount = codes "amount"
field_text N.RootEntity = codes "root_entity"
field_text N.Root = codes "root"
field_text N.Commits = codes "commits"
field_text N.Count = codes "count"

-- the words that may be chosen
abbrev pub choice_texts : Choice → List (List ℕ)
choice_texts C.FilterKind = codes "and" ∷ codes "or" ∷ codes "not" ∷ codes "equals" ∷ codes "range" ∷ codes "in_category" ∷ []
choice_texts C.FilterField = codes "gross" ∷ codes "net" ∷ codes "weight" ∷ codes "tax" ∷ codes "number" ∷ codes "active" ∷ []
choice_texts C.ConditionKind = codes "and" ∷ codes "or" ∷ codes "not" ∷ codes "amount" ∷ codes "count" ∷ codes "weight" ∷ codes "weekday" ∷ codes "day" ∷ codes "group" ∷ codes "country" ∷ codes "product" ∷ codes "method" ∷ []
choice_texts C.DiscountScope = codes "cart" ∷ codes "delivery" ∷ []
choice_texts C.DiscountKind = codes "absolute" ∷ codes "percent" ∷ []
choice_texts C.PriceBy = codes "count" ∷ codes "price" ∷ codes "weight" ∷ []
choice_texts C.TaxState = codes "gross" ∷ codes "net" ∷ codes "free" ∷ []
choice_texts C.TaxMode = codes "horizontal" ∷ codes "vertical" ∷ []
choice_texts C.OrderState = codes "open" ∷ codes "in_progress" ∷ codes "completed" ∷ codes "cancelled" ∷ []
choice_texts C.LineKind = codes "product" ∷ codes "discount" ∷ codes "delivery" ∷ codes "delivery_discount" ∷ []
choice_texts C.RootEntity = codes "product" ∷ codes "category" ∷ []
