-- The numbers by which the code looks fields up are those that the table has for their names.
use Rattle.std.proofs.Common.{◌≡◌, refl}
use Rattle.shop_defs.specs.declared.entity.Entity.TheVariants as E
use Rattle.shop_defs.specs.declared.words.FieldName.TheVariants as N
use Rattle.shop_defs.specs.Tables.{fields_of}
use Rattle.row_fields.specs.Fields.{number_of}

pub tax_rate : number_of E.Tax N.Rate ≡ 2
unfolding number_of fields_of
tax_rate = refl

pub product_active : number_of E.Product N.Active ≡ 3
unfolding number_of fields_of
product_active = refl

pub product_gross : number_of E.Product N.Gross ≡ 5
unfolding number_of fields_of
product_gross = refl

pub product_net : number_of E.Product N.Net ≡ 6
unfolding number_of fields_of
product_net = refl

pub product_weight : number_of E.Product N.Weight ≡ 7
unfolding number_of fields_of
product_weight = refl

pub product_min : number_of E.Product N.MinOrder ≡ 8
unfolding number_of fields_of
product_min = refl

pub product_max : number_of E.Product N.MaxOrder ≡ 9
unfolding number_of fields_of
product_max = refl

pub price_rule : number_of E.ProductPrice N.Rule ≡ 2
unfolding number_of fields_of
price_rule = refl

pub price_low : number_of E.ProductPrice N.Low ≡ 3
unfolding number_of fields_of
price_low = refl

pub price_high : number_of E.ProductPrice N.High ≡ 4
unfolding number_of fields_of
price_high = refl

pub price_gross : number_of E.ProductPrice N.Gross ≡ 5
unfolding number_of fields_of
price_gross = refl

pub price_net : number_of E.ProductPrice N.Net ≡ 6
unfolding number_of fields_of
price_net = refl

pub promotion_active : number_of E.Promotion N.Active ≡ 2
unfolding number_of fields_of
promotion_active = refl

pub promotion_code : number_of E.Promotion N.Code ≡ 3
unfolding number_of fields_of
promotion_code = refl

pub promotion_from : number_of E.Promotion N.FromMoment ≡ 4
unfolding number_of fields_of
promotion_from = refl

pub promotion_until : number_of E.Promotion N.UntilMoment ≡ 5
unfolding number_of fields_of
promotion_until = refl

pub promotion_rule : number_of E.Promotion N.Rule ≡ 7
unfolding number_of fields_of
promotion_rule = refl

pub discount_scope : number_of E.PromotionDiscount N.Scope ≡ 2
unfolding number_of fields_of
discount_scope = refl

pub discount_kind : number_of E.PromotionDiscount N.Kind ≡ 3
unfolding number_of fields_of
discount_kind = refl

pub discount_value : number_of E.PromotionDiscount N.Value ≡ 4
unfolding number_of fields_of
discount_value = refl

pub method_active : number_of E.ShippingMethod N.Active ≡ 2
unfolding number_of fields_of
method_active = refl

pub method_rule : number_of E.ShippingMethod N.Rule ≡ 4
unfolding number_of fields_of
method_rule = refl

pub shipping_rule : number_of E.ShippingPrice N.Rule ≡ 2
unfolding number_of fields_of
shipping_rule = refl

pub shipping_by : number_of E.ShippingPrice N.By ≡ 3
unfolding number_of fields_of
shipping_by = refl

pub shipping_low : number_of E.ShippingPrice N.Low ≡ 4
unfolding number_of fields_of
shipping_low = refl

pub shipping_high : number_of E.ShippingPrice N.High ≡ 5
unfolding number_of fields_of
shipping_high = refl

pub shipping_gross : number_of E.ShippingPrice N.Gross ≡ 6
unfolding number_of fields_of
shipping_gross = refl

pub shipping_net : number_of E.ShippingPrice N.Net ≡ 7
unfolding number_of fields_of
shipping_net = refl

pub cart_tax_state : number_of E.Cart N.TaxState ≡ 2
unfolding number_of fields_of
cart_tax_state = refl

pub cart_tax_mode : number_of E.Cart N.TaxMode ≡ 3
unfolding number_of fields_of
cart_tax_mode = refl

pub cart_interval : number_of E.Cart N.Interval ≡ 4
unfolding number_of fields_of
cart_interval = refl

pub line_product : number_of E.CartLine N.Product ≡ 2
unfolding number_of fields_of
line_product = refl

pub line_quantity : number_of E.CartLine N.Quantity ≡ 3
unfolding number_of fields_of
line_quantity = refl

pub code_text : number_of E.CartCode N.Code ≡ 2
unfolding number_of fields_of
code_text = refl

pub ruleset numbers = (tax_rate, product_active, product_gross, product_net, product_weight, product_min, product_max, price_rule, price_low, price_high, price_gross, price_net, promotion_active, promotion_code, promotion_from, promotion_until, promotion_rule, discount_scope, discount_kind, discount_value, method_active, method_rule, shipping_rule, shipping_by, shipping_low, shipping_high, shipping_gross, shipping_net, cart_tax_state, cart_tax_mode, cart_interval, line_product, line_quantity, code_text)
