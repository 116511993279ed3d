-- The numbers by which the code looks fields up are those that the table has for their names.
use Rattle.std.proofs.Common.{◌≡◌, refl}
use Rattle.shop_defs.specs.declared.entity.Entity.TheVariants as E
use Rattle.shop_defs.specs.declared.words.FieldName.TheVariants as N
use Rattle.shop_defs.specs.Tables.{fields_of}
use Rattle.row_fields.specs.Fields.{number_of}

pub cart_language : number_of E.Cart N.Language ≡ 1
unfolding number_of fields_of
cart_language = refl

pub cart_method : number_of E.Cart N.Method ≡ 7
unfolding number_of fields_of
cart_method = refl

pub line_cart : number_of E.CartLine N.Cart ≡ 1
unfolding number_of fields_of
line_cart = refl

pub line_product : number_of E.CartLine N.Product ≡ 2
unfolding number_of fields_of
line_product = refl

pub line_position : number_of E.CartLine N.Position ≡ 4
unfolding number_of fields_of
line_position = refl

pub code_cart : number_of E.CartCode N.Cart ≡ 1
unfolding number_of fields_of
code_cart = refl

pub method_tax : number_of E.ShippingMethod N.Tax ≡ 3
unfolding number_of fields_of
method_tax = refl

pub price_method : number_of E.ShippingPrice N.Method ≡ 1
unfolding number_of fields_of
price_method = refl

pub price_product : number_of E.ProductPrice N.Product ≡ 1
unfolding number_of fields_of
price_product = refl

pub product_parent : number_of E.Product N.Parent ≡ 1
unfolding number_of fields_of
product_parent = refl

pub product_tax : number_of E.Product N.Tax ≡ 4
unfolding number_of fields_of
product_tax = refl

pub promotion_priority : number_of E.Promotion N.Priority ≡ 6
unfolding number_of fields_of
promotion_priority = refl

pub discount_promotion : number_of E.PromotionDiscount N.Promotion ≡ 1
unfolding number_of fields_of
discount_promotion = refl

pub translated_name : number_of E.ProductTranslation N.Name ≡ 1
unfolding number_of fields_of
translated_name = refl

pub ruleset numbers = (cart_language, cart_method, line_product, line_position, method_tax, product_parent, product_tax, promotion_priority, translated_name)
