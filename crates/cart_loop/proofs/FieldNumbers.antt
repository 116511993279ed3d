-- The numbers by which the code looks fields up are those that the table has for their names.
use Rattle.std.proofs.Common.{◌≡◌, refl}
use Rattle.shop_defs.specs.declared.entity.Entity.TheVariants as E
use Rattle.shop_defs.specs.declared.words.FieldName.TheVariants as N
use Rattle.shop_defs.specs.Tables.{fields_of}
use Rattle.row_fields.specs.Fields.{number_of}

pub cart_group : number_of E.Cart N.Group ≡ 5
unfolding number_of fields_of
cart_group = refl

pub cart_country : number_of E.Cart N.Country ≡ 6
unfolding number_of fields_of
cart_country = refl

pub cart_method : number_of E.Cart N.Method ≡ 7
unfolding number_of fields_of
cart_method = refl

pub method_name : number_of E.ShippingMethod N.Name ≡ 1
unfolding number_of fields_of
method_name = refl

pub product_number : number_of E.Product N.Number ≡ 2
unfolding number_of fields_of
product_number = refl

pub promotion_name : number_of E.Promotion N.Name ≡ 1
unfolding number_of fields_of
promotion_name = refl

pub rule_priority : number_of E.Rule N.Priority ≡ 2
unfolding number_of fields_of
rule_priority = refl

pub ruleset numbers = (cart_group, cart_country, cart_method, method_name, product_number, promotion_name, rule_priority)
