-- The numbers by which the code looks fields up are those that the table has for their names.
use Rattle.std.proofs.Common.{◌≡◌, refl}
use Rattle.shop_defs.specs.declared.entity.Entity.TheVariants as E
use Rattle.shop_defs.specs.declared.words.FieldName.TheVariants as N
use Rattle.shop_defs.specs.Tables.{fields_of}
use Rattle.shop_chain.specs.Chains.{number_of}

pub language_parent : number_of E.Language N.Parent ≡ 2
unfolding number_of fields_of
language_parent = refl

pub product_parent : number_of E.Product N.Parent ≡ 1
unfolding number_of fields_of
product_parent = refl

pub product_tax : number_of E.Product N.Tax ≡ 4
unfolding number_of fields_of
product_tax = refl

pub product_gross : number_of E.Product N.Gross ≡ 5
unfolding number_of fields_of
product_gross = refl

pub product_net : number_of E.Product N.Net ≡ 6
unfolding number_of fields_of
product_net = refl

pub product_weight : number_of E.Product N.Weight ≡ 7
unfolding number_of fields_of
product_weight = refl

pub product_min_order : number_of E.Product N.MinOrder ≡ 8
unfolding number_of fields_of
product_min_order = refl

pub product_max_order : number_of E.Product N.MaxOrder ≡ 9
unfolding number_of fields_of
product_max_order = refl

pub product_name : number_of E.ProductTranslation N.Name ≡ 1
unfolding number_of fields_of
product_name = refl

pub product_description : number_of E.ProductTranslation N.Description ≡ 2
unfolding number_of fields_of
product_description = refl

pub category_name : number_of E.CategoryTranslation N.Name ≡ 1
unfolding number_of fields_of
category_name = refl

pub category_description : number_of E.CategoryTranslation N.Description ≡ 2
unfolding number_of fields_of
category_description = refl

pub ruleset numbers = (language_parent, product_parent, product_tax, product_gross, product_net, product_weight, product_min_order, product_max_order, product_name, product_description, category_name, category_description)
