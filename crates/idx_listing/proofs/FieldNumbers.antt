-- The numbers by which the code looks fields up are those that the table has for their names.
use Rattle.std.proofs.Common.{◌≡◌, refl}
use Rattle.shop_defs.specs.declared.entity.Entity.TheVariants as E
use Rattle.shop_defs.specs.declared.words.FieldName.TheVariants as N
use Rattle.shop_defs.specs.Tables.{fields_of}
use Rattle.row_fields.specs.Fields.{number_of}

pub product_active : number_of E.Product N.Active ≡ 3
unfolding number_of fields_of
product_active = refl

pub product_gross : number_of E.Product N.Gross ≡ 5
unfolding number_of fields_of
product_gross = refl

pub ruleset numbers = (product_active, product_gross)
