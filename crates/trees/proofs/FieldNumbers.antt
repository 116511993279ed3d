-- The numbers by which the code looks fields up are those that the table has for their names.
use Rattle.std.proofs.Common.{◌≡◌, refl}
use Rattle.shop_defs.specs.declared.entity.Entity.TheVariants as E
use Rattle.shop_defs.specs.declared.words.FieldName.TheVariants as N
use Rattle.shop_defs.specs.Tables.{fields_of}
use Rattle.row_fields.specs.Fields.{number_of}

pub condition_parent : number_of E.RuleCondition N.Parent ≡ 2
unfolding number_of fields_of
condition_parent = refl

pub condition_kind : number_of E.RuleCondition N.Kind ≡ 3
unfolding number_of fields_of
condition_kind = refl

pub filter_parent : number_of E.StreamFilter N.Parent ≡ 2
unfolding number_of fields_of
filter_parent = refl

pub filter_kind : number_of E.StreamFilter N.Kind ≡ 3
unfolding number_of fields_of
filter_kind = refl

pub ruleset numbers = (condition_parent, condition_kind, filter_parent, filter_kind)
