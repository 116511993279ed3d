-- The numbers by which the code looks fields up are those that the table has for their names.
use Rattle.std.proofs.Common.{◌≡◌, refl}
use Rattle.shop_defs.specs.declared.entity.Entity.TheVariants as E
use Rattle.shop_defs.specs.declared.words.FieldName.TheVariants as N
use Rattle.shop_defs.specs.Tables.{fields_of}
use Rattle.row_fields.specs.Fields.{number_of}

pub condition_rule : number_of E.RuleCondition N.Rule ≡ 1
unfolding number_of fields_of
condition_rule = refl

pub condition_kind : number_of E.RuleCondition N.Kind ≡ 3
unfolding number_of fields_of
condition_kind = refl

pub condition_low : number_of E.RuleCondition N.Low ≡ 4
unfolding number_of fields_of
condition_low = refl

pub condition_high : number_of E.RuleCondition N.High ≡ 5
unfolding number_of fields_of
condition_high = refl

pub condition_from_day : number_of E.RuleCondition N.FromDay ≡ 6
unfolding number_of fields_of
condition_from_day = refl

pub condition_to_day : number_of E.RuleCondition N.ToDay ≡ 7
unfolding number_of fields_of
condition_to_day = refl

pub condition_text : number_of E.RuleCondition N.Text ≡ 8
unfolding number_of fields_of
condition_text = refl

pub condition_product : number_of E.RuleCondition N.Product ≡ 9
unfolding number_of fields_of
condition_product = refl

pub condition_method : number_of E.RuleCondition N.Method ≡ 10
unfolding number_of fields_of
condition_method = refl

pub ruleset numbers = (condition_rule, condition_kind, condition_low, condition_high, condition_from_day, condition_to_day, condition_text, condition_product, condition_method)
