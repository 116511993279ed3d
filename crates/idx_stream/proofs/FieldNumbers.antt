-- The numbers by which the code looks fields up are those that the table has for their names.
use Rattle.std.proofs.Common.{◌≡◌, refl}
use Rattle.shop_defs.specs.declared.entity.Entity.TheVariants as E
use Rattle.shop_defs.specs.declared.words.FieldName.TheVariants as N
use Rattle.shop_defs.specs.Tables.{fields_of}
use Rattle.row_fields.specs.Fields.{number_of}

pub filter_stream : number_of E.StreamFilter N.Stream ≡ 1
unfolding number_of fields_of
filter_stream = refl

pub filter_kind : number_of E.StreamFilter N.Kind ≡ 3
unfolding number_of fields_of
filter_kind = refl

pub filter_field : number_of E.StreamFilter N.Field ≡ 4
unfolding number_of fields_of
filter_field = refl

pub filter_value : number_of E.StreamFilter N.Value ≡ 5
unfolding number_of fields_of
filter_value = refl

pub filter_low : number_of E.StreamFilter N.Low ≡ 6
unfolding number_of fields_of
filter_low = refl

pub filter_high : number_of E.StreamFilter N.High ≡ 7
unfolding number_of fields_of
filter_high = refl

pub filter_category : number_of E.StreamFilter N.Category ≡ 8
unfolding number_of fields_of
filter_category = refl

pub ruleset numbers = (filter_stream, filter_kind, filter_field, filter_value, filter_low, filter_high, filter_category)
