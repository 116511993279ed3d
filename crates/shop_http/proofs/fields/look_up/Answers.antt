use Rattle.std.proofs.Common.{refl}
use Rattle.shop_http.proofs.FieldLemmas.{fields_more, no_fields}
use Rattle.shop_http.proofs.fields.look_up.Goals as goal

pub loop-field-init : goal.loop-field-init
loop-field-init c = no_fields _ _ refl refl refl refl refl refl refl refl

pub loop-field-preserved : goal.loop-field-preserved
loop-field-preserved c =
    fields_more c.args.region.now c.args.fields.now c.loop-field.field-index _ c.loop-field.found c.with_field-found.result
    c.loop-field-test.true c.loop-field.invariant c.with_field-found.ensures
