use Rattle.std.proofs.Common.{◌∙◌}
use Rattle.shop_http.proofs.FieldLemmas.{number_more}
use Rattle.shop_http.proofs.fields.capped_number.Goals as goal

pub loop-digit-preserved : goal.loop-digit-preserved
loop-digit-preserved c =
    c.min-number.ensures ∙ number_more c.args.digits.now c.loop-digit.digit-index c.loop-digit.number c.requires c.loop-digit-test.true c.loop-digit.invariant
