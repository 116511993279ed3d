use Rattle.std.proofs.Common.{◌∙◌}
use Rattle.shop_routes.proofs.Digits.{number_more}
use Rattle.shop_routes.proofs.numerals.capped_number.Goals as goal

pub loop-digit-preserved : goal.loop-digit-preserved
loop-digit-preserved c =
    c.one_more-number.ensures ∙ number_more c.args.digits.now c.loop-digit.digit-index c.loop-digit.number c.args.most c.requires.digits c.loop-digit-test.true c.loop-digit.invariant
