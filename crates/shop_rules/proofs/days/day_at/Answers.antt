use Rattle.std.proofs.Common.{◌∙◌, ap, unsigned_abs, arith, FitsSigned, w64}
use Rattle.std.proofs.lemmas.Int.{to_z-of_z}
use Rattle.jiff.specs.Words.{epoch_day}
use Rattle.jiff.proofs.Family.{epoch_day_range}
use Rattle.jiff.proofs.SpanFacts.{signed_arith}
use Rattle.shop_rules.proofs.Weekdays.{day_shown}
use Rattle.shop_rules.proofs.days.day_at.Goals as goal

pub returns : goal.returns
returns c =
    let fits : FitsSigned w64 c.args.moment = c.ranges.moment in
    let nanos = simp to_z-of_z at c.shown_at.ensures in
    let range = epoch_day_range c.date.result in
    let small : FitsSigned w64 c.days_since_epoch.result = omega (arith, signed_arith, range, c.days_since_epoch.ensures) in
    to_z-of_z w64 c.days_since_epoch.result small
    ∙ (c.days_since_epoch.ensures
    ∙ (ap epoch_day c.date.ensures ∙ day_shown c.shown_at.result (unsigned_abs c.args.moment) nanos))
