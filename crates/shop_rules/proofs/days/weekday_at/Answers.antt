use Rattle.std.proofs.Common.{◌≡◌, ◌∙◌, unsigned_abs, arith, FitsSigned, w64}
use Rattle.std.proofs.lemmas.Int.{to_z-of_z}
use Rattle.jiff.specs.Words.{monday_zero}
use Rattle.jiff.proofs.SpanFacts.{signed_arith}
use Rattle.shop_rules.specs.Days.{weekday_at}
use Rattle.shop_rules.proofs.Weekdays.{weekday_shown}
use Rattle.shop_rules.proofs.days.weekday_at.Goals as goal

pub returns : goal.returns
returns c =
    let fits : FitsSigned w64 c.args.moment = c.ranges.moment in
    let nanos = simp to_z-of_z at c.shown_at.ensures in
    let is : c.monday_one.result ≡ weekday_at c.args.moment = c.monday_one.ensures ∙ weekday_shown c.shown_at.result (unsigned_abs c.args.moment) (monday_zero c.weekday.result) nanos c.weekday.ensures in
    let small : FitsSigned w64 c.monday_one.result = omega (arith, signed_arith, is) in
    to_z-of_z w64 c.monday_one.result small ∙ is
