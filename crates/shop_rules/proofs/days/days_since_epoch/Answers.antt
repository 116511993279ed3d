use Rattle.std.proofs.Common.{◌≡◌, pos, ◌*ℤ◌, arith}
use Rattle.jiff.specs.Words.{epoch_day}
use Rattle.jiff.proofs.Family.{epoch_day_range}
use Rattle.jiff.proofs.SpanFacts.{signed_arith}
use Rattle.shop_rules.proofs.Weekdays.{start_is_zero, day_back}
use Rattle.shop_rules.proofs.days.days_since_epoch.Goals as goal

pub returns : goal.returns
returns c =
    let zero = start_is_zero c.constant-epoch.result c.constant-epoch.ensures in
    let gap = rw zero at c.duration_since.ensures in
    let hours : c.as_hours.result ≡ epoch_day c.args.date *ℤ pos 24 = omega (arith, signed_arith, c.as_hours.ensures, gap) in
    day_back c.as_hours.result (epoch_day c.args.date) hours (epoch_day_range c.args.date)
