-- Day numbers and weekdays.
use Rattle.std.proofs.Common.{◌≡◌, ◌+◌, ◌*◌, ◌/◌, ◌%◌, ℕ, ℤ, pos, negsuc, unsigned_abs, ◌≤ℤ◌, ◌*ℤ◌, refl, ap, arith, to_z, of_z, w64}
use Rattle.std.specs.Int.RustNames.{FitsSigned, int_div}
use Rattle.std.proofs.lemmas.Int.{to_z-of_z}
use Rattle.jiff.specs.Words.{epoch_day, weekday_of, civil_nanos, IsYmd, IsEpochDay}
use Rattle.jiff.proofs.Family.{epoch_day-civil_nanos}
use Rattle.jiff.proofs.SpanFacts.{signed_arith}
use Rattle.jiff_core.specs.Calendar.{weekday_number}
use Rattle.jiff_core.specs.declared.civil.date.Date.{Date}
use Rattle.jiff_core.specs.declared.civil.datetime.DateTime.{DateTime}
use Rattle.jiff_core.proofs.StandardFacts.{known_days}
use Rattle.shop_rules.specs.Days.{weekday_at}

-- the first of January 1970 is day 0
pub start_is_zero : (date : Date) → IsYmd (pos 1970) (pos 1) (pos 1) date → epoch_day date ≡ pos 0
start_is_zero date is =
    let month : date.month ≡ 1 = let e = is.1 in cc in
    let day : date.day ≡ 1 = let e = is.2 in cc in
    rw (is.0, month, day) known_days.0

-- a number of days is a 24th of the number of hours
pub day_back : (hours days : ℤ) → hours ≡ days *ℤ pos 24 → IsEpochDay days → to_z w64 (of_z w64 (int_div (to_z w64 (of_z w64 hours)) (pos 24))) ≡ days
day_back hours days is range =
    let hours_fit : FitsSigned w64 hours = omega (arith, signed_arith) in
    let days_fit : FitsSigned w64 days = omega (arith, signed_arith) in
    let quotient : int_div hours (pos 24) ≡ days = omega (arith, signed_arith) in
    rw (to_z-of_z w64 hours hours_fit, quotient, to_z-of_z w64 days days_fit) refl

-- the day of what a clock shows
pub day_shown : (shown : DateTime) (seconds : ℕ) → civil_nanos shown ≡ pos (seconds * 1_000_000_000) → epoch_day shown.date ≡ pos (seconds / 86400)
day_shown shown seconds is = omega (arith, signed_arith, epoch_day-civil_nanos shown)

weekday_of_day : (n : ℕ) → weekday_number (pos n) + 1 ≡ (n + 3) % 7 + 1
unfolding weekday_number
weekday_of_day n = refl

-- the weekday of what a clock shows
pub weekday_shown : (shown : DateTime) (seconds weekday : ℕ) → civil_nanos shown ≡ pos (seconds * 1_000_000_000) → weekday ≡ weekday_of shown.date → pos (weekday + 1) ≡ weekday_at (pos seconds)
weekday_shown shown seconds weekday is day = rw (day, day_shown shown seconds is) (ap pos (weekday_of_day (seconds / 86400)))

pub not_negative : (z : ℤ) → pos 0 ≤ℤ z → z ≡ pos (unsigned_abs z)
not_negative (pos n) h = refl
not_negative (negsuc n) h = absurd (omega (arith, signed_arith))
