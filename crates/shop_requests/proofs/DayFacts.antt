-- Days since 1970-01-01, from what the calendar's calls give.
use Rattle.std.proofs.Common.{◌≡◌, ℤ, pos, ◌*ℤ◌, refl, arith, to_z, of_z, w64}
use Rattle.std.specs.Int.RustNames.{FitsSigned, int_div}
use Rattle.std.proofs.lemmas.Int.{to_z-of_z}
use Rattle.jiff.specs.Words.{epoch_day, IsYmd, IsEpochDay}
use Rattle.jiff.proofs.SpanFacts.{signed_arith}
use Rattle.jiff_core.specs.declared.civil.date.Date.{Date}
use Rattle.jiff_core.proofs.StandardFacts.{known_days}

-- the first of January 1970 is day 0
pub start_is_zero : (date : Date) → IsYmd (pos 1970) (pos 1) (pos 1) date → epoch_day date ≡ pos 0
start_is_zero date is =
    let month : date.month ≡ 1 = let e = is.1 in cc in
    let day : date.day ≡ 1 = let e = is.2 in cc in
    rw (is.0, month, day) known_days.0

-- a number of days is a 24th of the number of hours
pub day_back : (hours days : ℤ) → hours ≡ days *ℤ pos 24 → IsEpochDay days → to_z w64 (of_z w64 (int_div (to_z w64 (of_z w64 hours)) (pos 24))) ≡ days
day_back hours days is range =
    let hours_fit : FitsSigned w64 hours = omega (arith, signed_arith) in
    let days_fit : FitsSigned w64 days = omega (arith, signed_arith) in
    let quotient : int_div hours (pos 24) ≡ days = omega (arith, signed_arith) in
    rw (to_z-of_z w64 hours hours_fit, quotient, to_z-of_z w64 days days_fit) refl
