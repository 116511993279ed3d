use Rattle.std.proofs.Common.{◌≡◌, pos, true, Some, ◌∙◌, ap, arith, unsigned_abs, FitsSigned, w16, w64}
use Rattle.std.proofs.lemmas.Int.{to_z-of_z}
use Rattle.jiff_core.specs.Date.{epoch_day}
use Rattle.jiff_core.proofs.CalendarLemmas.{days_in_month_bounds}
use Rattle.jiff_core.proofs.SignedLemmas.{signed_arith}
use Rattle.shop_requests.specs.Days.{day_of}
use Rattle.shop_defs.specs.Days.{is_day_number}
use Rattle.shop_requests.proofs.DayRange.{number_of_date, number_bounds, start_is_first, year_is}
use Rattle.shop_requests.proofs.DayTexts.{parts_read}
use Rattle.shop_requests.proofs.day.print_day.Goals as goal

pub returns : goal.returns
returns c =
    let date = c.unwrap-date.result in
    let days_fit : FitsSigned w64 c.args.days = c.ranges.days in
    let number : epoch_day date ≡ c.args.days = simp to_z-of_z at (rw c.unwrap-date.ensures at c.from_unix_epoch_day.ensures.value) in
    let is_number : is_day_number (epoch_day date) ≡ true = rw number c.requires in
    let from = start_is_first date (number_bounds (epoch_day date) is_number).0 in
    let year_fits : FitsSigned w16 date.year = omega (arith, signed_arith, date.year_in) in
    let absolute : c.unsigned_abs.result ≡ unsigned_abs date.year = simp to_z-of_z at c.unsigned_abs.ensures.value in
    let year : date.year ≡ pos c.unsigned_abs.result = rw absolute (year_is date.year from) in
    let read = parts_read c.unsigned_abs.result date.month date.day (omega (arith, signed_arith, date.year_in)) (omega arith) (omega (arith, date.day_in, days_in_month_bounds date.year date.month)) in
    ap day_of c.print_parts.ensures ∙ (read ∙ (number_of_date date c.unsigned_abs.result year is_number ∙ ap Some number))
