-- The days after 1970-01-01, one by one, are the dates with these numbers.
use Rattle.std.proofs.Common.{◌≡◌, ◌∙◌, ℕ, zero, suc, ◌+◌, ◌<◌, ◌≤◌, Bool, true, false, ℤ, pos, negsuc, Some, refl, sym, ap, arith}
use Rattle.std.specs.Prelude.{nat_lt, if◌then◌else◌}
use Rattle.std.proofs.lemmas.Bool.Decides.{nat_tests}
use Rattle.jiff_core.specs.Calendar.{days_in_month, days_from_civil}
use Rattle.jiff_core.specs.Date.{epoch_day}
use Rattle.jiff_core.specs.declared.civil.date.Date.{Date}
use Rattle.jiff_core.proofs.CalendarLemmas.{days_in_month_bounds}
use Rattle.jiff_core.proofs.DateLemmas.{epoch_day_injective, days_from_civil-day, days_from_civil-next_month, days_from_civil-next_year, days_from_civil-max}
use Rattle.jiff_core.proofs.SignedLemmas.{signed_arith}
use Rattle.jiff_core.proofs.StandardFacts.{known_days}
use Rattle.jiff_fmt.specs.Text.{date_text}
use Rattle.shop_requests.specs.Days.{day_of}
use Rattle.shop_defs.specs.Days.{is_day_number}
use Rattle.shop_requests.proofs.DayRange.{number_bounds, number_of_date}
use Rattle.reply_json.proofs.DayReads.{parts_read}
use Rattle.reply_json.specs.DayTexts.{CalendarDay, next_day, day_after, day_text}

-- the calendar has the day, and it has the number n
record IsDay (n : ℕ) (d : CalendarDay) : Type 0 where
  year_from : 1970 ≤ d.year
  year_to : d.year ≤ 9999
  month_from : 1 ≤ d.month
  month_to : d.month ≤ 12
  day_from : 1 ≤ d.day
  day_to : d.day ≤ days_in_month (pos d.year) d.month
  number : days_from_civil (pos d.year) d.month d.day ≡ pos n

in_month : (n : ℕ) (d : CalendarDay) → IsDay n d → d.day < days_in_month (pos d.year) d.month → IsDay (suc n) (record { year = d.year; month = d.month; day = d.day + 1 })
in_month n d is before = record {
  year_from = is.year_from;
  year_to = is.year_to;
  month_from = is.month_from;
  month_to = is.month_to;
  day_from = omega arith;
  day_to = omega arith;
  number = omega (arith, signed_arith, is.number, is.day_from, days_from_civil-day (pos d.year) d.month d.day (d.day + 1) is.day_from (omega arith));
}

next_month : (n : ℕ) (d : CalendarDay) → IsDay n d → days_in_month (pos d.year) d.month ≤ d.day → d.month < 12 → IsDay (suc n) (record { year = d.year; month = d.month + 1; day = 1 })
next_month n d is last before =
    let end : d.day ≡ days_in_month (pos d.year) d.month = omega (arith, is.day_to) in
    record {
      year_from = is.year_from;
      year_to = is.year_to;
      month_from = omega arith;
      month_to = omega arith;
      day_from = omega arith;
      day_to = omega (arith, days_in_month_bounds (pos d.year) (d.month + 1));
      number = omega (arith, signed_arith, is.number, days_from_civil-next_month (pos d.year) d.month d.day is.month_from end);
    }

-- 31 December
year_end : (n : ℕ) (d : CalendarDay) → IsDay n d → days_in_month (pos d.year) d.month ≤ d.day → 12 ≤ d.month → days_from_civil (pos d.year) 12 31 ≡ pos n
year_end n d is last after =
    let month : d.month ≡ 12 = omega (arith, is.month_to) in
    let long : days_in_month (pos d.year) d.month ≡ 31 = rw month refl in
    let day : d.day ≡ 31 = omega (arith, is.day_to) in
    let number = is.number in
    rw (month, day) at number

next_year : (n : ℕ) (d : CalendarDay) → IsDay n d → days_in_month (pos d.year) d.month ≤ d.day → 12 ≤ d.month → suc n ≤ 2_932_896 → IsDay (suc n) (record { year = d.year + 1; month = 1; day = 1 })
next_year n d is last after within =
    let end = year_end n d is last after in
    record {
      year_from = omega (arith, is.year_from);
      year_to = not_last (nat_lt d.year 9999) refl;
      month_from = omega arith;
      month_to = omega arith;
      day_from = omega arith;
      day_to = omega (arith, days_in_month_bounds (pos (d.year + 1)) 1);
      number = omega (arith, signed_arith, end, days_from_civil-next_year (pos d.year) (pos (d.year + 1)) (omega (arith, signed_arith)) (omega (arith, signed_arith)));
    }
  where
    not_last : (b : Bool) → nat_lt d.year 9999 ≡ b → d.year + 1 ≤ 9999
    not_last true e = grind (arith, nat_tests)
    not_last false e =
        let year : d.year ≡ 9999 = grind (arith, nat_tests, is.year_to) in
        let number : days_from_civil (pos d.year) 12 31 ≡ pos n = year_end n d is last after in
        let same : days_from_civil (pos 9999) 12 31 ≡ pos n = rw (← year) number in
        absurd (omega (arith, signed_arith, days_from_civil-max))

stepped : (n : ℕ) (d : CalendarDay) → IsDay n d → suc n ≤ 2_932_896 → IsDay (suc n) (next_day d)
stepped n d is within = by_day (nat_lt d.day (days_in_month (pos d.year) d.month)) refl
  where
    by_month : (b : Bool) → nat_lt d.month 12 ≡ b → days_in_month (pos d.year) d.month ≤ d.day → IsDay (suc n) (if nat_lt d.month 12 then record { year = d.year; month = d.month + 1; day = 1 } else record { year = d.year + 1; month = 1; day = 1 })
    by_month true e last = rw e (next_month n d is last (grind (arith, nat_tests)))
    by_month false e last = rw e (next_year n d is last (grind (arith, nat_tests)) within)

    by_day : (b : Bool) → nat_lt d.day (days_in_month (pos d.year) d.month) ≡ b → IsDay (suc n) (next_day d)
    by_day true e = rw e (in_month n d is (grind (arith, nat_tests)))
    by_day false e = rw e (by_month (nat_lt d.month 12) refl (grind (arith, nat_tests)))

numbered : (n : ℕ) → n ≤ 2_932_896 → IsDay n (day_after n)
unfolding day_after
numbered zero within = record {
  year_from = omega arith;
  year_to = omega arith;
  month_from = omega arith;
  month_to = omega arith;
  day_from = omega arith;
  day_to = omega (arith, days_in_month_bounds (pos 1970) 1);
  number = known_days.0;
}
numbered (suc n) within = stepped n (day_after n) (numbered n (omega arith)) within

abbrev date_of : (n : ℕ) (d : CalendarDay) → IsDay n d → Date
date_of n d is = record {
  year = pos d.year;
  month = d.month;
  day = d.day;
  year_in = (omega (arith, signed_arith, is.year_from), omega (arith, signed_arith, is.year_to));
  month_in = (is.month_from, is.month_to);
  day_in = (is.day_from, is.day_to);
}

-- the text of the date with the number n
date_printed : (date : Date) (n : ℕ) → n ≤ 2_932_896 → epoch_day date ≡ pos n → date_text date ≡ day_text (pos n)
unfolding day_text
date_printed date n within number =
    let is = numbered n within in
    let same = epoch_day_injective date (date_of n (day_after n) is) (number ∙ sym is.number) in
    rw (same.0, same.1, same.2) refl

-- the text of a date with a number in range
pub date_is_text : (date : Date) (days : ℤ) → is_day_number days ≡ true → epoch_day date ≡ days → date_text date ≡ day_text days
date_is_text date (pos n) is number = date_printed date n (omega (arith, signed_arith, (number_bounds (pos n) is).1)) number
date_is_text date (negsuc n) is number = cc

-- the text of a day reads as that day
pub day_reads : (days : ℤ) → is_day_number days ≡ true → day_of (day_text days) ≡ Some days
unfolding day_text
day_reads (pos n) is =
    let day = day_after n in
    let holds = numbered n (omega (arith, signed_arith, (number_bounds (pos n) is).1)) in
    parts_read day.year day.month day.day holds.year_to (omega (arith, holds.month_to)) (omega (arith, holds.day_to, days_in_month_bounds (pos day.year) day.month))
    ∙ number_of_date (date_of n day holds) day.year refl (rw holds.number is)
    ∙ ap Some holds.number
day_reads (negsuc n) is = cc
