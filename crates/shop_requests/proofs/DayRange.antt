-- The numbers of days lie from 0 to the last day, and those of all dates in between are days.
use Rattle.std.proofs.Common.{◌≡◌, ℕ, ◌≤◌, true, false, Bool, Option, Some, None, List, ℤ, pos, negsuc, ◌≤ℤ◌, ◌<ℤ◌, unsigned_abs, refl, subst, arith, rules, inl, inr, if◌then◌else◌}
use Rattle.std.specs.Prelude.{◌&&◌, ◌==◌, not, nat_le, take, drop}
use Rattle.std.proofs.lemmas.Bool.{leb-true, le-leb, eqb-true}
use Rattle.std.proofs.lemmas.Bool.Decides.{nat_tests}
use Rattle.std.proofs.lemmas.Int.{by_lt_z}
use Rattle.jiff_core.specs.declared.civil.date.Date.{Date}
use Rattle.jiff_core.specs.Calendar.{days_in_month, days_from_civil}
use Rattle.jiff_core.specs.Date.{epoch_day}
use Rattle.jiff_core.proofs.SignedLemmas.{signed_arith}
use Rattle.jiff_core.proofs.DateLemmas.{epoch_day-lt, cases_date, epoch_day_same, epoch_day-lt-max, days_from_civil-max}
use Rattle.jiff_core.proofs.StandardFacts.{known_days}
use Rattle.shop_requests.specs.Days.{is_day, day_number, day_of_parts, digits_number, has_dashes, day_of}
use Rattle.shop_defs.specs.Days.{is_day_number}

-- the first day
start : Date
start = record { year = pos 1970; month = 1; day = 1; year_in = search rules; month_in = search rules; day_in = search rules }

-- a date with a number from 0 on is of 1970 or later
pub start_is_first : (date : Date) → pos 0 ≤ℤ epoch_day date → pos 1970 ≤ℤ date.year
unfolding start
start_is_first date later =
    by_lt_z date.year (pos 1970) (λ lt. absurd (omega (arith, signed_arith, epoch_day-lt date start (inl lt), known_days.0))) (λ from. from)

-- a year from 1970 on is its own amount
pub year_is : (year : ℤ) → pos 1970 ≤ℤ year → year ≡ pos (unsigned_abs year)
year_is (pos year) from = refl
year_is (negsuc year) from = absurd (omega (arith, signed_arith))

-- and such a date has a number from 0 on
from_start : (date : Date) → pos 1970 ≤ℤ date.year → pos 0 ≤ℤ epoch_day date
unfolding start
from_start date from =
    elim (cases_date start date) [
      | inl later ↦ omega (arith, signed_arith, epoch_day-lt start date later, known_days.0)
      | inr (inl (inl year)) ↦ absurd (omega (arith, signed_arith))
      | inr (inl (inr (year, inl month))) ↦ absurd (omega (arith, date.month_in))
      | inr (inl (inr (year, inr (month, day)))) ↦ absurd (omega (arith, date.day_in))
      | inr (inr same) ↦ omega (arith, signed_arith, epoch_day_same start date same.0 same.1 same.2, known_days.0)
    ]

-- both of two tests hold
both : (a b : Bool) → (a && b) ≡ true → (a ≡ true) × (b ≡ true)
both true b h = (refl, h)
both false b h = cc

-- the numbers from 0 to the last
in_range : (day : ℤ) → pos 0 ≤ℤ day → day <ℤ pos 2_932_896 → is_day_number day ≡ true
in_range (pos n) low high = grind (arith, nat_tests, signed_arith)
in_range (negsuc n) low high = absurd (omega (arith, signed_arith))

-- and these alone
pub number_bounds : (day : ℤ) → is_day_number day ≡ true → (pos 0 ≤ℤ day) × (day <ℤ pos 2_932_896)
number_bounds (pos n) is = (omega (arith, signed_arith), omega (arith, signed_arith, leb-true n 2_932_895 (both (nat_le 0 n) (nat_le n 2_932_895) is).1))
number_bounds (negsuc n) is = cc

not_true : (a : Bool) → not a ≡ true → a ≡ false
not_true true h = cc
not_true false h = refl

-- what a day from 1970-01-01 to 9999-12-30 is like
record IsDayOf (year month day : ℕ) : Type 0 where
  year_from : 1970 ≤ year
  year_to : year ≤ 9999
  month_from : 1 ≤ month
  month_to : month ≤ 12
  day_from : 1 ≤ day
  day_to : day ≤ days_in_month (pos year) month
  not_last : ((year == 9999) && (month == 12) && (day == 31)) ≡ false

parts_of_day : (year month day : ℕ) → is_day year month day ≡ true → IsDayOf year month day
parts_of_day year month day is =
    let last = both _ _ is in
    let day_to = both _ _ last.0 in
    let day_from = both _ _ day_to.0 in
    let month_to = both _ _ day_from.0 in
    let month_from = both _ _ month_to.0 in
    let years = both _ _ month_from.0 in
    record {
      year_from = leb-true 1970 year years.0;
      year_to = leb-true year 9999 years.1;
      month_from = leb-true 1 month month_from.1;
      month_to = leb-true month 12 month_to.1;
      day_from = leb-true 1 day day_from.1;
      day_to = leb-true day (days_in_month (pos year) month) day_to.1;
      not_last = not_true _ last.1;
    }

day_from_parts : (year month day : ℕ) → IsDayOf year month day → is_day year month day ≡ true
day_from_parts year month day is =
    rw (le-leb 1970 year is.year_from, le-leb year 9999 is.year_to, le-leb 1 month is.month_from, le-leb month 12 is.month_to, le-leb 1 day is.day_from, le-leb day (days_in_month (pos year) month) is.day_to, is.not_last) refl

-- the date of such a day
abbrev date_of : (year month day : ℕ) → IsDayOf year month day → Date
date_of year month day is = record {
  year = pos year;
  month = month;
  day = day;
  year_in = (omega (arith, signed_arith), omega (arith, signed_arith));
  month_in = (is.month_from, is.month_to);
  day_in = (is.day_from, is.day_to);
}

-- a test that chooses a value or none, where there is one
if_some : (b : Bool) (found : Option ℤ) (day : ℤ) → (if b then found else None) ≡ Some day → (b ≡ true) × (found ≡ Some day)
if_some true found day is = (refl, is)
if_some false found day is = cc

-- a date that isn't the last has a number in range
date_in_range : (date : Date) → pos 1970 ≤ℤ date.year → (((date.year ≡ pos 9999) × (date.month ≡ 12) × (date.day ≡ 31)) → ⊥) → is_day_number (epoch_day date) ≡ true
date_in_range date from other =
    let high = epoch_day-lt-max date other in
    in_range (epoch_day date) (from_start date from) high

parts_in_range : (year month day : ℕ) → IsDayOf year month day → is_day_number (days_from_civil (pos year) month day) ≡ true
parts_in_range year month day is = date_in_range (date_of year month day is) (omega (arith, signed_arith)) other
  where
    other : ((pos year ≡ pos 9999) × (month ≡ 12) × (day ≡ 31)) → ⊥
    other (years, months, days) =
        let same : year ≡ 9999 = cc in
        let all : ((year == 9999) && (month == 12) && (day == 31)) ≡ true = rw (same, months, days) refl in
        let not_all = is.not_last in
        cc

number_in_range : (year month day : ℕ) (days : ℤ) → day_number year month day ≡ Some days → is_day_number days ≡ true
number_in_range year month day days is =
    let parts = if_some (is_day year month day) (Some (days_from_civil (pos year) month day)) days is in
    let same : days_from_civil (pos year) month day ≡ days = cc in
    rw (← same) (parts_in_range year month day (parts_of_day year month day parts.0))

options_in_range : (year month day : Option ℕ) (days : ℤ) → day_of_parts year month day ≡ Some days → is_day_number days ≡ true
options_in_range (Some year) (Some month) (Some day) days is = number_in_range year month day days is
options_in_range year month day days is = cc

-- a text that reads as a day has a number in range
pub day_of_in_range : (text : List ℕ) (days : ℤ) → day_of text ≡ Some days → is_day_number days ≡ true
unfolding day_of
day_of_in_range text days is =
    options_in_range (digits_number (take 4 text)) (digits_number (take 2 (drop 5 text))) (digits_number (take 2 (drop 8 text))) days
    (if_some (has_dashes text) (day_of_parts (digits_number (take 4 text)) (digits_number (take 2 (drop 5 text))) (digits_number (take 2 (drop 8 text)))) days is).1

-- the parts of a date with a number in range are such a day
parts_of_date : (date : Date) (year : ℕ) → date.year ≡ pos year → is_day_number (epoch_day date) ≡ true → IsDayOf year date.month date.day
parts_of_date date year same is =
    let bounds = number_bounds (epoch_day date) is in
    let first = start_is_first date bounds.0 in
    record {
      year_from = omega (arith, signed_arith);
      year_to = omega (arith, signed_arith, date.year_in);
      month_from = date.month_in.0;
      month_to = date.month_in.1;
      day_from = date.day_in.0;
      day_to = subst (λ among. date.day ≤ days_in_month among date.month) same date.day_in.1;
      not_last = other ((year == 9999) && (date.month == 12) && (date.day == 31)) refl;
    }
  where
    other : (b : Bool) → ((year == 9999) && (date.month == 12) && (date.day == 31)) ≡ b → b ≡ false
    other false e = refl
    other true e =
        let last = both _ _ e in
        let first = both _ _ last.0 in
        let years : year ≡ 9999 = eqb-true year 9999 first.0 in
        let months : date.month ≡ 12 = eqb-true date.month 12 first.1 in
        let days : date.day ≡ 31 = eqb-true date.day 31 last.1 in
        let end : epoch_day date ≡ pos 2_932_896 = rw (same, years, months, days) days_from_civil-max in
        absurd (omega (arith, signed_arith, end, (number_bounds (epoch_day date) is).1))

-- and read as that number
pub number_of_date : (date : Date) (year : ℕ) → date.year ≡ pos year → is_day_number (epoch_day date) ≡ true → day_number year date.month date.day ≡ Some (epoch_day date)
number_of_date date year same is =
    rw (day_from_parts year date.month date.day (parts_of_date date year same is), ← same) refl
