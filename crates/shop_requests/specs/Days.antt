-- Days of the calendar, as texts `YYYY-MM-DD` and as days since 1970-01-01.
use Rattle.std.specs.Prelude.{ℕ, ◌+◌, ◌-◌, ◌*◌, ◌/◌, ◌%◌, ℤ, pos, Bool, not, ◌&&◌, ◌==◌, nat_le, List, [], ◌∷◌, ◌++◌, length, take, drop, slice_index, if◌then◌else◌, Option, Some, None}
use Rattle.std.specs.List.{fold, list_all}
use Rattle.jiff_core.specs.Calendar.{days_in_month, days_from_civil}

abbrev pub is_digit : ℕ → Bool
is_digit c = nat_le 48 c && nat_le c 57

-- the number that a text of digits is
abbrev pub digits_number : List ℕ → Option ℕ
digits_number text = if list_all is_digit text then Some (fold (λ n c. n * 10 + (c - 48)) 0 text) else None

-- the calendar has the day, and it is from 1970-01-01 to 9999-12-30
abbrev pub is_day : ℕ → ℕ → ℕ → Bool
is_day year month day =
    nat_le 1970 year && nat_le year 9999
    && nat_le 1 month && nat_le month 12
    && nat_le 1 day && nat_le day (days_in_month (pos year) month)
    && not ((year == 9999) && (month == 12) && (day == 31))

-- how many days after 1970-01-01 a day is
abbrev pub day_number : ℕ → ℕ → ℕ → Option ℤ
day_number year month day = if is_day year month day then Some (days_from_civil (pos year) month day) else None

abbrev pub day_of_parts : Option ℕ → Option ℕ → Option ℕ → Option ℤ
day_of_parts (Some year) (Some month) (Some day) = day_number year month day
day_of_parts year month day = None

-- the text is four, two and two bytes with dashes between them
abbrev pub has_dashes : List ℕ → Bool
has_dashes text = (length text == 10) && (slice_index text 4 == 45) && (slice_index text 7 == 45)

-- the day that a text is, as its number of days after 1970-01-01
unfoldable pub day_of : List ℕ → Option ℤ
day_of text =
    if has_dashes text
    then day_of_parts (digits_number (take 4 text)) (digits_number (take 2 (drop 5 text))) (digits_number (take 2 (drop 8 text)))
    else None

-- a number below 100 as two digits
abbrev pub two_digits : ℕ → List ℕ
two_digits n = (48 + n / 10) ∷ (48 + n % 10) ∷ []

-- a year, a month and a day of the month as a text
abbrev pub parts_text : ℕ → ℕ → ℕ → List ℕ
parts_text year month day =
    two_digits (year / 100) ++ two_digits (year % 100) ++ 45 ∷ (two_digits month ++ 45 ∷ two_digits day)
