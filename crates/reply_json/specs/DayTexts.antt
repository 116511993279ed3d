-- Days as texts `YYYY-MM-DD`.
use Rattle.std.specs.Prelude.{ℕ, zero, suc, ◌+◌, ℤ, pos, negsuc, List, [], nat_lt, if◌then◌else◌}
use Rattle.jiff_core.specs.Calendar.{days_in_month}
use Rattle.shop_requests.specs.Days.{parts_text}

-- a day of the calendar
pub record CalendarDay : Type 0 where
  pub year : ℕ
  pub month : ℕ
  pub day : ℕ

-- the day after
abbrev pub next_day : CalendarDay → CalendarDay
next_day d =
    if nat_lt d.day (days_in_month (pos d.year) d.month) then record { year = d.year; month = d.month; day = d.day + 1 }
    else if nat_lt d.month 12 then record { year = d.year; month = d.month + 1; day = 1 }
    else record { year = d.year + 1; month = 1; day = 1 }

-- the day that is that many days after 1970-01-01
unfoldable pub day_after : ℕ → CalendarDay
day_after zero = record { year = 1970; month = 1; day = 1 }
day_after (suc n) = next_day (day_after n)

-- the text of a day of the calendar
abbrev pub text_of : CalendarDay → List ℕ
text_of d = parts_text d.year d.month d.day

-- the text of the day that is that many days after 1970-01-01
unfoldable pub day_text : ℤ → List ℕ
day_text (pos n) = text_of (day_after n)
day_text (negsuc n) = []
