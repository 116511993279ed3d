-- Days as their numbers of days since 1970-01-01.
use Rattle.std.specs.Prelude.{ℤ, pos, Bool, ◌&&◌}
use lib.Signed.{le_z}
use Rattle.shop_defs.specs.declared.day.TheConstants.{LAST_DAY}

-- the number of a day from 1970-01-01 to 9999-12-30
abbrev pub is_day_number : ℤ → Bool
is_day_number day = le_z (pos 0) day && le_z day LAST_DAY
