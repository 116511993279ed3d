-- The text of a year, a month and a day reads as these.
use Rattle.std.proofs.Common.{◌≡◌, ℕ, ◌+◌, ◌/◌, ◌%◌, ◌<◌, ◌≤◌, true, Some, ◌++◌, refl, ap, arith}
use Rattle.std.proofs.lemmas.Bool.Decides.{nat_tests}
use Rattle.shop_requests.specs.Days.{is_digit, digits_number, day_number, day_of, two_digits, parts_text}

is_one : (k : ℕ) → k < 10 → is_digit (48 + k) ≡ true
is_one k small = grind (arith, nat_tests)

two_read : (n : ℕ) → n ≤ 99 → digits_number (two_digits n) ≡ Some n
two_read n small = rw (is_one (n / 10) (omega arith), is_one (n % 10) (omega arith)) (ap Some (omega arith))

four_read : (n : ℕ) → n ≤ 9999 → digits_number (two_digits (n / 100) ++ two_digits (n % 100)) ≡ Some n
four_read n small =
    rw (is_one (n / 100 / 10) (omega arith), is_one (n / 100 % 10) (omega arith), is_one (n % 100 / 10) (omega arith), is_one (n % 100 % 10) (omega arith)) (ap Some (omega arith))

pub parts_read : (year month day : ℕ) → year ≤ 9999 → month ≤ 99 → day ≤ 99 → day_of (parts_text year month day) ≡ day_number year month day
unfolding day_of
parts_read year month day years months days = rw (four_read year years, two_read month months, two_read day days) refl
