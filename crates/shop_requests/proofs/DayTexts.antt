-- The text that is printed for a day reads as its parts.
use Rattle.std.proofs.Common.{◌≡◌, ℕ, ◌+◌, ◌*◌, ◌/◌, ◌%◌, ◌<◌, ◌≤◌, true, Some, [], ◌∷◌, ◌++◌, refl, ap, ◌∙◌, arith}
use Rattle.std.proofs.lemmas.Bool.Decides.{nat_tests}
use Rattle.shop_requests.specs.Days.{is_digit, digits_number, day_number, day_of, two_digits, parts_text}

-- a digit is one
passes : (k : ℕ) → k < 10 → is_digit (48 + k) ≡ true
passes k small = grind (arith, nat_tests)

two_spell : (a b : ℕ) → a < 10 → b < 10 → digits_number ((48 + a) ∷ (48 + b) ∷ []) ≡ Some (a * 10 + b)
two_spell a b first second = rw (passes a first, passes b second) (ap Some (omega arith))

four_spell : (a b c d : ℕ) → a < 10 → b < 10 → c < 10 → d < 10 → digits_number ((48 + a) ∷ (48 + b) ∷ (48 + c) ∷ (48 + d) ∷ []) ≡ Some (a * 1000 + b * 100 + c * 10 + d)
four_spell a b c d first second third fourth =
    rw (passes a first, passes b second, passes c third, passes d fourth) (ap Some (omega arith))

two_read : (n : ℕ) → n ≤ 99 → digits_number (two_digits n) ≡ Some n
two_read n small = two_spell (n / 10) (n % 10) (omega arith) (omega arith) ∙ ap Some (omega arith)

four_read : (n : ℕ) → n ≤ 9999 → digits_number (two_digits (n / 100) ++ two_digits (n % 100)) ≡ Some n
four_read n small =
    four_spell (n / 100 / 10) (n / 100 % 10) (n % 100 / 10) (n % 100 % 10) (omega arith) (omega arith) (omega arith) (omega arith) ∙ ap Some (omega arith)

-- the parts of a text are read again
pub parts_read : (year month day : ℕ) → year ≤ 9999 → month ≤ 99 → day ≤ 99 → day_of (parts_text year month day) ≡ day_number year month day
unfolding day_of
parts_read year month day years months days = rw (four_read year years, two_read month months, two_read day days) refl
