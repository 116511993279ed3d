-- Digits of a number, one after another.
use Rattle.std.proofs.Common.{◌≡◌, ℕ, ◌+◌, ◌-◌, ◌*◌, ◌<◌, ◌≤◌, List, true, length, take, get_or, arith, min}
use Rattle.std.specs.List.{list_all}
use Rattle.std.specs.Char.{is_ascii_digit, digit_value}
use Rattle.std.specs.Str.Parse.{digits_value}
use Rattle.std.specs.Prelude.{nat_le}
use Rattle.std.proofs.lemmas.Bool.{and_parts, leb-true}
use Rattle.std.proofs.lemmas.Str.{digit_value_digit}
use Rattle.std.proofs.lemmas.Int.Digits.{digits_value_more}
use Rattle.std.proofs.lemmas.List.Sums.{AllPass-from_list_all}

pub digit_in_range : (c : ℕ) → is_ascii_digit c ≡ true → (48 ≤ c) × (c ≤ 57) × (digit_value c + 48 ≡ c)
digit_in_range c e =
    let both = and_parts (nat_le 48 c) (nat_le c 57) e in
    let low : 48 ≤ c = leb-true 48 c both.0 in
    let high : c ≤ 57 = leb-true c 57 both.1 in
    (low, high, digit_value_digit c (low, high))

pub digit_at : (text : List ℕ) (i : ℕ) → list_all is_ascii_digit text ≡ true → i < length text → is_ascii_digit (get_or text i 0) ≡ true
digit_at text i all within = AllPass-from_list_all is_ascii_digit text all i 0 within

-- one digit more of a number that is cut off above a limit
pub number_more : (text : List ℕ) (i n most : ℕ) → list_all is_ascii_digit text ≡ true → i < length text
    → n ≡ min (digits_value 10 (take i text)) (most + 1)
    → min (n * 10 + (get_or text i 0 - 48)) (most + 1) ≡ min (digits_value 10 (take (i + 1) text)) (most + 1)
number_more text i n most all within e =
    let d = digit_in_range (get_or text i 0) (digit_at text i all within) in
    let more : digits_value 10 (take (i + 1) text) ≡ digits_value 10 (take i text) * 10 + digit_value (get_or text i 0) = digits_value_more 10 text i within in
    omega (arith, d.0, d.1, d.2, more)
