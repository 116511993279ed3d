-- Ids as numbers, and as texts of 32 digits in base 16, the most significant first.
use Rattle.std.specs.Prelude.{ℕ, zero, suc, ◌+◌, ◌-◌, ◌*◌, ◌/◌, ◌%◌, List, [], ◌∷◌, ◌++◌, Bool, Option, Some, None, if◌then◌else◌, ◌||◌, ◌&&◌, ◌==◌, nat_le, nat_lt, length, fold}
use Rattle.std.specs.List.{list_all}

-- a digit of base 16 is one of `0` to `9` or `a` to `f`
abbrev pub is_id_digit : ℕ → Bool
is_id_digit c = (nat_le 48 c && nat_le c 57) || (nat_le 97 c && nat_le c 102)

-- what a digit is worth
abbrev pub hex_value : ℕ → ℕ
hex_value c = if nat_le c 57 then c - 48 else c - 97 + 10

-- the digit that is worth d
abbrev pub hex_digit : ℕ → ℕ
hex_digit d = if nat_lt d 10 then 48 + d else 97 + d - 10

-- the number that digits spell
abbrev pub hex_number : List ℕ → ℕ
hex_number digits = fold (λ n c. 16 * n + hex_value c) 0 digits

-- the last n digits of a number: the last is worth the remainder by 16, and those before it spell the quotient
unfoldable pub hex_digits : ℕ → ℕ → List ℕ
hex_digits zero number = []
hex_digits (suc n) number = hex_digits n (number / 16) ++ hex_digit (number % 16) ∷ []

-- the number 0 is no id
abbrev pub unless_zero : ℕ → Option ℕ
unless_zero n = if n == 0 then None else Some n

-- the id that a text is, which has 32 digits
abbrev pub id_of : List ℕ → Option ℕ
id_of text = if (length text == 32) && list_all is_id_digit text then unless_zero (hex_number text) else None

-- the text of an id
unfoldable pub id_text : ℕ → List ℕ
id_text id = hex_digits 32 id
