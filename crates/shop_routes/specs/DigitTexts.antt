-- Numbers in digits.
use Rattle.std.specs.Prelude.{ℕ, List, ◌&&◌, ◌==◌, Bool, not, Option, Some, None, if◌then◌else◌, length, nat_le, nat_lt, slice_index_or, codes}
use Rattle.std.specs.List.{list_all}
use Rattle.std.specs.Char.{is_ascii_digit}
use Rattle.std.specs.Str.Parse.{digits_value}
use Rattle.std.specs.Str.{bytes_eq}
use Rattle.shop_requests.specs.Ids.{id_of}

-- one or more digits
abbrev pub is_number : List ℕ → Bool
is_number text = nat_lt 0 (length text) && list_all is_ascii_digit text

-- the number that digits spell, where it is at most that
abbrev pub number_within : ℕ → List ℕ → Option ℕ
number_within most digits = if nat_le (digits_value 10 digits) most then Some (digits_value 10 digits) else None

-- a page: 1 to 999,999,999, without leading zeros
abbrev pub page_of : List ℕ → Option ℕ
page_of text = if is_number text && not (slice_index_or text 0 0 == 48) then number_within 999999999 text else None

-- a front: 1 to 19 digits, at most 2^63 - 1
abbrev pub front_of : List ℕ → Option ℕ
front_of text = if is_number text && nat_le (length text) 19 then number_within 9223372036854775807 text else None

-- the text of no id: 32 digits `0`
abbrev pub nil_text : List ℕ
nil_text = codes "00000000000000000000000000000000"

-- an id, or 0 for the text of no id
abbrev pub id_or_nil : List ℕ → Option ℕ
id_or_nil text = if bytes_eq text nil_text then Some 0 else id_of text
