-- Ids as sixteen bytes: the crate `uuid` reads and writes the same texts.
use Rattle.std.proofs.Common.{◌≡◌, ◌+◌, ◌-◌, ◌*◌, ◌/◌, ◌%◌, ◌<◌, ◌^◌, ℕ, zero, suc, List, [], ◌∷◌, ◌++◌, length, get_or, true, Option, Some, unwrap_or, refl, sym, ap, ◌∙◌, arith, add-one, inl, inr}
use Rattle.std.proofs.Math.Nat.{pow-suc, div-div-eq-div-mul}
use Rattle.std.proofs.lemmas.Bool.{cases_lt}
use Rattle.std.proofs.lemmas.Bool.Decides.{nat_tests}
use Rattle.std.proofs.lemmas.List.{length_push, get_or_append_left, get_or_push}
use Rattle.std.specs.List.{list_all}
use Rattle.std.specs.Int.{byte_at, bytes_high_first, from_be_bytes, to_be_bytes, w128}
use Rattle.uuid.specs.Text.{by_index, nibble, lower, simple_text, parsed, value_of, byte_of_digits, is_hex_digit}
use Rattle.uuid.proofs.TextLemmas.{nibble_even, nibble_odd, by_index_same}
use Rattle.shop_requests.specs.Ids.{is_id_digit, hex_value, hex_digit, hex_number, id_text}
use Rattle.shop_requests.proofs.IdTexts.{by_last, last_passes, number_push, text_length, text_at}

-- ---- from text to number

-- a digit of ours is one of theirs, and is worth the same
is_hex : (c : ℕ) → is_id_digit c ≡ true → is_hex_digit c ≡ true
is_hex c passes = grind (arith, nat_tests)

same_value : (c : ℕ) → is_id_digit c ≡ true → value_of c ≡ hex_value c
same_value c passes = grind (arith, nat_tests)

all_hex : (text : List ℕ) → list_all is_id_digit text ≡ true → list_all is_hex_digit text ≡ true
all_hex [] all = refl
all_hex (c ∷ cs) all = grind (arith, nat_tests, is_hex c, all_hex cs)

-- the number by the worth of its first n digits
number_at : (ℕ → ℕ) → ℕ → ℕ
number_at worth zero = 0
number_at worth (suc n) = 16 * number_at worth n + worth n

-- where each is worth the same
number_at-same : (n : ℕ) (f g : ℕ → ℕ) → ((k : ℕ) → k < n → f k ≡ g k) → number_at f n ≡ number_at g n
unfolding number_at
number_at-same zero f g same = refl
number_at-same (suc n) f g same =
    rw (number_at-same n f g (λ k within. same k (omega arith)), same n (omega arith)) refl

abbrev worth_in : List ℕ → ℕ → ℕ
worth_in text k = value_of (get_or text k 0)

-- one digit more, in both ways to say the number
one_more : (xs : List ℕ) (x : ℕ) → (list_all is_id_digit xs ≡ true → hex_number xs ≡ number_at (worth_in xs) (length xs)) → list_all is_id_digit (xs ++ x ∷ []) ≡ true → hex_number (xs ++ x ∷ []) ≡ number_at (worth_in (xs ++ x ∷ [])) (length (xs ++ x ∷ []))
unfolding number_at
one_more xs x before all =
    let parts = last_passes is_id_digit xs x all in
    let front : number_at (worth_in xs) (length xs) ≡ number_at (worth_in (xs ++ x ∷ [])) (length xs) =
    number_at-same (length xs) _ _ (λ k within. ap value_of (sym (get_or_append_left xs (x ∷ []) 0 k within))) in
    let last : get_or (xs ++ x ∷ []) (length xs) 0 ≡ x = get_or_push xs x 0 (length xs) refl in
    rw (number_push xs x, length_push xs x, add-one (length xs), last, ← front, before parts.0, same_value x parts.1) refl

-- the number by places is the number
number_by_place : (text : List ℕ) → list_all is_id_digit text ≡ true → hex_number text ≡ number_at (worth_in text) (length text)
unfolding number_at
number_by_place = by_last (λ text. list_all is_id_digit text ≡ true → hex_number text ≡ number_at (worth_in text) (length text)) (λ _. refl) one_more

-- sixteen bytes of two digits each are worth what the digits are
bytes_number : (worth : ℕ → ℕ) → from_be_bytes w128 (by_index 16 (λ j. worth (2 * j) * 16 + worth (2 * j + 1))) ≡ number_at worth 32
unfolding by_index number_at
bytes_number worth = omega arith

-- 32 digits parse to sixteen bytes
parsed_text : (text : List ℕ) → length text ≡ 32 → list_all is_hex_digit text ≡ true → parsed text ≡ Some (by_index 16 (byte_of_digits text))
parsed_text text long all = rw (long, all) refl

-- the bytes of a text of digits are worth what the digits spell
pub parsed_number : (text bytes : List ℕ) → length text ≡ 32 → list_all is_id_digit text ≡ true → parsed text ≡ Some bytes → from_be_bytes w128 bytes ≡ hex_number text
parsed_number text bytes long all is =
    let same : by_index 16 (byte_of_digits text) ≡ bytes = ap (λ (o : Option (List ℕ)). unwrap_or o []) (sym (parsed_text text long (all_hex text all)) ∙ is) in
    let by_place : number_at (worth_in text) (length text) ≡ hex_number text = sym (number_by_place text all) in
    ap (from_be_bytes w128) (sym same) ∙ bytes_number (worth_in text) ∙ ap (number_at (worth_in text)) (sym long) ∙ by_place

-- such a text always has bytes
pub text_parses : (text : List ℕ) → length text ≡ 32 → list_all is_id_digit text ≡ true → (bytes : List ℕ) × (parsed text ≡ Some bytes)
text_parses text long all = (_, parsed_text text long (all_hex text all))

-- ---- from number to text

-- byte i by a power of 16
byte_at-power : (i number : ℕ) → byte_at i number ≡ number / 16 ^ (2 * i) % 256
byte_at-power zero number = omega arith
byte_at-power (suc i) number = ap (λ p. number / p % 256) (powers (suc i))
  where
    powers : (i : ℕ) → 256 ^ i ≡ 16 ^ (2 * i)
    powers zero = refl
    powers (suc i) =
        let twice : 2 * suc i ≡ suc (suc (2 * i)) = omega arith in
        rw (twice, pow-suc 256 i, pow-suc 16 (suc (2 * i)), pow-suc 16 (2 * i), powers i) (omega arith)

-- the byte that has i bytes after it
byte_in : (n number j i : ℕ) → suc (j + i) ≡ n → get_or (bytes_high_first n number) j 0 ≡ byte_at i number
byte_in zero number j i place = absurd (omega arith)
byte_in (suc n) number zero i place = ap (λ k. byte_at k number) (omega arith)
byte_in (suc n) number (suc j) i place = byte_in n number j i (omega arith)

-- digit k of the text is the digit that has m digits after it
nibble_is : (number k m : ℕ) → suc (k + m) ≡ 32 → nibble (to_be_bytes w128 number) k ≡ number / 16 ^ m % 16
nibble_is number k m place = elim (cases_lt 0 (k % 2)) [
  | inl odd ↦
      let j = k / 2 in
      let i = m / 2 in
      let is_k : k ≡ 2 * j + 1 = omega arith in
      let is_m : m ≡ 2 * i = omega arith in
      let byte : get_or (to_be_bytes w128 number) j 0 ≡ number / 16 ^ (2 * i) % 256 = byte_in 16 number j i (omega arith) ∙ byte_at-power i number in
      let half : nibble (to_be_bytes w128 number) k ≡ get_or (to_be_bytes w128 number) j 0 % 16 = ap (nibble (to_be_bytes w128 number)) is_k ∙ nibble_odd (to_be_bytes w128 number) j in
      half ∙ ap (λ b. b % 16) byte ∙ low (number / 16 ^ (2 * i)) ∙ ap (λ e. number / 16 ^ e % 16) (sym is_m)
  | inr even ↦
      let j = k / 2 in
      let i = m / 2 in
      let is_k : k ≡ 2 * j = omega arith in
      let is_m : m ≡ suc (2 * i) = omega arith in
      let byte : get_or (to_be_bytes w128 number) j 0 ≡ number / 16 ^ (2 * i) % 256 = byte_in 16 number j i (omega arith) ∙ byte_at-power i number in
      let half : nibble (to_be_bytes w128 number) k ≡ get_or (to_be_bytes w128 number) j 0 / 16 % 16 = ap (nibble (to_be_bytes w128 number)) is_k ∙ nibble_even (to_be_bytes w128 number) j in
      let quotient : number / 16 ^ (2 * i) / 16 ≡ number / 16 ^ suc (2 * i) = div-div-eq-div-mul number (16 ^ (2 * i)) 16 ∙ ap (λ p. number / p) (sym (pow-suc 16 (2 * i))) in
      half ∙ ap (λ b. b / 16 % 16) byte ∙ high (number / 16 ^ (2 * i)) ∙ ap (λ q. q % 16) quotient ∙ ap (λ e. number / 16 ^ e % 16) (sym is_m)
]
  where
    low : (x : ℕ) → x % 256 % 16 ≡ x % 16
    low x = omega arith

    high : (x : ℕ) → x % 256 / 16 % 16 ≡ x / 16 % 16
    high x = omega arith

-- the simple form of the bytes of a number, in lower case, is the text of that id
pub simple_text-id : (id : ℕ) → simple_text lower (to_be_bytes w128 id) ≡ id_text id
simple_text-id id =
    sym (by_index_same (id_text id) 32 _ (text_length id) (λ k d within.
    text_at id k d within ∙ ap hex_digit (sym (nibble_is id k (31 - k) (omega arith)))))
