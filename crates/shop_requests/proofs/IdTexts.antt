-- The laws of ids and their texts: each reads as the other.
use Rattle.std.proofs.Common.{◌≡◌, ◌+◌, ◌-◌, ◌*◌, ◌/◌, ◌%◌, ◌<◌, ◌^◌, ℕ, zero, suc, List, [], ◌∷◌, ◌++◌, length, get_or, Bool, true, false, ◌&&◌, ◌==◌, Option, Some, None, if◌then◌else◌, is_some, unwrap_or, true≢false, refl, sym, ap, subst, ◌∙◌, arith, add-one, append_assoc, append-nil}
use Rattle.std.proofs.Math.Nat.{pow-suc, mul_comm, div-div-eq-div-mul}
use Rattle.std.proofs.lemmas.Bool.Decides.{nat_tests}
use Rattle.std.proofs.lemmas.List.{length_push, get_or_append_left, get_or_push}
use Rattle.std.proofs.lemmas.List.Folds.{list_all-append}
use Rattle.std.proofs.lemmas.Grind.{fold-append}
use Rattle.std.specs.List.{list_all}
use Rattle.shop_requests.specs.Ids.{is_id_digit, hex_value, hex_digit, hex_number, hex_digits, unless_zero, id_of, id_text}

-- an induction that takes the last element off
pub by_last : (P : List ℕ → Type 0) → P [] → ((xs : List ℕ) (x : ℕ) → P xs → P (xs ++ x ∷ [])) → (xs : List ℕ) → P xs
by_last P none more xs = onto [] xs none
  where
    onto : (front xs : List ℕ) → P front → P (front ++ xs)
    onto front [] p = subst P (sym (append-nil front)) p
    onto front (x ∷ xs) p = subst P (append_assoc front (x ∷ []) xs) (onto (front ++ x ∷ []) xs (more front x p))

-- a test of two parts that passes
and_true : (a b : Bool) → (a && b) ≡ true → (a ≡ true) × (b ≡ true)
and_true true b both = (refl, both)
and_true false b both = absurd (true≢false (sym both))

-- what passes of a list passes of its front and of its last element
pub last_passes : (test : ℕ → Bool) (xs : List ℕ) (x : ℕ) → list_all test (xs ++ x ∷ []) ≡ true → (list_all test xs ≡ true) × (test x ≡ true)
last_passes test xs x all =
    let parts = and_true (list_all test xs) (list_all test (x ∷ [])) (sym (list_all-append test xs (x ∷ [])) ∙ all) in
    (parts.0, (and_true (test x) true parts.1).0)

-- a digit and its worth, both ways
digit_value : (d : ℕ) → d < 16 → hex_value (hex_digit d) ≡ d
digit_value d small = grind (arith, nat_tests)

digit_passes : (d : ℕ) → d < 16 → is_id_digit (hex_digit d) ≡ true
digit_passes d small = grind (arith, nat_tests)

value_digit : (c : ℕ) → is_id_digit c ≡ true → hex_digit (hex_value c) ≡ c
value_digit c passes = grind (arith, nat_tests)

value_fits : (c : ℕ) → is_id_digit c ≡ true → hex_value c < 16
value_fits c passes = grind (arith, nat_tests)

-- one digit more multiplies by 16 and adds its worth
pub number_push : (digits : List ℕ) (c : ℕ) → hex_number (digits ++ c ∷ []) ≡ 16 * hex_number digits + hex_value c
number_push digits c = fold-append (λ n d. 16 * n + hex_value d) 0 digits (c ∷ [])

-- n digits are n
digits_length : (n number : ℕ) → length (hex_digits n number) ≡ n
unfolding hex_digits
digits_length zero number = refl
digits_length (suc n) number =
    length_push (hex_digits n (number / 16)) _ ∙ ap (λ k. k + 1) (digits_length n (number / 16)) ∙ add-one n

-- each is a digit of base 16
digits_pass : (n number : ℕ) → list_all is_id_digit (hex_digits n number) ≡ true
unfolding hex_digits
digits_pass zero number = refl
digits_pass (suc n) number =
    rw (list_all-append is_id_digit (hex_digits n (number / 16)) (hex_digit (number % 16) ∷ []), digits_pass n (number / 16), digit_passes (number % 16) (omega arith)) refl

-- a number that n digits can spell is what its n digits spell
digits_number : (n number : ℕ) → number < 16 ^ n → hex_number (hex_digits n number) ≡ number
unfolding hex_digits
digits_number zero number fits = omega arith
digits_number (suc n) number fits =
    let room : 16 ^ suc n ≡ 16 ^ n * 16 = pow-suc 16 n in
    rw (number_push (hex_digits n (number / 16)) (hex_digit (number % 16)), digits_number n (number / 16) (omega arith), digit_value (number % 16) (omega arith)) (omega arith)

-- what digits spell is below the power of 16 by their number
number_fits : (digits : List ℕ) → list_all is_id_digit digits ≡ true → hex_number digits < 16 ^ length digits
number_fits = by_last (λ digits. list_all is_id_digit digits ≡ true → hex_number digits < 16 ^ length digits) (λ _. omega arith) more
  where
    more : (xs : List ℕ) (x : ℕ) → (list_all is_id_digit xs ≡ true → hex_number xs < 16 ^ length xs) → list_all is_id_digit (xs ++ x ∷ []) ≡ true → hex_number (xs ++ x ∷ []) < 16 ^ length (xs ++ x ∷ [])
    more xs x before all =
        let parts = last_passes is_id_digit xs x all in
        let front = before parts.0 in
        let last = value_fits x parts.1 in
        let room : 16 ^ suc (length xs) ≡ 16 ^ length xs * 16 = pow-suc 16 (length xs) in
        rw (number_push xs x, length_push xs x, add-one (length xs)) (omega arith)

one_more : (xs : List ℕ) (x : ℕ) → (list_all is_id_digit xs ≡ true → hex_digits (length xs) (hex_number xs) ≡ xs) → list_all is_id_digit (xs ++ x ∷ []) ≡ true → hex_digits (length (xs ++ x ∷ [])) (hex_number (xs ++ x ∷ [])) ≡ xs ++ x ∷ []
unfolding hex_digits
one_more xs x before all =
    let parts = last_passes is_id_digit xs x all in
    let small = value_fits x parts.1 in
    let quotient : (16 * hex_number xs + hex_value x) / 16 ≡ hex_number xs = omega arith in
    let remainder : (16 * hex_number xs + hex_value x) % 16 ≡ hex_value x = omega arith in
    rw (number_push xs x, length_push xs x, add-one (length xs), quotient, remainder, before parts.0, value_digit x parts.1) refl

-- the digits of what digits spell are those digits
number_digits : (digits : List ℕ) → list_all is_id_digit digits ≡ true → hex_digits (length digits) (hex_number digits) ≡ digits
unfolding hex_digits
number_digits = by_last (λ digits. list_all is_id_digit digits ≡ true → hex_digits (length digits) (hex_number digits) ≡ digits) (λ _. refl) one_more

-- the text of an id has 32 digits
pub text_length : (id : ℕ) → length (id_text id) ≡ 32
unfolding id_text
text_length id = digits_length 32 id

-- each is a digit of base 16
pub text_passes : (id : ℕ) → list_all is_id_digit (id_text id) ≡ true
unfolding id_text
text_passes id = digits_pass 32 id

-- they spell the id
text_number : (id : ℕ) → id < 2 ^ 128 → hex_number (id_text id) ≡ id
unfolding id_text
text_number id fits = digits_number 32 id fits

-- the digit that has m digits after it stands for the remainder of the quotient by the power of 16
digits_at : (n number k m d : ℕ) → suc (k + m) ≡ n → get_or (hex_digits n number) k d ≡ hex_digit (number / 16 ^ m % 16)
unfolding hex_digits
digits_at zero number k m d place = absurd (omega arith)
digits_at (suc n) number k zero d place =
    let last : length (hex_digits n (number / 16)) ≡ k = digits_length n (number / 16) ∙ (omega arith) in
    get_or_push (hex_digits n (number / 16)) (hex_digit (number % 16)) d k last ∙ ap (λ q. hex_digit (q % 16)) (whole number)
  where
    whole : (x : ℕ) → x ≡ x / 16 ^ 0
    whole x = omega arith
digits_at (suc n) number k (suc m) d place =
    let before : k < length (hex_digits n (number / 16)) = rw (digits_length n (number / 16)) (omega arith) in
    get_or_append_left (hex_digits n (number / 16)) (hex_digit (number % 16) ∷ []) d k before ∙ digits_at n (number / 16) k m d (omega arith) ∙ ap (λ q. hex_digit (q % 16)) quotient
  where
    quotient : number / 16 / 16 ^ m ≡ number / 16 ^ suc m
    quotient = div-div-eq-div-mul number 16 (16 ^ m) ∙ ap (λ p. number / p) (mul_comm 16 (16 ^ m) ∙ sym (pow-suc 16 m))

-- the digit at a place of the text of an id
pub text_at : (id k d : ℕ) → k < 32 → get_or (id_text id) k d ≡ hex_digit (id / 16 ^ (31 - k) % 16)
unfolding id_text
text_at id k d within = digits_at 32 id k (31 - k) d (omega arith)

-- the text of a number reads as that number, unless it is 0
pub text_reads : (id : ℕ) → id < 2 ^ 128 → id_of (id_text id) ≡ unless_zero id
text_reads id fits = rw (text_length id, text_passes id, text_number id fits) refl

-- a number that is not 0 is an id
positive_is_id : (id : ℕ) → 0 < id → unless_zero id ≡ Some id
positive_is_id id positive = grind (arith, nat_tests)

-- the text of an id reads as that id
pub id_reads : (id : ℕ) → 0 < id → id < 2 ^ 128 → id_of (id_text id) ≡ Some id
id_reads id positive fits = text_reads id fits ∙ positive_is_id id positive

-- what a text that reads as an id is like
pub record IsIdText (text : List ℕ) (id : ℕ) : Type 0 where
  pub long : length text ≡ 32
  pub passes : list_all is_id_digit text ≡ true
  pub number : hex_number text ≡ id
  pub positive : 0 < id

-- what `unless_zero` lets through
of_nonzero : (n id : ℕ) → unless_zero n ≡ Some id → (n ≡ id) × (0 < id)
of_nonzero zero id is = absurd (true≢false (sym (ap is_some is)))
of_nonzero (suc n) id is =
    let same : suc n ≡ id = ap (λ (o : Option ℕ). unwrap_or o 0) (sym (positive_is_id (suc n) (omega arith)) ∙ is) in
    (same, omega arith)

-- numbers that pass the test are equal
same_numbers : (n : ℕ) → (n == 32) ≡ true → n ≡ 32
same_numbers n same = grind (arith, nat_tests)

-- where a tested value is an id, the test passes
of_tested : (test : Bool) (n id : ℕ) → (if test then unless_zero n else None) ≡ Some id → (test ≡ true) × ((n ≡ id) × (0 < id))
of_tested true n id is = (refl, of_nonzero n id is)
of_tested false n id is = absurd (true≢false (sym (ap is_some is)))

-- a text that reads as an id is like that
pub id_text_parts : (text : List ℕ) (id : ℕ) → id_of text ≡ Some id → IsIdText text id
id_text_parts text id is =
    let parts = of_tested ((length text == 32) && list_all is_id_digit text) (hex_number text) id is in
    let both = and_true (length text == 32) (list_all is_id_digit text) parts.0 in
    record { long = same_numbers (length text) both.0; passes = both.1; number = parts.1.0; positive = parts.1.1 }

-- a text that reads as an id has 32 digits
pub id_length : (text : List ℕ) (id : ℕ) → id_of text ≡ Some id → length text ≡ 32
id_length text id is = (id_text_parts text id is).long

-- each is a digit of base 16
pub id_passes : (text : List ℕ) (id : ℕ) → id_of text ≡ Some id → list_all is_id_digit text ≡ true
id_passes text id is = (id_text_parts text id is).passes

-- the id is not 0
pub id_positive : (text : List ℕ) (id : ℕ) → id_of text ≡ Some id → 0 < id
id_positive text id is = (id_text_parts text id is).positive

-- the id has at most 128 bits
pub id_fits : (text : List ℕ) (id : ℕ) → id_of text ≡ Some id → id < 2 ^ 128
id_fits text id is =
    let parts = id_text_parts text id is in
    let below : hex_number text < 16 ^ length text = number_fits text parts.passes in
    rw (← parts.number) (rw parts.long at below)

-- 32 digits are the text of the number that they spell
pub digits_print : (text : List ℕ) → length text ≡ 32 → list_all is_id_digit text ≡ true → id_text (hex_number text) ≡ text
unfolding id_text
digits_print text long passes = ap (λ n. hex_digits n (hex_number text)) (sym long) ∙ number_digits text passes

-- a text that reads as an id is the text of that id
pub id_prints : (text : List ℕ) (id : ℕ) → id_of text ≡ Some id → id_text id ≡ text
id_prints text id is =
    let parts = id_text_parts text id is in
    rw (← parts.number) (digits_print text parts.long parts.passes)
