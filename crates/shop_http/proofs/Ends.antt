-- Where a head ends: the same whatever follows, and found by going from line end to line end.
use Rattle.std.proofs.Common.{◌≡◌, ℕ, zero, suc, ◌+◌, ◌<◌, ◌≤◌, ◌≢◌, Bool, true, false, ◌&&◌, ◌==◌, nat_lt, List, [], ◌∷◌, ◌++◌, length, drop, get_or, if◌then◌else◌, refl, sym, ap, ◌∙◌, subst, inl, inr, arith, length-drop, Option, Some, None, option_map}
use Rattle.std.proofs.lemmas.Bool.{cases_eq, cases_lt, both_ways, and_parts, and_from, and_left, and_right, eqb-true, ne_eqb, eq-eqb, ltb-true, lt-ltb, le-ltb}
use Rattle.std.proofs.lemmas.List.{drop_more, drop_all, drop-drop, append-nil}
use Rattle.memchr.specs.Find.{IsFirstByte, is_byte, Passes}
use Rattle.shop_http.specs.Heads.{empty_line, head_end}

-- ---- an empty line, which one byte or two decide

data EmptyLine (bytes : List ℕ) : Type 0 where
  lf_first : (rest : List ℕ) → bytes ≡ 10 ∷ rest → EmptyLine bytes
  crlf_first : (rest : List ℕ) → bytes ≡ 13 ∷ 10 ∷ rest → EmptyLine bytes
  too_few : bytes ≡ [] → EmptyLine bytes
  cr_alone : bytes ≡ 13 ∷ [] → EmptyLine bytes
  other : ((more : List ℕ) → empty_line (bytes ++ more) ≡ 0) → EmptyLine bytes

at_lf : (rest : List ℕ) → empty_line (10 ∷ rest) ≡ 1
unfolding empty_line
at_lf rest = refl

at_crlf : (rest : List ℕ) → empty_line (13 ∷ 10 ∷ rest) ≡ 2
unfolding empty_line
at_crlf rest = refl

at_nothing : empty_line [] ≡ 0
unfolding empty_line
at_nothing = refl

at_cr : empty_line (13 ∷ []) ≡ 0
unfolding empty_line
at_cr = refl

at_other : (x : ℕ) (rest : List ℕ) → x ≢ 10 → x ≢ 13 → empty_line (x ∷ rest) ≡ 0
unfolding empty_line
at_other x rest no_lf no_cr = rw (ne_eqb 13 x (λ e. no_cr (sym e)), ne_eqb 10 x (λ e. no_lf (sym e))) refl

at_cr_other : (y : ℕ) (rest : List ℕ) → y ≢ 10 → empty_line (13 ∷ y ∷ rest) ≡ 0
unfolding empty_line
at_cr_other y rest no_lf = rw (ne_eqb 10 y (λ e. no_lf (sym e))) refl

after_cr : (rest : List ℕ) → EmptyLine (13 ∷ rest)
after_cr [] = cr_alone refl
after_cr (y ∷ rest) = elim (cases_eq y 10) as (λ _. EmptyLine (13 ∷ y ∷ rest)) [
  | inl e ↦ crlf_first rest (ap (λ (v : ℕ). 13 ∷ v ∷ rest) e)
  | inr n ↦ other (λ more. at_cr_other y (rest ++ more) n)
]

line_of : (bytes : List ℕ) → EmptyLine bytes
line_of [] = too_few refl
line_of (x ∷ rest) = elim (cases_eq x 10) as (λ _. EmptyLine (x ∷ rest)) [
  | inl e ↦ lf_first rest (ap (λ (v : ℕ). v ∷ rest) e)
  | inr n ↦ elim (cases_eq x 13) as (λ _. EmptyLine (x ∷ rest)) [
    | inl e ↦ subst (λ (v : ℕ). EmptyLine (v ∷ rest)) (sym e) (after_cr rest)
    | inr m ↦ other (λ more. at_other x (rest ++ more) n m)
  ]
]

none_of : (bytes : List ℕ) → ((more : List ℕ) → empty_line (bytes ++ more) ≡ 0) → empty_line bytes ≡ 0
none_of bytes none = ap empty_line (sym (append-nil bytes)) ∙ none []

empty_more : (bytes more : List ℕ) → 0 < empty_line bytes → empty_line (bytes ++ more) ≡ empty_line bytes
empty_more bytes more some = elim (line_of bytes) as (λ _. empty_line (bytes ++ more) ≡ empty_line bytes) [
  | lf_first rest e ↦ rw e (at_lf (rest ++ more) ∙ sym (at_lf rest))
  | crlf_first rest e ↦ rw e (at_crlf (rest ++ more) ∙ sym (at_crlf rest))
  | too_few e ↦ absurd (omega (arith, ap empty_line e, at_nothing))
  | cr_alone e ↦ absurd (omega (arith, ap empty_line e, at_cr))
  | other none ↦ none more ∙ sym (none_of bytes none)
]

-- one that more bytes make has none of its bytes beyond them
empty_late : (bytes more : List ℕ) → empty_line bytes ≤ 0 → 0 < empty_line (bytes ++ more) → length bytes < empty_line (bytes ++ more)
empty_late bytes more none some = elim (line_of bytes) as (λ _. length bytes < empty_line (bytes ++ more)) [
  | lf_first rest e ↦ absurd (omega (arith, ap empty_line e, at_lf rest))
  | crlf_first rest e ↦ absurd (omega (arith, ap empty_line e, at_crlf rest))
  | too_few e ↦ omega (arith, ap length e)
  | cr_alone e ↦ after (ap length e) (ap (λ (t : List ℕ). empty_line (t ++ more)) e)
  | other never ↦ absurd (omega (arith, never more))
]
  where
    after : length bytes ≡ 1 → empty_line (bytes ++ more) ≡ empty_line (13 ∷ more) → length bytes < empty_line (bytes ++ more)
    after l e = elim (line_of (13 ∷ more)) as (λ _. length bytes < empty_line (bytes ++ more)) [
      | lf_first rest k ↦ (let no_byte : ◌≡◌ {A = ℕ} 13 10 = cc in absurd (omega arith))
      | crlf_first rest k ↦ omega (arith, e, ap empty_line k, at_crlf rest)
      | too_few k ↦ absurd (omega (arith, ap length k))
      | cr_alone k ↦ absurd (omega (arith, e, ap empty_line k, at_cr))
      | other never ↦ absurd (omega (arith, e, none_of (13 ∷ more) never))
    ]

empty_within : (bytes : List ℕ) → empty_line bytes ≤ length bytes
empty_within bytes = elim (line_of bytes) as (λ _. empty_line bytes ≤ length bytes) [
  | lf_first rest e ↦ omega (arith, ap empty_line e, ap length e, at_lf rest)
  | crlf_first rest e ↦ omega (arith, ap empty_line e, ap length e, at_crlf rest)
  | too_few e ↦ omega (arith, ap empty_line e, at_nothing)
  | cr_alone e ↦ omega (arith, ap empty_line e, at_cr)
  | other none ↦ omega (arith, none_of bytes none)
]

pub empty_small : (bytes : List ℕ) → empty_line bytes ≤ 2
empty_small bytes = elim (line_of bytes) as (λ _. empty_line bytes ≤ 2) [
  | lf_first rest e ↦ omega (arith, ap empty_line e, at_lf rest)
  | crlf_first rest e ↦ omega (arith, ap empty_line e, at_crlf rest)
  | too_few e ↦ omega (arith, ap empty_line e, at_nothing)
  | cr_alone e ↦ omega (arith, ap empty_line e, at_cr)
  | other none ↦ omega (arith, none_of bytes none)
]

-- ---- the end of a head

abbrev pub ends_here : ℕ → List ℕ → Bool
ends_here b bytes = b == 10 && nat_lt 0 (empty_line bytes)

abbrev end_by : Bool → List ℕ → Option ℕ
end_by t bytes = if t then Some (suc (empty_line bytes)) else option_map suc (head_end bytes)

pub no_end : head_end [] ≡ None
unfolding head_end
no_end = refl

end_cons : (b : ℕ) (bytes : List ℕ) → head_end (b ∷ bytes) ≡ end_by (ends_here b bytes) bytes
unfolding head_end
end_cons b bytes = refl

pub end_here : (b : ℕ) (bytes : List ℕ) → b ≡ 10 → 0 < empty_line bytes → head_end (b ∷ bytes) ≡ Some (suc (empty_line bytes))
end_here b bytes e some =
    end_cons b bytes ∙ ap (λ (t : Bool). end_by t bytes) (and_from (b == 10) (nat_lt 0 (empty_line bytes)) (eq-eqb b 10 e) (lt-ltb 0 (empty_line bytes) some))

end_later : (b : ℕ) (bytes : List ℕ) → ends_here b bytes ≡ false → head_end (b ∷ bytes) ≡ option_map suc (head_end bytes)
end_later b bytes e = end_cons b bytes ∙ ap (λ (t : Bool). end_by t bytes) e

pub end_not_here : (b : ℕ) (bytes : List ℕ) → empty_line bytes ≤ 0 → head_end (b ∷ bytes) ≡ option_map suc (head_end bytes)
end_not_here b bytes none = end_later b bytes (and_right (b == 10) (nat_lt 0 (empty_line bytes)) (le-ltb 0 (empty_line bytes) none))

pub end_other : (b : ℕ) (bytes : List ℕ) → b ≢ 10 → head_end (b ∷ bytes) ≡ option_map suc (head_end bytes)
end_other b bytes n = end_later b bytes (and_left (b == 10) (nat_lt 0 (empty_line bytes)) (ne_eqb b 10 n))

-- either it ends here, or later
pub data Way (b : ℕ) (bytes : List ℕ) : Type 0 where
  here : b ≡ 10 → 0 < empty_line bytes → head_end (b ∷ bytes) ≡ Some (suc (empty_line bytes)) → Way b bytes
  later : ends_here b bytes ≡ false → head_end (b ∷ bytes) ≡ option_map suc (head_end bytes) → Way b bytes

pub way : (b : ℕ) (bytes : List ℕ) → Way b bytes
way b bytes = by_test (ends_here b bytes) refl
  where
    by_test : (t : Bool) → ends_here b bytes ≡ t → Way b bytes
    by_test true e =
        let both = and_parts (b == 10) (nat_lt 0 (empty_line bytes)) e in
        here (eqb-true b 10 both.0) (ltb-true 0 (empty_line bytes) both.1) (end_cons b bytes ∙ ap (λ (t : Bool). end_by t bytes) e)
    by_test false e = later e (end_later b bytes e)

-- where it ends here, the test says so
pub no_test : (b : ℕ) (bytes : List ℕ) → b ≡ 10 → 0 < empty_line bytes → ends_here b bytes ≡ false → ⊥
no_test b bytes lf some isnt = both_ways (ends_here b bytes) isnt (and_from (b == 10) (nat_lt 0 (empty_line bytes)) (eq-eqb b 10 lf) (lt-ltb 0 (empty_line bytes) some))

-- the one less that an end is at behind the first byte
pub less_one : (o : Option ℕ) (n : ℕ) → option_map suc o ≡ Some n → (m : ℕ) × (o ≡ Some m) × (suc m ≡ n)
less_one None n e = absurd (cc)
less_one (Some m) n e = (m, refl, cc)

pub none_less : (o : Option ℕ) → option_map suc o ≡ None → o ≡ None
none_less None e = refl
none_less (Some m) e = absurd (cc)

pub end_within : (bytes : List ℕ) (n : ℕ) → head_end bytes ≡ Some n → (2 ≤ n) × (n ≤ length bytes)
end_within [] n e = (let no_some = sym no_end ∙ e in absurd (cc))
end_within (b ∷ bytes) n e = elim (way b bytes) as (λ _. (2 ≤ n) × (n ≤ length (b ∷ bytes))) [
  | here lf some k ↦ (let same : suc (empty_line bytes) ≡ n = cc in (omega (arith, same, some), omega (arith, same, empty_within bytes)))
  | later no_test k ↦
      let rest = less_one (head_end bytes) n (sym k ∙ e) in
      let in_rest = end_within bytes rest.0 rest.1 in
      (omega (arith, rest.2, in_rest.0), omega (arith, rest.2, in_rest.1))
]

pub end_more : (bytes more : List ℕ) (n : ℕ) → head_end bytes ≡ Some n → head_end (bytes ++ more) ≡ Some n
end_more [] more n e = (let no_some = sym no_end ∙ e in absurd (cc))
end_more (b ∷ bytes) more n e = elim (way b bytes) as (λ _. head_end (b ∷ (bytes ++ more)) ≡ Some n) [
  | here lf some k ↦
      let same = empty_more bytes more some in
      end_here b (bytes ++ more) lf (omega (arith, same, some)) ∙ ap (λ (m : ℕ). Some (suc m)) same ∙ sym k ∙ e
  | later no_test k ↦
      let rest = less_one (head_end bytes) n (sym k ∙ e) in
      let stays = end_more bytes more rest.0 rest.1 in
      let long = end_within bytes rest.0 rest.1 in
      still no_test (omega (arith, long.0, long.1)) (ap (option_map suc) stays ∙ ap Some rest.2)
]
  where
    still : ends_here b bytes ≡ false → 2 ≤ length bytes → option_map suc (head_end (bytes ++ more)) ≡ Some n → head_end (b ∷ (bytes ++ more)) ≡ Some n
    still no_test long k = elim (way b (bytes ++ more)) as (λ _. head_end (b ∷ (bytes ++ more)) ≡ Some n) [
      | here lf some w ↦ elim (cases_lt 0 (empty_line bytes)) as (λ _. head_end (b ∷ (bytes ++ more)) ≡ Some n) [
        | inl was ↦ absurd (both_ways (ends_here b bytes) no_test (and_from (b == 10) (nat_lt 0 (empty_line bytes)) (eq-eqb b 10 lf) (lt-ltb 0 (empty_line bytes) was)))
        | inr none ↦ absurd (omega (arith, empty_late bytes more none some, empty_small (bytes ++ more), long))
      ]
      | later t w ↦ w ∙ k
    ]

-- an end that more bytes make lies behind all the bytes before
pub end_late : (bytes more : List ℕ) (n : ℕ) → head_end bytes ≡ None → head_end (bytes ++ more) ≡ Some n → length bytes < n
end_late [] more n none e = omega (arith, (end_within more n e).0)
end_late (b ∷ bytes) more n none e = elim (way b bytes) as (λ _. length (b ∷ bytes) < n) [
  | here lf some k ↦ (let no_some = sym none ∙ k in absurd (cc))
  | later no_test k ↦ grown no_test (none_less (head_end bytes) (sym k ∙ none)) (way b (bytes ++ more)) (λ m h. end_late bytes more m (none_less (head_end bytes) (sym k ∙ none)) h)
]
  where
    grown : ends_here b bytes ≡ false → head_end bytes ≡ None → Way b (bytes ++ more) → ((m : ℕ) → head_end (bytes ++ more) ≡ Some m → length bytes < m) → length (b ∷ bytes) < n
    grown no_test before (here lf some w) step = elim (cases_lt 0 (empty_line bytes)) as (λ _. length (b ∷ bytes) < n) [
      | inl was ↦ absurd (both_ways (ends_here b bytes) no_test (and_from (b == 10) (nat_lt 0 (empty_line bytes)) (eq-eqb b 10 lf) (lt-ltb 0 (empty_line bytes) was)))
      | inr less ↦ (let same : suc (empty_line (bytes ++ more)) ≡ n = cc in omega (arith, same, empty_late bytes more less some))
    ]
    grown no_test before (later t w) step =
        let rest = less_one (head_end (bytes ++ more)) n (sym w ∙ e) in
        omega (arith, rest.2, step rest.0 rest.1)

-- ---- from line end to line end

add_none : (o : Option ℕ) → o ≡ option_map (λ (n : ℕ). 0 + n) o
add_none None = refl
add_none (Some n) = ap Some (omega arith)

add_twice : (j k : ℕ) (o : Option ℕ) → option_map (λ (n : ℕ). j + n) (option_map (λ (n : ℕ). k + n) o) ≡ option_map (λ (n : ℕ). (j + k) + n) o
add_twice j k None = refl
add_twice j k (Some n) = ap Some (omega arith)

add_suc : (k : ℕ) (o : Option ℕ) → option_map suc (option_map (λ (n : ℕ). k + n) o) ≡ option_map (λ (n : ℕ). suc k + n) o
add_suc k None = refl
add_suc k (Some n) = ap Some (omega arith)

add_one : (o : Option ℕ) → option_map suc o ≡ option_map (λ (n : ℕ). 1 + n) o
add_one None = refl
add_one (Some n) = ap Some (omega arith)

-- bytes that end no line are passed over
skip_to : (text : List ℕ) (k : ℕ) → k ≤ length text → ((j : ℕ) → j < k → get_or text j 0 ≢ 10)
    → head_end text ≡ option_map (λ (n : ℕ). k + n) (head_end (drop k text))
skip_to text zero fits none = add_none (head_end text)
skip_to [] (suc k) fits none = absurd (omega arith)
skip_to (b ∷ text) (suc k) fits none =
    end_other b text (none 0 (omega arith)) ∙ ap (option_map suc) (skip_to text k (omega arith) (λ j less. none (suc j) (omega arith)))
    ∙ add_suc k (head_end (drop k text))

no_lf : (text : List ℕ) (j : ℕ) → ¬ (Passes (is_byte 10) text j) → get_or text j 0 ≢ 10
no_lf text j n e = n (eq-eqb (get_or text j 0) 10 e)

pub end_nowhere : (text : List ℕ) → IsFirstByte (is_byte 10) text None → head_end text ≡ None
end_nowhere text h =
    skip_to text (length text) (omega arith) (λ j less. no_lf text j (h j (omega arith) less))
    ∙ ap (λ (t : List ℕ). option_map (λ (n : ℕ). length text + n) (head_end t)) (drop_all (length text) text (omega arith))
    ∙ ap (option_map (λ (n : ℕ). length text + n)) no_end

-- the text from its first line feed on
from_lf : (text : List ℕ) (k : ℕ) → IsFirstByte (is_byte 10) text (Some k)
    → (k < length text) × (head_end text ≡ option_map (λ (n : ℕ). k + n) (head_end (10 ∷ drop (k + 1) text)))
from_lf text k h =
    let byte : get_or text k 0 ≡ 10 = eqb-true (get_or text k 0) 10 h.1 in (
      h.0.high,
      skip_to text k (omega (arith, h.0.high)) (λ j less. no_lf text j (h.0.before j (omega arith) less))
          ∙ ap (λ (t : List ℕ). option_map (λ (n : ℕ). k + n) (head_end t)) (drop_more text k 0 h.0.high ∙ ap (λ (b : ℕ). b ∷ drop (k + 1) text) byte),
    )

pub lf_ends : (text : List ℕ) (k : ℕ) → IsFirstByte (is_byte 10) text (Some k) → 0 < empty_line (drop (k + 1) text)
    → head_end text ≡ Some ((k + 1) + empty_line (drop (k + 1) text))
lf_ends text k h some =
    (from_lf text k h).1 ∙ ap (option_map (λ (n : ℕ). k + n)) (end_here 10 (drop (k + 1) text) refl some) ∙ ap Some (omega arith)

pub lf_passed : (text : List ℕ) (k : ℕ) → IsFirstByte (is_byte 10) text (Some k) → empty_line (drop (k + 1) text) ≤ 0
    → head_end text ≡ option_map (λ (n : ℕ). (k + 1) + n) (head_end (drop (k + 1) text))
lf_passed text k h none =
    (from_lf text k h).1 ∙ ap (option_map (λ (n : ℕ). k + n)) (end_not_here 10 (drop (k + 1) text) none ∙ add_one (head_end (drop (k + 1) text)))
    ∙ add_twice k 1 (head_end (drop (k + 1) text))

-- the same in the middle of the bytes, from `at` on
pub ends_at : (bytes : List ℕ) (at k : ℕ) → at ≤ length bytes → head_end bytes ≡ option_map (λ (n : ℕ). at + n) (head_end (drop at bytes))
    → IsFirstByte (is_byte 10) (drop at bytes) (Some k) → 0 < empty_line (drop (at + (k + 1)) bytes)
    → Some ((at + (k + 1)) + empty_line (drop (at + (k + 1)) bytes)) ≡ head_end bytes
ends_at bytes at k fits e h some =
    let later : drop (k + 1) (drop at bytes) ≡ drop (at + (k + 1)) bytes = drop-drop (k + 1) at bytes in
    let found = lf_ends (drop at bytes) k h (subst (λ (t : List ℕ). 0 < empty_line t) (sym later) some) in
    sym (e ∙ ap (option_map (λ (n : ℕ). at + n)) (found ∙ ap (λ (t : List ℕ). Some ((k + 1) + empty_line t)) later) ∙ ap Some (omega arith))

pub passed_at : (bytes : List ℕ) (at k : ℕ) → at ≤ length bytes → head_end bytes ≡ option_map (λ (n : ℕ). at + n) (head_end (drop at bytes))
    → IsFirstByte (is_byte 10) (drop at bytes) (Some k) → empty_line (drop (at + (k + 1)) bytes) ≤ 0
    → (at + (k + 1) ≤ length bytes) × (head_end bytes ≡ option_map (λ (n : ℕ). (at + (k + 1)) + n) (head_end (drop (at + (k + 1)) bytes)))
passed_at bytes at k fits e h none =
    let later : drop (k + 1) (drop at bytes) ≡ drop (at + (k + 1)) bytes = drop-drop (k + 1) at bytes in
    let found = lf_passed (drop at bytes) k h (subst (λ (t : List ℕ). empty_line t ≤ 0) (sym later) none) in (
      omega (arith, length-drop at bytes, h.0.high),
      e ∙ ap (option_map (λ (n : ℕ). at + n)) (found ∙ ap (λ (t : List ℕ). option_map (λ (n : ℕ). (k + 1) + n) (head_end t)) later)
          ∙ add_twice at (k + 1) (head_end (drop (at + (k + 1)) bytes)),
    )
