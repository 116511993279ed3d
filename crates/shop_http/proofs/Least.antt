-- A head ends at the least place at which it could.
use Rattle.std.proofs.Common.{◌≡◌, ℕ, zero, suc, ◌+◌, ◌<◌, ◌≤◌, false, List, [], ◌∷◌, length, drop, get_or, refl, sym, ap, ◌∙◌, arith, Option, Some, None}
use Rattle.shop_http.specs.Heads.{empty_line, head_end}
use Rattle.shop_http.specs.Laws.{EndsAt, TheEndIsTheLeast}
use Rattle.shop_http.proofs.Ends.{empty_small, end_here, here, later, way, less_one, none_less, no_end, ends_here, no_test}

abbrev IsLeast : List ℕ → ℕ → Type 0
IsLeast bytes n = (m : ℕ) → EndsAt bytes m → n ≤ m

none_at : (n : ℕ) → EndsAt [] n → ⊥
none_at n e = omega (arith, e.within)

-- at the first byte, or behind it
data Place (b : ℕ) (bytes : List ℕ) (n : ℕ) : Type 0 where
  at_first : b ≡ 10 → 0 < empty_line bytes → n ≡ suc (empty_line bytes) → Place b bytes n
  behind : (m : ℕ) → EndsAt bytes m → n ≡ suc m → Place b bytes n

place : (b : ℕ) (bytes : List ℕ) (n : ℕ) → EndsAt (b ∷ bytes) n → Place b bytes n
place b bytes n e = by e.line e.within e.ends e.empty e.is_end
  where
    by : (line : ℕ) → line < length (b ∷ bytes) → get_or (b ∷ bytes) line 0 ≡ 10 → 0 < empty_line (drop (suc line) (b ∷ bytes)) → n ≡ suc line + empty_line (drop (suc line) (b ∷ bytes))
        → Place b bytes n
    by zero within ends some is = at_first ends some (omega (arith, is))
    by (suc line) within ends some is =
        behind (suc line + empty_line (drop (suc line) bytes)) (record { line = line; within = omega (arith, within); ends = ends; empty = some; is_end = refl }) (omega (arith, is))

later_place : (b : ℕ) (bytes : List ℕ) (n : ℕ) → EndsAt bytes n → EndsAt (b ∷ bytes) (suc n)
later_place b bytes n e = record {
  line = suc e.line;
  within = omega (arith, e.within);
  ends = e.ends;
  empty = e.empty;
  is_end = omega (arith, e.is_end);
}

-- an end takes two bytes at least
two_at : (bytes : List ℕ) (n : ℕ) → EndsAt bytes n → 2 ≤ n
two_at bytes n e = omega (arith, e.empty, e.is_end)

-- where none is found there is none
none_there : (bytes : List ℕ) (n : ℕ) → head_end bytes ≡ None → EndsAt bytes n → ⊥
none_there [] n none e = none_at n e
none_there (b ∷ bytes) n none e = elim (place b bytes n e) as (λ _. ⊥) [
  | at_first lf some is ↦ (let isnt = sym none ∙ end_here b bytes lf some in cc)
  | behind m at is ↦ elim (way b bytes) as (λ _. ⊥) [
    | here lf some k ↦ (let isnt = sym none ∙ k in cc)
    | later t k ↦ none_there bytes m (none_less (head_end bytes) (sym k ∙ none)) at
  ]
]

-- what is found is an end, and the least
found_at : (bytes : List ℕ) (n : ℕ) → head_end bytes ≡ Some n → EndsAt bytes n × IsLeast bytes n
found_at [] n e = (let isnt = sym no_end ∙ e in absurd (cc))
found_at (b ∷ bytes) n e = elim (way b bytes) as (λ _. EndsAt (b ∷ bytes) n × IsLeast (b ∷ bytes) n) [
  | here lf some k ↦
      (let same : suc (empty_line bytes) ≡ n = cc in (
        record { line = zero; within = omega arith; ends = lf; empty = some; is_end = omega (arith, same) },
        λ m at. first same (place b bytes m at),
      ))
  | later t k ↦
      let rest = less_one (head_end bytes) n (sym k ∙ e) in
      let in_rest = found_at bytes rest.0 rest.1 in (
        rw (sym rest.2) (later_place b bytes rest.0 in_rest.0),
        λ m at. after rest.0 rest.2 in_rest.1 t m (place b bytes m at),
      )
]
  where
    first : suc (empty_line bytes) ≡ n → {m : ℕ} → Place b bytes m → n ≤ m
    first same (at_first lf some is) = omega (arith, same, is)
    first same (behind k at is) = omega (arith, same, is, two_at bytes k at, empty_small bytes)

    after : (k : ℕ) → suc k ≡ n → IsLeast bytes k → ends_here b bytes ≡ false → (m : ℕ) → Place b bytes m → n ≤ m
    after k same least t m (at_first lf some is) = absurd (no_test b bytes lf some t)
    after k same least t m (behind j at is) = omega (arith, same, is, least j at)

pub end_is_least : TheEndIsTheLeast
end_is_least bytes n = (found_at bytes n, λ h. by (head_end bytes) refl h.0 h.1)
  where
    by : (o : Option ℕ) → head_end bytes ≡ o → EndsAt bytes n → IsLeast bytes n → head_end bytes ≡ Some n
    by None e at least = absurd (none_there bytes n e at)
    by (Some k) e at least =
        let found = found_at bytes k e in
        let same : k ≡ n = omega (arith, found.1 n at, least k found.0) in
        e ∙ ap Some same
