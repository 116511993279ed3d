-- What an edit of a list of fields at a place does, where the place was searched from the front.
use Rattle.std.proofs.Common.{◌≡◌, ◌≢◌, ◌==◌, ℕ, zero, suc, ◌+◌, ◌<◌, ◌≤◌, Bool, true, false, nat_lt, nat_le, not, cond, List, [], ◌∷◌, ◌++◌, length, get_or, set, position, Some, None, refl, sym, ap, arith}
use Rattle.std.specs.declared.cmp.Ordering.TheVariants.{Less, Equal, Greater}
use Rattle.std.specs.List.{position_or_len, insert, remove}
use Rattle.std.specs.Ordering.{nat_cmp, is_eq}
use Rattle.std.proofs.lemmas.Bool.Decides.{nat_tests}
use Rattle.keyed.specs.Keyed.{put, without}
use Rattle.shop_defs.specs.declared.value.Value.{Value}
use Rattle.shop_operations.specs.Upserts.{field_number}

-- the field's number isn't below that one
abbrev pub is_from : ℕ → ℕ × Value → Bool
is_from number field = nat_le number field.0

-- the field has that number
abbrev pub has_number : ℕ → ℕ × Value → Bool
has_number number field = field.0 == number

less : (a b : ℕ) → nat_le b a ≡ false → nat_cmp a b ≡ Less
less a b h = grind (arith, nat_tests)

equal : (a b : ℕ) → a ≡ b → nat_cmp a b ≡ Equal
equal a b h = grind (arith, nat_tests)

greater : (a b : ℕ) → nat_le b a ≡ true → a ≢ b → nat_cmp a b ≡ Greater
greater a b h n = grind (arith, nat_tests)

is_equal : (a b : ℕ) → is_eq (nat_cmp a b) ≡ (a == b)
is_equal a b = grind (arith, nat_tests)

-- a place that is found is the first
found_at : {X : Type 0} (p : X → Bool) (xs : List X) (i : ℕ) → position p xs ≡ Some i → (position_or_len p xs ≡ i) × (i < length xs)
found_at {X} p xs i h = by (nat_lt (position_or_len p xs) (length xs)) refl h
  where
    by : (b : Bool) → nat_lt (position_or_len p xs) (length xs) ≡ b → cond b (Some (position_or_len p xs)) None ≡ Some i → (position_or_len p xs ≡ i) × (i < length xs)
    by true e f = let same : position_or_len p xs ≡ i = cc in (same, grind (arith, nat_tests))
    by false e f = cc

-- where none is found, no element passes
none_at : {X : Type 0} (p : X → Bool) (xs : List X) → position p xs ≡ None → length xs ≤ position_or_len p xs
none_at {X} p xs h = by (nat_lt (position_or_len p xs) (length xs)) refl h
  where
    by : (b : Bool) → nat_lt (position_or_len p xs) (length xs) ≡ b → cond b (Some (position_or_len p xs)) None ≡ None → length xs ≤ position_or_len p xs
    by true e f = cc
    by false e f = grind (arith, nat_tests)

set_from : (xs : List (ℕ × Value)) (y d : ℕ × Value) (i : ℕ) → position_or_len (is_from y.0) xs ≡ i → i < length xs → (get_or xs i d).0 ≡ y.0 → put nat_cmp field_number xs y ≡ set xs i y
set_from [] y d i e l s = absurd (omega arith)
set_from (x ∷ xs) y d i e l s = by (set_from xs y d) (nat_le y.0 x.0) refl i e l s
  where
    by : ((i : ℕ) → position_or_len (is_from y.0) xs ≡ i → i < length xs → (get_or xs i d).0 ≡ y.0 → put nat_cmp field_number xs y ≡ set xs i y) → (b : Bool) → nat_le y.0 x.0 ≡ b → (i : ℕ) → cond (not b) (1 + position_or_len (is_from y.0) xs) 0 ≡ i → i < length (x ∷ xs) → (get_or (x ∷ xs) i d).0 ≡ y.0 → put nat_cmp field_number (x ∷ xs) y ≡ set (x ∷ xs) i y
    by more true t zero e l s = rw (equal x.0 y.0 s) refl
    by more true t (suc i) e l s = absurd (omega (arith, e))
    by more false t zero e l s = absurd (omega (arith, e))
    by more false t (suc i) e l s = rw (less x.0 y.0 t) (ap (λ rest. x ∷ rest) (more i (omega (arith, e)) (omega arith) s))

insert_from : (xs : List (ℕ × Value)) (y d : ℕ × Value) (i : ℕ) → position_or_len (is_from y.0) xs ≡ i → (i < length xs → (get_or xs i d).0 ≢ y.0) → put nat_cmp field_number xs y ≡ insert xs i y
insert_from [] y d i e n = rw (sym e) refl
insert_from (x ∷ xs) y d i e n = by (insert_from xs y d) (nat_le y.0 x.0) refl i e n
  where
    by : ((i : ℕ) → position_or_len (is_from y.0) xs ≡ i → (i < length xs → (get_or xs i d).0 ≢ y.0) → put nat_cmp field_number xs y ≡ insert xs i y) → (b : Bool) → nat_le y.0 x.0 ≡ b → (i : ℕ) → cond (not b) (1 + position_or_len (is_from y.0) xs) 0 ≡ i → (i < length (x ∷ xs) → (get_or (x ∷ xs) i d).0 ≢ y.0) → put nat_cmp field_number (x ∷ xs) y ≡ insert (x ∷ xs) i y
    by more true t zero e n = rw (greater x.0 y.0 t (n (omega arith))) refl
    by more true t (suc i) e n = absurd (omega (arith, e))
    by more false t zero e n = absurd (omega (arith, e))
    by more false t (suc i) e n = rw (less x.0 y.0 t) (ap (λ rest. x ∷ rest) (more i (omega (arith, e)) (λ l. n (omega arith))))

remove_found : (xs : List (ℕ × Value)) (number i : ℕ) → position_or_len (has_number number) xs ≡ i → i < length xs → without nat_cmp field_number xs number ≡ remove xs i
remove_found [] number i e l = absurd (omega arith)
remove_found (x ∷ xs) number i e l = by (remove_found xs number) (x.0 == number) refl i e l
  where
    by : ((i : ℕ) → position_or_len (has_number number) xs ≡ i → i < length xs → without nat_cmp field_number xs number ≡ remove xs i) → (b : Bool) → (x.0 == number) ≡ b → (i : ℕ) → cond (not b) (1 + position_or_len (has_number number) xs) 0 ≡ i → i < length (x ∷ xs) → without nat_cmp field_number (x ∷ xs) number ≡ remove (x ∷ xs) i
    by more true t zero e l = rw (is_equal x.0 number, t) refl
    by more true t (suc i) e l = absurd (omega (arith, e))
    by more false t zero e l = absurd (omega (arith, e))
    by more false t (suc i) e l = rw (is_equal x.0 number, t) (ap (λ rest. x ∷ rest) (more i (omega (arith, e)) (omega arith)))

remove_none : (xs : List (ℕ × Value)) (number : ℕ) → length xs ≤ position_or_len (has_number number) xs → without nat_cmp field_number xs number ≡ xs
remove_none [] number l = refl
remove_none (x ∷ xs) number l = by (remove_none xs number) (x.0 == number) refl l
  where
    by : (length xs ≤ position_or_len (has_number number) xs → without nat_cmp field_number xs number ≡ xs) → (b : Bool) → (x.0 == number) ≡ b → length (x ∷ xs) ≤ cond (not b) (1 + position_or_len (has_number number) xs) 0 → without nat_cmp field_number (x ∷ xs) number ≡ (x ∷ xs)
    by more true t l = absurd (omega arith)
    by more false t l = rw (is_equal x.0 number, t) (ap (λ rest. x ∷ rest) (more (omega arith)))

-- a put where the number is there writes over its field
pub set_puts : (xs : List (ℕ × Value)) (y d : ℕ × Value) (i : ℕ) → position (is_from y.0) xs ≡ Some i → (get_or xs i d).0 ≡ y.0 → put nat_cmp field_number xs y ≡ set xs i y
set_puts xs y d i h s = let f = found_at (is_from y.0) xs i h in set_from xs y d i f.0 f.1 s

-- a put before the first greater number inserts there
pub insert_puts : (xs : List (ℕ × Value)) (y d : ℕ × Value) (i : ℕ) → position (is_from y.0) xs ≡ Some i → (get_or xs i d).0 ≢ y.0 → put nat_cmp field_number xs y ≡ insert xs i y
insert_puts xs y d i h n = let f = found_at (is_from y.0) xs i h in insert_from xs y d i f.0 (λ l. n)

-- a put above all numbers adds the field at the end
pub push_puts : (xs : List (ℕ × Value)) (y : ℕ × Value) → position (is_from y.0) xs ≡ None → put nat_cmp field_number xs y ≡ xs ++ y ∷ []
push_puts [] y h = refl
push_puts (x ∷ xs) y h = by (push_puts xs y) (nat_le y.0 x.0) refl (none_at (is_from y.0) (x ∷ xs) h)
  where
    none : length xs ≤ position_or_len (is_from y.0) xs → position (is_from y.0) xs ≡ None
    none l = let t : nat_lt (position_or_len (is_from y.0) xs) (length xs) ≡ false = grind (arith, nat_tests) in rw t refl

    by : (position (is_from y.0) xs ≡ None → put nat_cmp field_number xs y ≡ (xs ++ y ∷ [])) → (b : Bool) → nat_le y.0 x.0 ≡ b → length (x ∷ xs) ≤ cond (not b) (1 + position_or_len (is_from y.0) xs) 0 → put nat_cmp field_number (x ∷ xs) y ≡ ((x ∷ xs) ++ y ∷ [])
    by more true t l = absurd (omega arith)
    by more false t l = rw (less x.0 y.0 t) (ap (λ rest. x ∷ rest) (more (none (omega arith))))

-- the field that is found is taken out
pub remove_takes : (xs : List (ℕ × Value)) (number i : ℕ) → position (has_number number) xs ≡ Some i → without nat_cmp field_number xs number ≡ remove xs i
remove_takes xs number i h = let f = found_at (has_number number) xs i h in remove_found xs number i f.0 f.1

-- where none is found nothing is taken out
pub none_takes : (xs : List (ℕ × Value)) (number : ℕ) → position (has_number number) xs ≡ None → without nat_cmp field_number xs number ≡ xs
none_takes xs number h = remove_none xs number (none_at (has_number number) xs h)
