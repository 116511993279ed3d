-- Reading from left to right: a value and the bytes after it, or none.
use Rattle.std.specs.Prelude.{◌≡◌, ℕ, zero, suc, Bool, List, [], ◌∷◌, length, take, drop, Option, Some, None, Result, Ok, Err, nat_lt, ◌==◌, if◌then◌else◌}
use Rattle.std.specs.Int.{Width, w32, byte_len, from_be_bytes}
use Rattle.std.specs.Str.{is_utf8}
use Rattle.shop_kept.specs.declared.fault.DecodeFault.{DecodeFault}
use Rattle.shop_kept.specs.declared.fault.DecodeFault.TheVariants as faults

infixl 10 ◌>>=◌
abbrev pub ◌>>=◌ : {A B : Type 0} → Option A → (A → Option B) → Option B
(Some x) >>= f = f x
None >>= f = None

-- What a function returned, seen by view, is what reading gives, unless memory ran out.
abbrev pub Fails : {Y : Type 0} → DecodeFault → Option Y → Type 0
Fails faults.Malformed read = read ≡ None
Fails faults.NoMemory read = Unit {0}

-- where memory was wanted and refused, P holds
abbrev pub OnWant : {X : Type 0} → Result X DecodeFault → Type 0 → Type 0
OnWant (Ok x) P = Unit {0}
OnWant (Err faults.Malformed) P = Unit {0}
OnWant (Err faults.NoMemory) P = P

abbrev pub Gives : {X Y : Type 0} → (X → Y) → Result X DecodeFault → Option Y → Type 0
Gives view (Ok x) read = read ≡ Some (view x)
Gives view (Err e) read = Fails e read

abbrev pub Reader : Type 0 → Type 0
Reader X = List ℕ → Option (X × List ℕ)

abbrev pub byte_at : Reader ℕ
byte_at [] = None
byte_at (b ∷ rest) = Some (b, rest)

abbrev pub number_at : Width → Reader ℕ
number_at w bytes = if nat_lt (length bytes) (byte_len w) then None else Some (from_be_bytes w (take (byte_len w) bytes), drop (byte_len w) bytes)

abbrev pub front_at : ℕ → Reader (List ℕ)
front_at n bytes = if nat_lt (length bytes) n then None else Some (take n bytes, drop n bytes)

-- one, and then another
abbrev pub pair_at : {A B : Type 0} → Reader A → Reader B → Reader (A × B)
pair_at first second bytes = first bytes >>= λ a. second a.1 >>= λ b. Some ((a.0, b.0), b.1)

-- seen as another type
abbrev pub as_at : {A B : Type 0} → (A → B) → Reader A → Reader B
as_at f read bytes = read bytes >>= λ a. Some (f a.0, a.1)

-- only those that pass the test
abbrev pub such_at : {A : Type 0} → (A → Bool) → Reader A → Reader A
such_at test read bytes = read bytes >>= λ a. if test a.0 then Some a else None

-- only those that stand for something
abbrev pub choice_at : {A B : Type 0} → (A → Option B) → Reader A → Reader B
choice_at choose read bytes = read bytes >>= λ a. choose a.0 >>= λ b. Some (b, a.1)

-- n of them
abbrev pub many_at : {A : Type 0} → Reader A → ℕ → Reader (List A)
many_at read zero bytes = Some ([], bytes)
many_at read (suc n) bytes = read bytes >>= λ a. many_at read n a.1 >>= λ others. Some (a.0 ∷ others.0, others.1)

-- a count, and that many
abbrev pub counted_at : {A : Type 0} → Reader ℕ → Reader A → Reader (List A)
counted_at count read bytes = count bytes >>= λ n. many_at read n.0 n.1

abbrev pub first_or_zero : Option (ℕ × List ℕ) → ℕ
first_or_zero (Some n) = n.0
first_or_zero None = 0

-- what a count at the front says: 0 where there is none
abbrev pub count_said : Reader ℕ → List ℕ → ℕ
count_said count bytes = first_or_zero (count bytes)

-- a length, and a text of that many bytes
abbrev pub text_at : Reader (List ℕ)
text_at bytes = number_at w32 bytes >>= λ n. such_at is_utf8 (front_at n.0) n.1

-- all of the bytes
abbrev pub whole : {A : Type 0} → Reader A → List ℕ → Option A
whole read bytes = read bytes >>= λ a. if length a.1 == 0 then Some a.0 else None
