-- The law of the reader, for texts and values.
use Rattle.std.proofs.Common.{◌≡◌, ℕ, zero, suc, ◌^◌, ◌<◌, Bool, true, false, cond, eqb, List, [], ◌∷◌, ◌++◌, length, Option, Some, None, refl, ap, subst, ◌∙◌, arith, inl, inr, ◌⊎◌}
use Rattle.std.specs.Int.{w32, w64, w128, to_be_bytes, cast_signed, cast_unsigned}
use Rattle.std.specs.Int.RustNames.{FitsSigned}
use Rattle.std.specs.Str.{is_utf8}
use lib.IntN.{ℤ}
use Rattle.std.proofs.lemmas.Int.{ints, to_z-of_z, of_z-to_z}
use Rattle.std.proofs.lemmas.Bool.{eqb-true}
use Rattle.shop_defs.specs.declared.value.Value.{Value}
use Rattle.shop_defs.specs.declared.value.Value.TheVariants as V
use Rattle.shop_kept.specs.Readers.{◌>>=◌, number_at, text_at, front_at, as_at, such_at}
use Rattle.shop_kept.specs.Spelling.{kept_text, kept_value, kept_given, IsText, IsValue, IsGiven}
use Rattle.shop_kept.specs.Reading.{value_at, given_at}
use Rattle.shop_kept.proofs.Readable.{IsBytes, IsBytes-rest, Takes, IsRead, bind_some, some_is, read_number, read_front, read_as, read_prefixed, read_such}
use Rattle.shop_kept.proofs.Words.{wide32, wide64, wide128}

pub read_text : IsRead kept_text IsText text_at
read_text = read_prefixed (to_be_bytes w32) (λ n. n < 2 ^ 32) (number_at w32) (read_number w32 (2 ^ 32) wide32) length (λ (t : List ℕ). t) (λ t. is_utf8 t ≡ true) (λ n. such_at is_utf8 (front_at n)) (λ n. read_such (λ (t : List ℕ). t) (λ t. length t ≡ n) (front_at n) (read_front n) is_utf8)

signed_fits : (n : ℕ) → n < 2 ^ 64 → FitsSigned w64 (cast_signed w64 n)
signed_fits n lt = record { sfits = grind (arith, ints) }

unsigned_fits : (z : ℤ) → FitsSigned w64 z → cast_unsigned w64 z < 2 ^ 64
unsigned_fits z fits = omega (arith, ints)

pub read_int : IsRead (λ z. to_be_bytes w64 (cast_unsigned w64 z)) (FitsSigned w64) (as_at (cast_signed w64) (number_at w64))
read_int = read_as (to_be_bytes w64) (λ n. n < 2 ^ 64) (number_at w64) (read_number w64 (2 ^ 64) wide64) (cast_signed w64) (cast_unsigned w64) (FitsSigned w64) (λ n lt. of_z-to_z w64 n lt) (λ z fits. to_z-of_z w64 z fits) signed_fits unsigned_fits

pub read_id : IsRead (to_be_bytes w128) (λ n. n < 2 ^ 128) (number_at w128)
read_id = read_number w128 (2 ^ 128) wide128

-- a tag before what a reader took
tagged : (tag : ℕ) (bytes text rest : List ℕ) → Takes bytes text rest → Takes (tag ∷ bytes) (tag ∷ text) rest
tagged tag bytes text rest t = record { parts = ap (λ (w : List ℕ). tag ∷ w) t.parts; rest_fits = t.rest_fits }

abbrev IsTaken : List ℕ → Value × List ℕ → Type 0
IsTaken bytes y = Takes bytes (kept_value y.0) y.1 × IsValue y.0

value_takes : (bytes : List ℕ) (x : Value × List ℕ) → IsBytes bytes → value_at bytes ≡ Some x → IsTaken bytes x
value_takes [] x fits e = absurd cc
value_takes (zero ∷ rest) x fits e = subst (IsTaken (0 ∷ rest)) (some_is (V.Flag false, rest) x e) (record { parts = refl; rest_fits = IsBytes-rest 0 rest fits }, tt)
value_takes (suc zero ∷ rest) x fits e = subst (IsTaken (1 ∷ rest)) (some_is (V.Flag true, rest) x e) (record { parts = refl; rest_fits = IsBytes-rest 1 rest fits }, tt)
value_takes (suc (suc zero) ∷ rest) x fits e =
    let b = bind_some (number_at w64 rest) (λ n. Some (V.Int (cast_signed w64 n.0), n.1)) x e in
    let as_int : Option (ℕ × List ℕ) → Option (ℤ × List ℕ) = λ r. r >>= λ n. Some (cast_signed w64 n.0, n.1) in
    let t = read_int.takes rest (cast_signed w64 b.0.0, b.0.1) (IsBytes-rest 2 rest fits) (ap as_int b.1) in
    subst (IsTaken (2 ∷ rest)) (some_is (V.Int (cast_signed w64 b.0.0), b.0.1) x b.2) (tagged 2 _ _ _ t.0, t.1)
value_takes (suc (suc (suc zero)) ∷ rest) x fits e =
    let b = bind_some (text_at rest) (λ t. Some (V.Text t.0, t.1)) x e in
    let t = read_text.takes rest b.0 (IsBytes-rest 3 rest fits) b.1 in
    subst (IsTaken (3 ∷ rest)) (some_is (V.Text b.0.0, b.0.1) x b.2) (tagged 3 _ _ _ t.0, t.1)
value_takes (suc (suc (suc (suc zero))) ∷ rest) x fits e =
    let b = bind_some (number_at w128 rest) (λ n. Some (V.Ident n.0, n.1)) x e in
    let t = read_id.takes rest b.0 (IsBytes-rest 4 rest fits) b.1 in
    subst (IsTaken (4 ∷ rest)) (some_is (V.Ident b.0.0, b.0.1) x b.2) (tagged 4 _ _ _ t.0, t.1)
value_takes (suc (suc (suc (suc (suc b)))) ∷ rest) x fits e = absurd cc

value_again : (v : Value) (rest : List ℕ) → IsValue v → value_at (kept_value v ++ rest) ≡ Some (v, rest)
value_again (V.Flag false) rest fits = refl
value_again (V.Flag true) rest fits = refl
value_again (V.Int z) rest fits =
    let number = read_number w64 (2 ^ 64) wide64 in
    ap (λ (r : Option (ℕ × List ℕ)). r >>= λ n. Some (V.Int (cast_signed w64 n.0), n.1)) (number.again (cast_unsigned w64 z) rest (unsigned_fits z fits)) ∙ ap (λ (y : ℤ). Some (V.Int y, rest)) (to_z-of_z w64 z fits)
value_again (V.Text t) rest fits = ap (λ (r : Option (List ℕ × List ℕ)). r >>= λ n. Some (V.Text n.0, n.1)) (read_text.again t rest fits)
value_again (V.Ident id) rest fits = ap (λ (r : Option (ℕ × List ℕ)). r >>= λ n. Some (V.Ident n.0, n.1)) (read_id.again id rest fits)

pub read_value : IsRead kept_value IsValue value_at
read_value = record { takes = value_takes; again = value_again }

chosen : {A : Type 0} (c : Bool) (x y z : A) → cond c x y ≡ z → ((c ≡ true) × (x ≡ z)) ⊎ ((c ≡ false) × (y ≡ z))
chosen true x y z e = inl (refl, e)
chosen false x y z e = inr (refl, e)

abbrev IsTakenGiven : List ℕ → Option Value × List ℕ → Type 0
IsTakenGiven bytes y = Takes bytes (kept_given y.0) y.1 × IsGiven y.0

given_takes : (bytes : List ℕ) (x : Option Value × List ℕ) → IsBytes bytes → given_at bytes ≡ Some x → IsTakenGiven bytes x
unfolding given_at
given_takes [] x fits e = absurd cc
given_takes (b ∷ rest) x fits e = by (chosen (eqb b 5) (Some (None, rest)) (value_at (b ∷ rest) >>= λ v. Some (Some v.0, v.1)) (Some x) e)
  where
    by : ((eqb b 5 ≡ true) × (Some (None, rest) ≡ Some x)) ⊎ ((eqb b 5 ≡ false) × ((value_at (b ∷ rest) >>= λ v. Some (Some v.0, v.1)) ≡ Some x)) → IsTakenGiven (b ∷ rest) x
    by (inl p) =
        let same : b ≡ 5 = eqb-true _ _ p.0 in
        subst (IsTakenGiven (b ∷ rest)) (some_is (None, rest) x p.1) (record { parts = ap (λ (n : ℕ). n ∷ rest) same; rest_fits = IsBytes-rest b rest fits }, tt)
    by (inr p) =
        let a = bind_some (value_at (b ∷ rest)) (λ v. Some (Some v.0, v.1)) x p.1 in
        let t = value_takes (b ∷ rest) a.0 fits a.1 in
        subst (IsTakenGiven (b ∷ rest)) (some_is (Some a.0.0, a.0.1) x a.2) (t.0, t.1)

abbrev some_given : Option (Value × List ℕ) → Option (Option Value × List ℕ)
some_given r = r >>= λ v. Some (Some v.0, v.1)

given_again : (v : Option Value) (rest : List ℕ) → IsGiven v → given_at (kept_given v ++ rest) ≡ Some (v, rest)
unfolding given_at
given_again None rest fits = refl
given_again (Some (V.Flag false)) rest fits = refl
given_again (Some (V.Flag true)) rest fits = refl
given_again (Some (V.Int z)) rest fits = ap some_given (value_again (V.Int z) rest fits)
given_again (Some (V.Text t)) rest fits = ap some_given (value_again (V.Text t) rest fits)
given_again (Some (V.Ident id)) rest fits = ap some_given (value_again (V.Ident id) rest fits)

pub read_given : IsRead kept_given IsGiven given_at
read_given = record { takes = given_takes; again = given_again }
