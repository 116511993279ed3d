-- What is read is spelled so, and what is spelled so is read: the law, kept by each way to put readers together.
use Rattle.std.proofs.Common.{◌≡◌, ℕ, zero, suc, ◌+◌, ◌<◌, ◌≤◌, Bool, true, false, cond, ltb, eqb, List, [], ◌∷◌, ◌++◌, length, get_or, take, drop, Option, Some, None, refl, sym, ap, subst, ◌∙◌, append_assoc, arith, inl, inr}
use Rattle.std.specs.List.{flat_map, AllByRecursion}
use Rattle.std.specs.Int.{Width, byte_len, from_be_bytes, to_be_bytes}
use Rattle.std.proofs.lemmas.Bool.{cases_lt, ltb-false, le-ltb, eqb-true}
use Rattle.std.proofs.lemmas.List.{take_at, drop_at, take-append-drop, length-append, length-take, get_or-drop, get_or-take, get_or_past, append-nil, nil_from_length}
use Rattle.std.proofs.lemmas.List.Concat.{flat_map-cons}
use Rattle.shop_kept.specs.Readers.{Reader, ◌>>=◌, byte_at, number_at, front_at, pair_at, as_at, such_at, choice_at, many_at, counted_at, whole}

abbrev pub IsBytes : List ℕ → Type 0
IsBytes bytes = (i : ℕ) → get_or bytes i 0 < 256

pub IsBytes-drop : (n : ℕ) (bytes : List ℕ) → IsBytes bytes → IsBytes (drop n bytes)
IsBytes-drop n bytes h i = rw get_or-drop (h (n + i))

pub IsBytes-take : (n : ℕ) (bytes : List ℕ) → IsBytes bytes → IsBytes (take n bytes)
IsBytes-take n bytes h i =
    elim (cases_lt i n) [
      | inl lt ↦ rw (get_or-take n bytes i 0 lt) (h i)
      | inr le ↦ rw (get_or_past (take n bytes) i 0 (omega (arith, length-take n bytes))) (omega arith)
    ]

pub IsBytes-rest : (b : ℕ) (bytes : List ℕ) → IsBytes (b ∷ bytes) → IsBytes bytes
IsBytes-rest b bytes h i = h (suc i)

-- the value of a step that did not fail
pub bind_some : {A B : Type 0} (r : Option A) (f : A → Option B) (y : B) → (r >>= f) ≡ Some y → (x : A) × (r ≡ Some x) × (f x ≡ Some y)
bind_some (Some x) f y e = (x, refl, e)
bind_some None f y e = absurd cc

-- a test that did not fail
pub guard_none : {A : Type 0} (b : Bool) (x y : A) → cond b None (Some x) ≡ Some y → (b ≡ false) × (x ≡ y)
guard_none true x y e = absurd cc
guard_none false x y e = (refl, cc)

pub guard_some : {A : Type 0} (b : Bool) (x y : A) → cond b (Some x) None ≡ Some y → (b ≡ true) × (x ≡ y)
guard_some true x y e = (refl, cc)
guard_some false x y e = absurd cc

abbrev done : {A : Type 0} → A → Option A
done x = Some x

pub some_is : {A : Type 0} (x y : A) → done x ≡ done y → x ≡ y
some_is x y e = cc

-- what a reader took from the front
pub record Takes (bytes text rest : List ℕ) : Type 0 where
  pub parts : bytes ≡ text ++ rest
  pub rest_fits : IsBytes rest

pub Takes-then : (a x b y c : List ℕ) → Takes a x b → Takes b y c → Takes a (x ++ y) c
Takes-then a x b y c p q = record { parts = p.parts ∙ ap (λ (t : List ℕ). x ++ t) q.parts ∙ sym (append_assoc x y c); rest_fits = q.rest_fits }

-- The spelling, which values have one, and the reader belong together.
pub record IsRead {X : Type 0} (spell : X → List ℕ) (Fits : X → Type 0) (read : Reader X) : Type 0 where
  pub takes : (bytes : List ℕ) (x : X × List ℕ) → IsBytes bytes → read bytes ≡ Some x → Takes bytes (spell x.0) x.1 × Fits x.0
  pub again : (x : X) (rest : List ℕ) → Fits x → read (spell x ++ rest) ≡ Some (x, rest)

pub refit : {X : Type 0} (s : X → List ℕ) (F : X → Type 0) (r : Reader X) → IsRead s F r → (G : X → Type 0) → ((x : X) → F x → G x) → ((x : X) → G x → F x) → IsRead s G r
refit s F r R G to from = record { takes = λ bytes x fits e. (let t = R.takes bytes x fits e in (t.0, to x.0 t.1)); again = λ x rest fits. R.again x rest (from x fits) }

-- ---- numbers

pub record IsWide (w : Width) (limit : ℕ) : Type 0 where
  pub len : (n : ℕ) → length (to_be_bytes w n) ≡ byte_len w
  pub back : (bytes : List ℕ) → length bytes ≡ byte_len w → IsBytes bytes → to_be_bytes w (from_be_bytes w bytes) ≡ bytes
  pub again : (n : ℕ) → n < limit → from_be_bytes w (to_be_bytes w n) ≡ n
  pub below : (bytes : List ℕ) → IsBytes bytes → from_be_bytes w bytes < limit

pub read_number : (w : Width) (limit : ℕ) → IsWide w limit → IsRead (to_be_bytes w) (λ n. n < limit) (number_at w)
read_number w limit wide = record { takes = takes; again = again }
  where
    takes : (bytes : List ℕ) (x : ℕ × List ℕ) → IsBytes bytes → number_at w bytes ≡ Some x → Takes bytes (to_be_bytes w x.0) x.1 × (x.0 < limit)
    takes bytes x fits e =
        let g = guard_none (ltb (length bytes) (byte_len w)) (from_be_bytes w (take (byte_len w) bytes), drop (byte_len w) bytes) x e in
        let long : byte_len w ≤ length bytes = ltb-false _ _ g.0 in
        let front : to_be_bytes w (from_be_bytes w (take (byte_len w) bytes)) ≡ take (byte_len w) bytes = wide.back (take (byte_len w) bytes) (omega (arith, length-take (byte_len w) bytes)) (IsBytes-take (byte_len w) bytes fits) in
        let made : ℕ × List ℕ = (from_be_bytes w (take (byte_len w) bytes), drop (byte_len w) bytes) in
        subst (λ (y : ℕ × List ℕ). Takes bytes (to_be_bytes w y.0) y.1 × (y.0 < limit)) g.1
        (record { parts = sym (take-append-drop (byte_len w) bytes) ∙ ap (λ (f : List ℕ). f ++ drop (byte_len w) bytes) (sym front); rest_fits = IsBytes-drop (byte_len w) bytes fits }, wide.below (take (byte_len w) bytes) (IsBytes-take (byte_len w) bytes fits))

    again : (n : ℕ) (rest : List ℕ) → n < limit → number_at w (to_be_bytes w n ++ rest) ≡ Some (n, rest)
    again n rest lt =
        let len = wide.len n in
        let long : ltb (length (to_be_bytes w n ++ rest)) (byte_len w) ≡ false = le-ltb _ _ (omega (arith, length-append (to_be_bytes w n) rest)) in
        rw (long, take_at (to_be_bytes w n) rest (byte_len w) len, drop_at (to_be_bytes w n) rest (byte_len w) len, wide.again n lt) refl

pub read_byte : IsRead (λ (b : ℕ). b ∷ []) (λ b. b < 256) byte_at
read_byte = record { takes = takes; again = λ b rest lt. refl }
  where
    takes : (bytes : List ℕ) (x : ℕ × List ℕ) → IsBytes bytes → byte_at bytes ≡ Some x → Takes bytes (x.0 ∷ []) x.1 × (x.0 < 256)
    takes [] x fits e = absurd cc
    takes (b ∷ bytes) x fits e = subst (λ (y : ℕ × List ℕ). Takes (b ∷ bytes) (y.0 ∷ []) y.1 × (y.0 < 256)) (some_is (b, bytes) x e) (record { parts = refl; rest_fits = IsBytes-rest b bytes fits }, fits 0)

pub read_front : (n : ℕ) → IsRead (λ (t : List ℕ). t) (λ t. length t ≡ n) (front_at n)
read_front n = record { takes = takes; again = again }
  where
    takes : (bytes : List ℕ) (x : List ℕ × List ℕ) → IsBytes bytes → front_at n bytes ≡ Some x → Takes bytes x.0 x.1 × (length x.0 ≡ n)
    takes bytes x fits e =
        let g = guard_none (ltb (length bytes) n) (take n bytes, drop n bytes) x e in
        let long : n ≤ length bytes = ltb-false _ _ g.0 in
        let len : length (take n bytes) ≡ n = omega (arith, length-take n bytes) in
        subst (λ (y : List ℕ × List ℕ). Takes bytes y.0 y.1 × (length y.0 ≡ n)) g.1 (record { parts = sym (take-append-drop n bytes); rest_fits = IsBytes-drop n bytes fits }, len)

    again : (t rest : List ℕ) → length t ≡ n → front_at n (t ++ rest) ≡ Some (t, rest)
    again t rest len =
        let long : ltb (length (t ++ rest)) n ≡ false = le-ltb _ _ (omega (arith, length-append t rest)) in
        rw (long, take_at t rest n len, drop_at t rest n len) refl

-- ---- readers put together

module _ {A B : Type 0} (s : A → List ℕ) (F : A → Type 0) (r : Reader A) (R : IsRead s F r) where
  pub read_pair : (t : B → List ℕ) (G : B → Type 0) (q : Reader B) → IsRead t G q → IsRead (λ (p : A × B). s p.0 ++ t p.1) (λ p. F p.0 × G p.1) (pair_at r q)
  read_pair t G q Q = record { takes = takes; again = again }
    where
      takes : (bytes : List ℕ) (x : (A × B) × List ℕ) → IsBytes bytes → pair_at r q bytes ≡ Some x → Takes bytes (s x.0.0 ++ t x.0.1) x.1 × (F x.0.0 × G x.0.1)
      takes bytes x fits e =
          let a = bind_some (r bytes) (λ a. q a.1 >>= λ b. Some ((a.0, b.0), b.1)) x e in
          let b = bind_some (q a.0.1) (λ b. Some ((a.0.0, b.0), b.1)) x a.2 in
          let ta = R.takes bytes a.0 fits a.1 in
          let tb = Q.takes a.0.1 b.0 ta.0.rest_fits b.1 in
          let made : (A × B) × List ℕ = ((a.0.0, b.0.0), b.0.1) in
          subst (λ (y : (A × B) × List ℕ). Takes bytes (s y.0.0 ++ t y.0.1) y.1 × (F y.0.0 × G y.0.1)) (some_is made x b.2) (Takes-then bytes (s a.0.0) a.0.1 (t b.0.0) b.0.1 ta.0 tb.0, (ta.1, tb.1))

      again : (p : A × B) (rest : List ℕ) → F p.0 × G p.1 → pair_at r q ((s p.0 ++ t p.1) ++ rest) ≡ Some (p, rest)
      again p rest fits = ap (pair_at r q) (append_assoc (s p.0) (t p.1) rest) ∙ rw (R.again p.0 (t p.1 ++ rest) fits.0, Q.again p.1 rest fits.1) refl

  pub read_as : (f : A → B) (g : B → A) (G : B → Type 0) → ((x : A) → F x → g (f x) ≡ x) → ((y : B) → G y → f (g y) ≡ y) → ((x : A) → F x → G (f x)) → ((y : B) → G y → F (g y)) → IsRead (λ y. s (g y)) G (as_at f r)
  read_as f g G gf fg to from = record { takes = takes; again = again }
    where
      takes : (bytes : List ℕ) (x : B × List ℕ) → IsBytes bytes → as_at f r bytes ≡ Some x → Takes bytes (s (g x.0)) x.1 × G x.0
      takes bytes x fits e =
          let a = bind_some (r bytes) (λ a. Some (f a.0, a.1)) x e in
          let ta = R.takes bytes a.0 fits a.1 in
          let made : B × List ℕ = (f a.0.0, a.0.1) in
          let seen : Takes bytes (s (g (f a.0.0))) a.0.1 = subst (λ (z : A). Takes bytes (s z) a.0.1) (sym (gf a.0.0 ta.1)) ta.0 in
          subst (λ (y : B × List ℕ). Takes bytes (s (g y.0)) y.1 × G y.0) (some_is made x a.2) (seen, to a.0.0 ta.1)

      again : (y : B) (rest : List ℕ) → G y → as_at f r (s (g y) ++ rest) ≡ Some (y, rest)
      again y rest fits = rw (R.again (g y) rest (from y fits)) (ap (λ (z : B). Some (z, rest)) (fg y fits))

  pub read_choice : (choose : A → Option B) (number : B → A) → ((a : A) (b : B) → choose a ≡ Some b → a ≡ number b) → ((b : B) → choose (number b) ≡ Some b) → ((b : B) → F (number b)) → IsRead (λ b. s (number b)) (λ b. Unit {0}) (choice_at choose r)
  read_choice choose number chosen given fit = record { takes = takes; again = again }
    where
      takes : (bytes : List ℕ) (x : B × List ℕ) → IsBytes bytes → choice_at choose r bytes ≡ Some x → Takes bytes (s (number x.0)) x.1 × Unit {0}
      takes bytes x fits e =
          let a = bind_some (r bytes) (λ a. choose a.0 >>= λ b. Some (b, a.1)) x e in
          let b = bind_some (choose a.0.0) (λ b. Some (b, a.0.1)) x a.2 in
          let ta = R.takes bytes a.0 fits a.1 in
          let made : B × List ℕ = (b.0, a.0.1) in
          let seen : Takes bytes (s (number b.0)) a.0.1 = subst (λ (z : A). Takes bytes (s z) a.0.1) (chosen a.0.0 b.0 b.1) ta.0 in
          subst (λ (y : B × List ℕ). Takes bytes (s (number y.0)) y.1 × Unit {0}) (some_is made x b.2) (seen, tt)

      again : (b : B) (rest : List ℕ) → Unit {0} → choice_at choose r (s (number b) ++ rest) ≡ Some (b, rest)
      again b rest fits = rw (R.again (number b) rest (fit b), given b) refl

  -- a count or length, and what has it
  pub read_prefixed : (size : B → A) (t : B → List ℕ) (G : B → Type 0) (q : A → Reader B) → ((n : A) → IsRead t (λ y. (size y ≡ n) × G y) (q n)) → IsRead (λ y. s (size y) ++ t y) (λ y. F (size y) × G y) (λ bytes. r bytes >>= λ n. q n.0 n.1)
  read_prefixed size t G q Q = record { takes = takes; again = again }
    where
      both_at : Reader B
      both_at bytes = r bytes >>= λ n. q n.0 n.1

      takes : (bytes : List ℕ) (x : B × List ℕ) → IsBytes bytes → (r bytes >>= λ n. q n.0 n.1) ≡ Some x → Takes bytes (s (size x.0) ++ t x.0) x.1 × (F (size x.0) × G x.0)
      takes bytes x fits e =
          let a = bind_some (r bytes) (λ n. q n.0 n.1) x e in
          let ta = R.takes bytes a.0 fits a.1 in
          let n : IsRead t (λ y. (size y ≡ a.0.0) × G y) (q a.0.0) = Q a.0.0 in
          let tb = n.takes a.0.1 x ta.0.rest_fits a.2 in
          let fit : F (size x.0) = subst F (sym tb.1.0) ta.1 in
          let whole : Takes bytes (s (size x.0) ++ t x.0) x.1 = subst (λ (z : A). Takes bytes (s z ++ t x.0) x.1) (sym tb.1.0) (Takes-then bytes (s a.0.0) a.0.1 (t x.0) x.1 ta.0 tb.0) in
          (whole, (fit, tb.1.1))

      again : (y : B) (rest : List ℕ) → F (size y) × G y → (r ((s (size y) ++ t y) ++ rest) >>= λ n. q n.0 n.1) ≡ Some (y, rest)
      again y rest fits =
          let n : IsRead t (λ z. (size z ≡ size y) × G z) (q (size y)) = Q (size y) in
          ap (λ (bytes : List ℕ). r bytes >>= λ n. q n.0 n.1) (append_assoc (s (size y)) (t y) rest) ∙ rw (R.again (size y) (t y ++ rest) fits.0) (n.again y rest (refl, fits.1))

module _ {A : Type 0} (s : A → List ℕ) (F : A → Type 0) (r : Reader A) (R : IsRead s F r) where
  pub read_such : (test : A → Bool) → IsRead s (λ x. F x × (test x ≡ true)) (such_at test r)
  read_such test = record { takes = takes; again = again }
    where
      takes : (bytes : List ℕ) (x : A × List ℕ) → IsBytes bytes → such_at test r bytes ≡ Some x → Takes bytes (s x.0) x.1 × (F x.0 × (test x.0 ≡ true))
      takes bytes x fits e =
          let a = bind_some (r bytes) (λ a. cond (test a.0) (Some a) None) x e in
          let g = guard_some (test a.0.0) a.0 x a.2 in
          let ta = R.takes bytes a.0 fits a.1 in
          subst (λ (y : A × List ℕ). Takes bytes (s y.0) y.1 × (F y.0 × (test y.0 ≡ true))) g.1 (ta.0, (ta.1, g.0))

      again : (x : A) (rest : List ℕ) → F x × (test x ≡ true) → such_at test r (s x ++ rest) ≡ Some (x, rest)
      again x rest fits = rw (R.again x rest fits.0, fits.1) refl

  many_takes : (n : ℕ) (bytes : List ℕ) (x : List A × List ℕ) → IsBytes bytes → many_at r n bytes ≡ Some x → Takes bytes (flat_map s x.0) x.1 × ((length x.0 ≡ n) × AllByRecursion F x.0)
  many_takes zero bytes x fits e =
      let nothing : List A = [] in
      subst (λ (y : List A × List ℕ). Takes bytes (flat_map s y.0) y.1 × ((length y.0 ≡ 0) × AllByRecursion F y.0)) (some_is (nothing, bytes) x e) (record { parts = refl; rest_fits = fits }, (refl, tt))
  many_takes (suc n) bytes x fits e =
      let a = bind_some (r bytes) (λ a. many_at r n a.1 >>= λ others. Some (a.0 ∷ others.0, others.1)) x e in
      let b = bind_some (many_at r n a.0.1) (λ others. Some (a.0.0 ∷ others.0, others.1)) x a.2 in
      let first = R.takes bytes a.0 fits a.1 in
      let second = many_takes n a.0.1 b.0 first.0.rest_fits b.1 in
      let both = Takes-then bytes (s a.0.0) a.0.1 (flat_map s b.0.0) b.0.1 first.0 second.0 in
      let made : List A × List ℕ = (a.0.0 ∷ b.0.0, b.0.1) in
      subst (λ (y : List A × List ℕ). Takes bytes (flat_map s y.0) y.1 × ((length y.0 ≡ suc n) × AllByRecursion F y.0)) (some_is made x b.2) (rw flat_map-cons both, (ap suc second.1.0, (first.1, second.1.1)))

  many_again : (xs : List A) (rest : List ℕ) → AllByRecursion F xs → many_at r (length xs) (flat_map s xs ++ rest) ≡ Some (xs, rest)
  many_again [] rest fits = refl
  many_again (x ∷ xs) rest fits =
      let regrouped : flat_map s (x ∷ xs) ++ rest ≡ s x ++ (flat_map s xs ++ rest) = ap (λ (t : List ℕ). t ++ rest) (flat_map-cons s x xs) ∙ append_assoc (s x) (flat_map s xs) rest in
      ap (many_at r (suc (length xs))) regrouped ∙ rw (R.again x (flat_map s xs ++ rest) fits.0, many_again xs rest fits.1) refl

  pub read_many : (n : ℕ) → IsRead (flat_map s) (λ xs. (length xs ≡ n) × AllByRecursion F xs) (many_at r n)
  read_many n = record { takes = many_takes n; again = λ xs rest fits. subst (λ (k : ℕ). many_at r k (flat_map s xs ++ rest) ≡ Some (xs, rest)) fits.0 (many_again xs rest fits.1) }

  pub whole_takes : (bytes : List ℕ) (x : A) → IsBytes bytes → whole r bytes ≡ Some x → (bytes ≡ s x) × F x
  whole_takes bytes x fits e =
      let a = bind_some (r bytes) (λ a. cond (eqb (length a.1) 0) (Some a.0) None) x e in
      let g = guard_some (eqb (length a.0.1) 0) a.0.0 x a.2 in
      let t = R.takes bytes a.0 fits a.1 in
      let nothing : a.0.1 ≡ [] = nil_from_length a.0.1 (eqb-true _ _ g.0) in
      subst (λ (y : A). (bytes ≡ s y) × F y) g.1 (t.0.parts ∙ ap (λ (rest : List ℕ). s a.0.0 ++ rest) nothing ∙ append-nil (s a.0.0), t.1)

  pub whole_again : (x : A) → F x → whole r (s x) ≡ Some x
  whole_again x fits = ap (whole r) (sym (append-nil (s x))) ∙ rw (R.again x [] fits) refl

pub read_counted : {A : Type 0} (sc : ℕ → List ℕ) (C : ℕ → Type 0) (rc : Reader ℕ) → IsRead sc C rc → (s : A → List ℕ) (F : A → Type 0) (r : Reader A) → IsRead s F r → IsRead (λ (xs : List A). sc (length xs) ++ flat_map s xs) (λ xs. C (length xs) × AllByRecursion F xs) (counted_at rc r)
read_counted sc C rc RC s F r R = read_prefixed sc C rc RC length (flat_map s) (AllByRecursion F) (many_at r) (read_many s F r R)
