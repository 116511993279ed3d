-- What a call on one half of a link leaves of the other, and pieces that are written one after the other.
use Rattle.std.proofs.Common.{◌≡◌, ℕ, ◌+◌, ◌-◌, List, ◌++◌, length, take, drop, sym, ap, ◌∙◌, subst, append_assoc, Option, Result, Ok, Err, OnOk, take-append-drop}
use Rattle.std.proofs.lemmas.List.{take_rest}
use Rattle.std.proofs.Math.Seq.{take-add}
use Rattle.std.specs.Io.KnownBytes.{Appends}
use Rattle.std.proofs.KnownBytes.{Appends-trans}
use Rattle.shop_outside.specs.Causes.{Half}
use Rattle.shop_server.specs.Session.{IsFront}

pub half_kept : {S : Type 0} (past : S → Half) (bytes : S → Option (List ℕ)) (faults : S → ℕ) (names : S → List ℕ) → ((x : S) → past x ≡ record { bytes = bytes x; faults = faults x; names = names x })
    → (old new : S) → past new ≡ past old → (bytes new ≡ bytes old) × (faults new ≡ faults old) × (names new ≡ names old)
half_kept past bytes faults names law old new e =
    let all = sym (law new) ∙ e ∙ law old in
    (ap (λ (h : Half). h.bytes) all, ap (λ (h : Half). h.faults) all, ap (λ (h : Half). h.names) all)

pub wrote_more : (a b c : Option (List ℕ)) (xs : List ℕ) (n m : ℕ) → Appends a b (take n xs) → Appends b c (take m (take (length xs - n) (drop n xs))) → Appends a c (take (n + m) xs)
wrote_more a b c xs n m p q =
    let piece : take n xs ++ take m (take (length xs - n) (drop n xs)) ≡ take (n + m) xs = ap (λ l. take n xs ++ take m l) (take_rest xs n) ∙ sym (take-add n m xs) in
    subst (Appends a c) piece (Appends-trans a b c (take n xs) (take m (take (length xs - n) (drop n xs))) p q)

pub first_part : (xs : List ℕ) (n : ℕ) → IsFront (take n xs) xs
first_part xs n = (drop n xs, sym (take-append-drop n xs))

-- a front of the first part is one of both, and a front of the second part behind the first
pub front_more : (front a b : List ℕ) → IsFront front a → IsFront front (a ++ b)
front_more front a b f = (f.0 ++ b, ap (λ l. l ++ b) f.1 ∙ append_assoc front f.0 b)

pub front_behind : (front a b : List ℕ) → IsFront front b → IsFront (a ++ front) (a ++ b)
front_behind front a b f = (f.0, ap (λ l. a ++ l) f.1 ∙ sym (append_assoc a front f.0))

pub on_ok : {E : Type 0} {P Q : Type 0} (r : Result (Unit {0}) E) → (P → Q) → OnOk r P → OnOk r Q
on_ok (Ok x) f p = f p
on_ok (Err e) f p = tt
