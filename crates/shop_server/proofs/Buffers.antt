-- The bytes between two places of a buffer.
use Rattle.std.proofs.Common.{◌≡◌, ℕ, ◌+◌, ◌-◌, ◌<◌, ◌≤◌, List, [], ◌++◌, length, take, drop, refl, sym, ap, ◌∙◌, arith, length-take, append_assoc, Result, Ok, Err, IfOk, MatchResult, Option}
use Rattle.std.proofs.lemmas.List.{drop-drop, drop-take, drop-append-le, take-take, take_at, drop_at, take-append-le, length-take-le}
use Rattle.std.proofs.Math.Seq.{take-add}
use Rattle.std.specs.Io.KnownBytes.{Consumes, IsAtEnd, ReadConsumes}
use Rattle.std.proofs.KnownBytes.{Consumes-nil, Consumes-kept}

abbrev between : List ℕ → ℕ → ℕ → List ℕ
between xs s e = take (e - s) (drop s xs)

-- the same, cut off before what comes first is dropped
cut_first : (xs : List ℕ) (s e : ℕ) → s ≤ e → drop s (take e xs) ≡ between xs s e
cut_first xs s e h =
    let whole : e ≡ s + (e - s) = omega arith in
    ap (λ n. drop s (take n xs)) whole ∙ drop-take s (e - s) xs

-- a later beginning drops the first bytes
pub begins_later : (xs : List ℕ) (s e n : ℕ) → s ≤ e → n ≤ e - s → take (e - (s + n)) (drop (s + n) xs) ≡ drop n (take (e - s) (drop s xs))
begins_later xs s e n h k =
    let whole : n + (e - (s + n)) ≡ e - s = omega arith in
    sym (ap (λ m. drop n (take m (drop s xs))) (sym whole) ∙ drop-take n (e - (s + n)) (drop s xs) ∙ ap (take (e - (s + n))) (drop-drop n s xs))

-- what a change behind the end leaves
pub stays_between : (old new : List ℕ) (s e : ℕ) → s ≤ e → take e new ≡ take e old → take (e - s) (drop s new) ≡ take (e - s) (drop s old)
stays_between old new s e h same = sym (cut_first new s e h) ∙ ap (drop s) same ∙ cut_first old s e h

-- a later end behind a piece that was put there adds the piece
pub ends_later : (old new piece : List ℕ) (s e e' : ℕ) → s ≤ e → e ≤ length old → e' ≡ e + length piece → take (e + length piece) new ≡ take e old ++ piece
    → take (e' - s) (drop s new) ≡ take (e - s) (drop s old) ++ piece
ends_later old new piece s e e' h k later same =
    let starts : s ≤ length (take e old) = omega (arith, length-take e old) in
    sym (cut_first new s e' (omega arith)) ∙ ap (λ n. drop s (take n new)) later ∙ ap (drop s) same ∙ drop-append-le s (take e old) piece starts ∙ ap (λ l. l ++ piece) (cut_first old s e h)

-- what lies before a place and the bytes that were put there, in a buffer with more behind them
pub put_at : (old into more rest : List ℕ) (at n len : ℕ) → at ≤ length old → n ≤ length into → at + n ≤ len
    → take (at + n) (take len ((take at old ++ (into ++ more)) ++ rest)) ≡ take at old ++ take n into
put_at old into more rest at n len h k fits =
    let front : length (take at old) ≡ at = length-take-le at old h in
    let tail : List ℕ = into ++ (more ++ rest) in
    let whole : (take at old ++ (into ++ more)) ++ rest ≡ take at old ++ tail =
    append_assoc (take at old) (into ++ more) rest ∙ ap (λ l. take at old ++ l) (append_assoc into more rest) in
    take-take (at + n) len _ fits ∙ ap (take (at + n)) whole ∙ take-add at n (take at old ++ tail)
    ∙ ap (λ l. l ++ take n (drop at (take at old ++ tail))) (take_at (take at old) tail at front)
    ∙ ap (λ l. take at old ++ take n l) (drop_at (take at old) tail at front)
    ∙ ap (λ l. take at old ++ l) (take-append-le n into (more ++ rest) k)

-- a read put a piece behind the first bytes, and an empty one where it failed
pub read_piece : {E : Type 0} (r : Result ℕ E) (left left' : Option (List ℕ)) (old into new : List ℕ) (at : ℕ) → 0 < length into → IfOk r (λ n. n ≤ length into) → ReadConsumes left left' r into
    → ((n : ℕ) → n ≤ length into → take (at + n) new ≡ take at old ++ take n into)
    → (piece : List ℕ) × Consumes left left' piece × (take (at + length piece) new ≡ take at old ++ piece) × MatchResult r (λ n. (length piece ≡ n) × (n ≡ 0 → IsAtEnd left')) (λ _. piece ≡ [])
read_piece (Ok n) left left' old into new at room within reads put =
    let len : length (take n into) ≡ n = length-take-le n into within in
    (take n into, reads.0, ap (λ m. take (at + m) new) len ∙ put n within, (len, λ z. reads.1 z room))
read_piece (Err e) left left' old into new at room within reads put =
    ([], Consumes-kept left left left' [] (Consumes-nil left) reads, put 0 (omega arith), refl)
