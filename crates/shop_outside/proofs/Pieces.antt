-- A piece that is copied from the middle of a list.
use Rattle.std.proofs.Common.{◌≡◌, ℕ, ◌+◌, List, ◌++◌, length, take, drop, sym, ap, ◌∙◌, take-append-drop}
use Rattle.std.proofs.lemmas.List.{take_at, drop-drop}

pub piece_taken : (xs new rest : List ℕ) (at n : ℕ) → length new ≡ n → new ≡ take n (drop at xs) → drop at xs ≡ take n (new ++ rest) ++ drop (at + n) xs
piece_taken xs new rest at n e same =
    sym (take-append-drop n (drop at xs)) ∙ ap (λ l. l ++ drop n (drop at xs)) (sym same ∙ sym (take_at new rest n e)) ∙ ap (λ l. take n (new ++ rest) ++ l) (drop-drop n at xs)
