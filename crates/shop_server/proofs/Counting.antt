-- Counts of faults over several requests, and the moments that a clock tells.
use Rattle.std.proofs.Common.{◌≡◌, ℕ, zero, suc, ℤ, ◌+◌, List, [], ◌∷◌, length, map, Option, Some, None, refl, ap, ◌∙◌, arith}
use Rattle.shop_outside.specs.Clocks.{Ticks}
use Rattle.shop_server.specs.Answering.{Way, worked_out, short, failed, Served, failures, failed_once, Counts, RoseBy, HaveMoments, ComeAfter, first_moments}
use Rattle.shop_server.specs.Session.{InRange}

pub rose_none : (a b : ℕ) → b ≡ a → RoseBy 0 a b
rose_none a b e = omega arith

rose_more : (n m a b c : ℕ) → RoseBy n a b → RoseBy m b c → RoseBy (n + m) a c
rose_more n m a b c p q = omega arith

rose_once : (way : Way) (a b : ℕ) → Counts a b way → RoseBy (failed_once way) a b
rose_once worked_out a b c = omega arith
rose_once short a b c = omega arith
rose_once failed a b c = c.1

pub rose_by_one : (one : Served) (served : List Served) (a b c : ℕ) → Counts a b one.way → RoseBy (failures served) b c → RoseBy (failures (one ∷ served)) a c
rose_by_one one served a b c p q = rose_more (failed_once one.way) (failures served) a b c (rose_once one.way a b p) q

pub no_moments : (coming : Option (ℕ → ℤ)) → HaveMoments coming []
no_moments None = tt
no_moments (Some told) = refl

same_moments : (n : ℕ) (f g : ℕ → ℤ) → ((k : ℕ) → f k ≡ g k) → first_moments n f ≡ first_moments n g
same_moments zero f g h = refl
same_moments (suc n) f g h = ap (λ m. m ∷ first_moments n (λ k. f (k + 1))) (h 0) ∙ ap (λ l. g 0 ∷ l) (same_moments n (λ k. f (k + 1)) (λ k. g (k + 1)) (λ k. h (k + 1)))

pub one_moment : (before mid : Option (ℕ → ℤ)) (one : Served) (served : List Served) → InRange before one.moment → Ticks before mid one.moment → HaveMoments mid served
    → HaveMoments before (one ∷ served)
one_moment None None one served r t h = (r, h)
one_moment None (Some told) one served r t h = absurd cc
one_moment (Some told) None one served r t h = absurd t.1
one_moment (Some told) (Some next) one served r t h =
    ap (λ m. m ∷ map (λ (s : Served). s.moment) served) t.0 ∙ ap (λ l. told 0 ∷ l) (h ∙ same_moments (length served) next (λ k. told (k + 1)) t.1)

pub none_come : (before now : Option (ℕ → ℤ)) → now ≡ before → ComeAfter 0 before now
none_come None now e = tt
none_come (Some told) None e = absurd cc
none_come (Some told) (Some next) e = λ k. let same : next ≡ told = cc in ap (λ f. f k) same ∙ ap told (omega arith)

pub one_comes : (n : ℕ) (before mid now : Option (ℕ → ℤ)) (moment : ℤ) → Ticks before mid moment → ComeAfter n mid now → ComeAfter (suc n) before now
one_comes n None mid now moment t h = tt
one_comes n (Some told) None now moment t h = absurd t.1
one_comes n (Some told) (Some next) None moment t h = absurd h
one_comes n (Some told) (Some next) (Some last) moment t h = λ k. h k ∙ t.1 (k + n) ∙ ap told (omega arith)
