-- The looks with one look more.
use Rattle.std.proofs.Common.{◌≡◌, ℕ, ◌≤◌, List, [], ◌∷◌, ◌++◌, refl}
use Rattle.shop_shared.specs.declared.view.Look.{Look}
use Rattle.shop_shared.specs.Looks.{NeverFall, last_length, last_front, last_found, last_faults}

pub never_fall_more : (l f n : ℕ) (ks : List Look) (k : Look) → NeverFall l f n ks → last_length l ks ≤ k.length → last_front f ks ≤ k.front → last_faults n ks ≤ k.found → k.found ≤ k.faults → NeverFall l f n (ks ++ k ∷ [])
never_fall_more l f n [] k never a b c d = (a, b, c, d, tt)
never_fall_more l f n (x ∷ xs) k never a b c d = (never.0, never.1, never.2, never.3, never_fall_more x.length x.front x.faults xs k never.4 a b c d)

pub last_length_more : (n : ℕ) (ks : List Look) (k : Look) → last_length n (ks ++ k ∷ []) ≡ k.length
last_length_more n [] k = refl
last_length_more n (x ∷ xs) k = last_length_more x.length xs k

pub last_front_more : (n : ℕ) (ks : List Look) (k : Look) → last_front n (ks ++ k ∷ []) ≡ k.front
last_front_more n [] k = refl
last_front_more n (x ∷ xs) k = last_front_more x.front xs k

pub last_found_more : (n : ℕ) (ks : List Look) (k : Look) → last_found n (ks ++ k ∷ []) ≡ k.found
last_found_more n [] k = refl
last_found_more n (x ∷ xs) k = last_found_more x.found xs k

pub last_faults_more : (n : ℕ) (ks : List Look) (k : Look) → last_faults n (ks ++ k ∷ []) ≡ k.faults
last_faults_more n [] k = refl
last_faults_more n (x ∷ xs) k = last_faults_more x.faults xs k
