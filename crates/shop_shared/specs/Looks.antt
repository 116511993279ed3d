-- The looks of a caller, one each time that it took the lock and gave it up.
use Rattle.std.specs.Prelude.{ℕ, ◌≤◌, List, [], ◌∷◌}
use Rattle.shop_shared.specs.declared.view.Look.{Look}

-- From look to look lengths, fronts and counts never fall: in each, the count that was found is at least the last one before,
-- and the count at its end is no less.
abbrev pub NeverFall : ℕ → ℕ → ℕ → List Look → Type 0
NeverFall most front faults [] = Unit {0}
NeverFall most front faults (k ∷ ks) = (most ≤ k.length) × (front ≤ k.front) × (faults ≤ k.found) × (k.found ≤ k.faults) × NeverFall k.length k.front k.faults ks

-- the length, the front, the count found and the count of the last look, or these where there is none
abbrev pub last_length : ℕ → List Look → ℕ
last_length n [] = n
last_length n (k ∷ ks) = last_length k.length ks

abbrev pub last_front : ℕ → List Look → ℕ
last_front n [] = n
last_front n (k ∷ ks) = last_front k.front ks

abbrev pub last_found : ℕ → List Look → ℕ
last_found n [] = n
last_found n (k ∷ ks) = last_found k.found ks

abbrev pub last_faults : ℕ → List Look → ℕ
last_faults n [] = n
last_faults n (k ∷ ks) = last_faults k.faults ks
