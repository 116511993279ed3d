-- Moments, and what a clock tells of those that are still to come.
use Rattle.std.specs.Prelude.{ℕ, ℤ, pos, ◌≡◌, ◌+◌, ◌-◌, ◌≤ℤ◌, min}
use Rattle.std.specs.Prelude.{List, length, slice_index_or, Option, Some, None}

-- from 0 to 250,000,000,000 seconds
abbrev pub IsMoment : ℤ → Type 0
IsMoment moment = (pos 0 ≤ℤ moment) × (moment ≤ℤ pos 250000000000)

-- the k-th of the moments, from 0, or the last
abbrev pub moment_at : List ℤ → ℕ → ℤ
moment_at moments k = slice_index_or moments (min k (length moments - 1)) (pos 0)

-- these moments are told to come
abbrev pub Tells : Option (ℕ → ℤ) → (ℕ → ℤ) → Type 0
Tells None moments = ⊥
Tells (Some told) moments = (k : ℕ) → told k ≡ moments k

-- Where a clock told the moments to come, it gave the first of them, and the others are told after. One that doesn't tell goes on
-- not to tell.
abbrev pub Ticks : Option (ℕ → ℤ) → Option (ℕ → ℤ) → ℤ → Type 0
Ticks None now moment = now ≡ None
Ticks (Some before) now moment = (moment ≡ before 0) × Tells now (λ k. before (k + 1))
