-- Sets of ids, as lists that ascend.
use Rattle.std.specs.Prelude.{ℕ, ◌≡◌, ◌≤◌, Bool, true, false, not, ◌==◌, List, ◌++◌, if◌then◌else◌}
use Rattle.std.specs.List.{list_any, AllByRecursion}
use Rattle.std.specs.Ordering.{nat_cmp}
use Rattle.keyed.specs.Keyed.{Ascends, put, without}

-- the id is among these
abbrev pub has : List ℕ → ℕ → Bool
has ids id = list_any (λ other. other == id) ids

-- an id is its own key
abbrev pub itself : ℕ → ℕ
itself id = id

-- the ids ascend, so each stands once
abbrev pub AreAscending : List ℕ → Type 0
AreAscending ids = Ascends nat_cmp itself ids

-- one of the two holds, and the other doesn't
abbrev pub differ : Bool → Bool → Bool
differ one true = not one
differ one false = one

-- the id comes or goes: it isn't among the ids where it is picked, or is there where it isn't
abbrev pub is_turned : List ℕ → (ℕ → Bool) → ℕ → Bool
is_turned ids picks id = differ (has ids id) (picks id)

-- the ids without the one, or with it where it wasn't there
abbrev pub turn : List ℕ → ℕ → List ℕ
turn ids id = if has ids id then without nat_cmp itself ids id else put nat_cmp itself ids id

-- A list is cut at an id: what stands before it, and the id itself where it isn't there, is put behind other ids, and what stands behind
-- it is left.
pub record IsSplit (old new left : List ℕ) (id : ℕ) (behind : List ℕ) : Type 0 where
  pub front : List ℕ
  pub put : new ≡ old ++ front
  pub whole : turn left id ≡ front ++ behind
  pub not_above : AllByRecursion (λ other. other ≤ id) front
  pub ascends : AreAscending behind
