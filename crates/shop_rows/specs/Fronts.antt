-- Fronts of lists. No public contract cites this.
use Rattle.std.specs.Prelude.{Bool, List, [], ◌∷◌, if◌then◌else◌}

-- the elements before the first that fails the test
abbrev pub front : {X : Type 0} → (X → Bool) → List X → List X
front test [] = []
front test (x ∷ xs) = if test x then x ∷ front test xs else []
