-- Parts of a list that are closed under a relation, and the least of them.
use Rattle.std.specs.Prelude.{◌≡◌, true, Bool, List}
use Rattle.closure.specs.Closure.{IsIn, reached}

module _ {X : Type 0} (follows : X → X → Bool) (all : List X) (start : X → Bool) where
  -- a part that has the start, and all that follows from what it has
  pub record IsClosed (part : X → Bool) : Type 0 where
    pub has_start : (x : X) → IsIn x all → start x ≡ true → part x ≡ true
    pub has_next : (x y : X) → IsIn x all → IsIn y all → part y ≡ true → follows x y ≡ true → part x ≡ true

  -- the least such part: it stands in each of them
  pub record IsLeastClosed (part : X → Bool) : Type 0 where
    pub closed : IsClosed part
    pub least : (other : X → Bool) → IsClosed other → (x : X) → IsIn x all → part x ≡ true → other x ≡ true

-- what is reached from a start is the least part that has the start and is closed
abbrev pub ReachedIsLeast : Type 0 → Type 0
ReachedIsLeast X = (follows : X → X → Bool) (all : List X) (start : X → Bool) → IsLeastClosed follows all start (reached follows all start)
