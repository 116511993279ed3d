-- Lists whose elements stand in the order of a key, each key once.
use Rattle.std.specs.Prelude.{◌≡◌, List, [], ◌∷◌, if◌then◌else◌, Option, Some, None}
use Rattle.std.specs.declared.cmp.Ordering.{Ordering}
use Rattle.std.specs.declared.cmp.Ordering.TheVariants.{Less}
use Rattle.std.specs.Ordering.{is_eq, match_ordering}
use Rattle.std.specs.List.{AllByRecursion}

module _ {K X : Type 0} (cmp : K → K → Ordering) (key : X → K) where
  -- each element's key is below those of all elements after it
  abbrev pub Ascends : List X → Type 0
  Ascends [] = Unit {0}
  Ascends (x ∷ xs) = AllByRecursion (λ y. cmp (key x) (key y) ≡ Less) xs × Ascends xs

  -- the element with the key q
  abbrev pub find : List X → K → Option X
  find [] q = None
  find (x ∷ xs) q = if is_eq (cmp (key x) q) then Some x else find xs q

  -- the list with y: in place of the element that has its key, or else before the first element with a greater one
  abbrev pub put : List X → X → List X
  put [] y = y ∷ []
  put (x ∷ xs) y = match_ordering (cmp (key x) (key y)) (x ∷ put xs y) (y ∷ xs) (y ∷ x ∷ xs)

  -- the list without the element with the key q
  abbrev pub without : List X → K → List X
  without [] q = []
  without (x ∷ xs) q = if is_eq (cmp (key x) q) then xs else x ∷ without xs q
