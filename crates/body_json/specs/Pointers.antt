-- Pointers to places in a body, and answers that name one.
use Rattle.std.specs.Prelude.{◌≡◌, ℕ, List, ◌++◌, codes, decimal, Result, Ok, Err}
use Rattle.body_json.specs.declared.fault.BodyFault.{BodyFault}
use Rattle.body_json.specs.declared.fault.BodyFault.TheVariants.{BadJson, BadShape, NoMemory}

-- an element of the body, by its number from 0 on
abbrev pub element_pointer : ℕ → List ℕ
element_pointer at = codes "/" ++ decimal at

-- a member of that element; its name stands there as it is
abbrev pub member_pointer : ℕ → List ℕ → List ℕ
member_pointer at name = element_pointer at ++ codes "/" ++ name

-- a member of a body that is an object; its name stands there as it is
abbrev pub name_pointer : List ℕ → List ℕ
name_pointer name = codes "/" ++ name

-- the fault names that place, or is want of memory
abbrev pub IsFaultAt : List ℕ → BodyFault → Type 0
IsFaultAt pointer BadJson = ⊥
IsFaultAt pointer (BadShape named) = named ≡ pointer
IsFaultAt pointer NoMemory = Unit {0}

-- the answer is that value, or names that place, or is want of memory
abbrev pub Answers : {A : Type 0} → Result A (List ℕ) → Result A BodyFault → Type 0
Answers meant (Ok value) = meant ≡ Ok value
Answers meant (Err BadJson) = ⊥
Answers meant (Err (BadShape pointer)) = meant ≡ Err pointer
Answers meant (Err NoMemory) = Unit {0}
