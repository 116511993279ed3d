-- Lists of parts, each with its first key: pages of pairs, chunks of pages.
use Rattle.std.specs.Prelude.{◌≡◌, ℕ, ◌≤◌, List, [], ◌∷◌, length}
use Rattle.std.specs.List.{AllByRecursion, flat_map}
use Rattle.paged.specs.Pairs.{value_of}

-- the part isn't empty and begins with its key
abbrev pub HasHead : {K X : Type 0} → K × List (K × X) → Type 0
HasHead (k, []) = ⊥
HasHead (k, x ∷ xs) = x.0 ≡ k

-- what the parts hold, one behind another
abbrev pub parts : {K X : Type 0} → List (K × List (K × X)) → List (K × X)
parts t = flat_map value_of t

-- one part under its first key, or none where it would be empty
abbrev pub keyed : {K X : Type 0} → List (K × X) → List (K × List (K × X))
keyed [] = []
keyed (x ∷ xs) = (x.0, x ∷ xs) ∷ []

-- how many pairs a part has
abbrev pub size_of : {K X : Type 0} → K × List (K × X) → ℕ
size_of e = length e.1

abbrev pub HasMost : {K X : Type 0} → K × List (K × X) → Type 0
HasMost e = length e.1 ≤ 64

abbrev pub HasLeast : {K X : Type 0} → K × List (K × X) → Type 0
HasLeast e = 16 ≤ length e.1

-- 16 to 64 pairs
abbrev pub IsSized : {K X : Type 0} → K × List (K × X) → Type 0
IsSized e = (16 ≤ length e.1) × (length e.1 ≤ 64)

-- where there are two pages or more, each has 16 to 64 pairs, and a single one has at most 64
pub record AreSized {K X : Type 0} (pages : List (K × List (K × X))) : Type 0 where
  pub most : AllByRecursion HasMost pages
  pub least : 2 ≤ length pages → AllByRecursion HasLeast pages
