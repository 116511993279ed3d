-- The sizes of pages.
use Rattle.std.specs.Prelude.{◌≡◌, ℕ, ◌-◌, ◌^◌, List, [], ◌∷◌, fold, min, max, length}
use Rattle.paged.specs.declared.shape.Shape.{Shape}

-- the least of the sizes, 0 where there is none
abbrev pub least_of : List ℕ → ℕ
least_of [] = 0
least_of (n ∷ ns) = fold min n ns

-- the greatest of the sizes, 0 where there is none
abbrev pub greatest_of : List ℕ → ℕ
greatest_of ns = fold max 0 ns

-- the shape of pages of these sizes; pages are counted up to the greatest `usize`
pub record Tells (shape : Shape) (sizes : List ℕ) : Type 0 where
  pub pages : shape.pages ≡ min (length sizes) (2 ^ 64 - 1)
  pub least : shape.least ≡ least_of sizes
  pub most : shape.most ≡ greatest_of sizes
