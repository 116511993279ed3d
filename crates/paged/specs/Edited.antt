-- What a change in place does to a page, and to pages of which one has it.
use Rattle.std.specs.Prelude.{◌≡◌, ◌≤◌, List, Option, length}
use Rattle.std.specs.List.{AllByRecursion}
use Rattle.std.specs.declared.cmp.Ordering.{Ordering}
use Rattle.paged.specs.Parts.{HasHead, HasMost, HasLeast, parts}
use Rattle.paged.specs.Changed.{changed_at}

module _ {K V : Type 0} (cmp : K → K → Ordering) where
  -- the pairs after the change, which keep their size within its bounds and the first key
  pub record IsEdited (old new : List (K × V)) (k : K) (o : Option V) : Type 0 where
    pub pairs : new ≡ changed_at cmp old k o
    pub most : length old ≤ 64 → length new ≤ 64
    pub least : 16 ≤ length old → 16 ≤ length new
    pub head : (h : K) → HasHead (h, old) → HasHead (h, new)

  -- as many pages, which hold the pairs after the change
  pub record AreEdited (old new : List (K × List (K × V))) (k : K) (o : Option V) : Type 0 where
    pub pairs : parts new ≡ changed_at cmp (parts old) k o
    pub count : length new ≡ length old
    pub most : AllByRecursion HasMost old → AllByRecursion HasMost new
    pub least : AllByRecursion HasLeast old → AllByRecursion HasLeast new
    pub heads : AllByRecursion HasHead old → AllByRecursion HasHead new
    pub head : (h : K) → HasHead (h, old) → HasHead (h, new)
