-- What the pages of a map are.
use Rattle.std.specs.Prelude.{◌≤◌, List, length}
use Rattle.std.specs.List.{AllByRecursion, flat_map}
use Rattle.std.specs.declared.cmp.Ordering.{Ordering}
use Rattle.keyed.specs.Keyed.{Ascends}
use Rattle.paged.specs.Pairs.{key_of}
use Rattle.paged.specs.Parts.{HasHead, AreSized, parts}

-- the pairs of the pages, one page behind another
abbrev pub all_pairs : {X : Type 0} → List (List X) → List X
all_pairs pages = flat_map (λ page. page) pages

module _ {K V : Type 0} (cmp : K → K → Ordering) where
  -- where there are several pages each has 16 to 64 pairs, a single one has 1 to 64, and keys ascend
  -- over all
  pub record IsPaged (pages : List (List (K × V))) : Type 0 where
    pub filled : AllByRecursion (λ page. 1 ≤ length page) pages
    pub most : AllByRecursion (λ page. length page ≤ 64) pages
    pub least : 2 ≤ length pages → AllByRecursion (λ page. 16 ≤ length page) pages
    pub order : Ascends cmp key_of (all_pairs pages)

  -- pages stand under their first keys and have their sizes, and keys ascend over all
  pub record ArePages (pages : List (K × List (K × V))) : Type 0 where
    pub heads : AllByRecursion HasHead pages
    pub sized : AreSized pages
    pub order : Ascends cmp key_of (parts pages)

  -- so are the pages of all chunks, and chunks stand under their first keys
  pub record AreChunks (chunks : List (K × List (K × List (K × V)))) : Type 0 where
    pub heads : AllByRecursion HasHead chunks
    pub pages : ArePages (parts chunks)
