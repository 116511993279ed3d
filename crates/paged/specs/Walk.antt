-- What a walk over the pages has left.
use Rattle.std.specs.Prelude.{List, [], ◌∷◌, ◌++◌, if◌then◌else◌}
use Rattle.std.specs.List.{AllByRecursion}
use Rattle.std.specs.declared.cmp.Ordering.{Ordering}
use Rattle.std.specs.Ordering.{is_gt, is_lt}
use Rattle.paged.specs.Parts.{HasHead, parts}

module _ {K X : Type 0} (cmp : K → K → Ordering) where
  -- the pairs from the first on whose key is not below q
  abbrev pub from : List (K × X) → K → List (K × X)
  from [] q = []
  from (x ∷ xs) q = if is_lt (cmp x.0 q) then from xs q else x ∷ xs

  -- the parts from the last on whose key is not above q, or all where each is above it
  abbrev pub parts_from : List (K × X) → K → List (K × X)
  parts_from [] q = []
  parts_from (x ∷ []) q = x ∷ []
  parts_from (x ∷ y ∷ t) q = if is_gt (cmp y.0 q) then x ∷ y ∷ t else parts_from (y ∷ t) q

-- the pages behind a run, and before them the run where it has pairs
abbrev pub with_run : {X : Type 0} → List X → List (List X) → List (List X)
with_run [] pages = pages
with_run (x ∷ xs) pages = (x ∷ xs) ∷ pages

module _ {K V : Type 0} where
  -- the pages, and behind them those of the chunks
  abbrev pub ahead : List (K × List (K × V)) → List (K × List (K × List (K × V))) → List (K × List (K × V))
  ahead pages chunks = pages ++ parts chunks

  -- no page and no chunk is empty
  pub record AreAhead (pages : List (K × List (K × V))) (chunks : List (K × List (K × List (K × V)))) : Type 0 where
    pub chunk_heads : AllByRecursion HasHead chunks
    pub page_heads : AllByRecursion HasHead (ahead pages chunks)
