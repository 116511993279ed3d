-- Pages while they are made.
use Rattle.std.specs.Prelude.{◌<◌, List, ◌++◌, length}
use Rattle.std.specs.List.{AllByRecursion}
use Rattle.paged.specs.declared.binder.Binder.{Binder}
use Rattle.paged.specs.declared.maker.Maker.{Maker}
use Rattle.paged.specs.Parts.{HasHead, IsSized, parts}

module _ {K V : Type 0} where
  -- the pages of the chunks, and those behind them
  abbrev pub bound_of : List (K × List (K × List (K × V))) → List (K × List (K × V)) → List (K × List (K × V))
  bound_of chunks pages = parts chunks ++ pages

  -- chunks and pages stand under their first keys
  pub record AreBound (chunks : List (K × List (K × List (K × V)))) (pages : List (K × List (K × V))) : Type 0 where
    pub chunk_heads : AllByRecursion HasHead chunks
    pub page_heads : AllByRecursion HasHead (bound_of chunks pages)

  -- beside that, pages have their sizes, and few pairs are behind them
  pub record AreMade (chunks : List (K × List (K × List (K × V)))) (pages : List (K × List (K × V))) (pairs : List (K × V)) : Type 0 where
    pub binds : AreBound chunks pages
    pub sized : AllByRecursion IsSized (bound_of chunks pages)
    pub few : length pairs < 80

module _ {K V C : Type 0} where
  -- the pages that are put down
  abbrev pub bound : Binder K V C → List (K × List (K × V))
  bound b = bound_of b.chunks b.pages

  abbrev pub IsBound : Binder K V C → Type 0
  IsBound b = AreBound b.chunks b.pages

  -- the pairs that are put down
  abbrev pub made : Maker K V C → List (K × V)
  made m = parts (bound m.pages) ++ m.tail

  abbrev pub IsMade : Maker K V C → Type 0
  IsMade m = AreMade m.pages.chunks m.pages.pages m.tail
