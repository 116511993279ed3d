use Rattle.std.proofs.Common.{ℕ, List, ◌++◌, map, take}
use Rattle.paged.specs.Pairs.{pair_of}
use Rattle.paged.specs.Parts.{size_of}
use Rattle.paged.specs.Sizes.{Tells}
use Rattle.paged.proofs.shape.add_pages.Given as goal

abbrev pub invariant-loop-page : goal.invariant-loop-page
invariant-loop-page g l = (sizes : List ℕ) → Tells l.fn.shape sizes → Tells l.shape (sizes ++ map size_of (map pair_of (take l.page-index l.pages)))
