use Rattle.std.proofs.Common.{map, take}
use Rattle.paged.specs.Pairs.{pair_of}
use Rattle.paged.specs.Parts.{size_of, parts}
use Rattle.paged.specs.Sizes.{Tells}
use Rattle.paged.proofs.paged.Paged.shape.Given as goal

abbrev pub invariant-loop-chunk : goal.invariant-loop-chunk
invariant-loop-chunk g l = Tells l.shape (map size_of (parts (map pair_of (take l.chunk-index l.chunk-items))))
