use Rattle.std.proofs.Common.{sym}
use Rattle.std.proofs.lemmas.List.{take-map, drop-map}
use Rattle.paged.specs.Pairs.{pair_by}
use Rattle.paged.proofs.sheet.Sheet.split_off.Goals as goal

pub returns-clause-front : goal.returns-clause-front
returns-clause-front g c = rw (c.in_ok-split_off.ensures.items, ← c.self.view_is) (sym (take-map _ _ _))

pub returns-clause-rest : goal.returns-clause-rest
returns-clause-rest g c = rw (c.in_ok-split_off.ensures.tail, ← c.self.view_is) (sym (drop-map (pair_by g.C.Leaf.leaf_value) c.args.at c.self.inside.entries.items))
