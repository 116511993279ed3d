use Rattle.std.proofs.Common.{subst, sym, ◌∙◌}
use Rattle.keyed.specs.Keyed.{Ascends}
use Rattle.paged.specs.Pairs.{key_of}
use Rattle.paged.proofs.Places.{ascends_map}
use Rattle.paged.proofs.changing.change_page.Goals as goal

pub change_pairs-requires-clause-order : goal.change_pairs-requires-clause-order
change_pairs-requires-clause-order g c = ascends_map g.K.Ord.cmp g.C.Leaf.leaf_value c.entries.result.now (subst (Ascends g.K.Ord.cmp key_of) (sym (c.entries.ensures ∙ c.deref.ensures)) c.requires.order)
