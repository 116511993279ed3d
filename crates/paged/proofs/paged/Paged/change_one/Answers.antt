use Rattle.std.proofs.Common.{◌∙◌, sym}
use Rattle.std.specs.Option.{option_map}
use Rattle.paged.specs.Paged.{all_pairs}
use Rattle.paged.proofs.Edits.{still_chunks, edited_all, single}
use Rattle.paged.proofs.paged.Paged.change_one.Goals as goal

pub invariant_of-self : goal.invariant_of-self
invariant_of-self g c = still_chunks g.K.Ord.cmp g.met.K.Ord.total c.self.inside.chunks c.edit_chunks.new.chunks c.index-change-0.result.0 (option_map g.C.Leaf.leaf_value c.index-change-0.result.1) c.self.invariant c.if-edit_chunks.ensures.heads c.if-edit_chunks.ensures.done

pub returns-then-edit_chunks-clause-ok : goal.returns-then-edit_chunks-clause-ok
returns-then-edit_chunks-clause-ok g c =
    edited_all g.K.Ord.cmp g.met.K.Ord.total c.self.inside.chunks c.edit_chunks.new.chunks c.args.self.now c.index-change-0.result.0 (option_map g.C.Leaf.leaf_value c.index-change-0.result.1) c.self.view_is c.if-edit_chunks.ensures.done
    ∙ sym (single g.K.Ord.cmp (option_map g.C.Leaf.leaf_value) (all_pairs c.args.self.now) c.args.change.now c.index-change-0.result c.requires c.index-change-0.is)
