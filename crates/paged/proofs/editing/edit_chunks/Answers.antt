use Rattle.std.proofs.Common.{◌≡◌, ◌<◌, ◌+◌, ◌-◌, length, ◌∙◌, refl, arith}
use Rattle.std.specs.Option.{option_map}
use Rattle.std.specs.Arc.{arc_value, arc_with_value}
use Rattle.paged.specs.Pairs.{pair_by}
use Rattle.paged.specs.Edited.{IsEdited, AreEdited}
use Rattle.paged.proofs.Places.{ascends_map}
use Rattle.paged.proofs.Looking.{chunk_keys}
use Rattle.paged.proofs.Edits.{chunk_pages_at, chunk_edited, on_true, on_false, copied_value, copied_set, copied_kept}
use Rattle.paged.proofs.editing.edit_chunks.Goals as goal

pub count_up_to-count-requires : goal.count_up_to-count-requires
count_up_to-count-requires g c = rw c.as_slice.ensures.value (ascends_map g.K.Ord.cmp arc_value _ (rw c.chunks.view_is (chunk_keys g.K.Ord.cmp g.met.K.Ord.total c.args.chunks.now c.requires)))

pub edit_chunk-requires : goal.edit_chunk-requires
edit_chunk-requires g c =
    let n = c.count_up_to-count.result - 1 in
    let inside : n < length c.chunks.inside.entries.items = rw (← c.as_slice.ensures.value) (omega (arith, c.count_up_to-count.ensures.bound, c.if-count-eq0.false)) in
    rw (c.in-Some.ensures.value, copied_value arc_value c.chunks.inside.entries.items n c.index_mut.result.now c.index_mut-2.result.now c.unshare.new.part inside c.index_mut.ensures.value c.unshare.ensures c.index_mut-2.ensures.value) (chunk_pages_at g.K.Ord.cmp g.met.K.Ord.total arc_value c.chunks.inside.entries.items c.args.chunks.now n c.index_mut.result.now c.chunks.view_is c.requires inside c.index_mut.ensures.value)

pub returns-clause-done : goal.returns-clause-done
returns-clause-done g c =
    let n = c.count_up_to-count.result - 1 in
    let inside : n < length c.chunks.inside.entries.items = rw (← c.as_slice.ensures.value) (omega (arith, c.count_up_to-count.ensures.bound, c.if-count-eq0.false)) in
    let is : c.count_up_to-count.result ≡ n + 1 = omega (arith, c.if-count-eq0.false) in
    let above = rw (c.as_slice.ensures.value, is) at c.count_up_to-count.ensures.above in
    let up_to = rw c.as_slice.ensures.value at (c.count_up_to-count.ensures.up_to n c.index_mut.result.now is) in
    on_true c.edit_chunk.result (λ (edit : AreEdited g.K.Ord.cmp c.in-Some.chunk.now c.edit_chunk.new.chunk c.args.key (option_map g.C.Leaf.leaf_value c.args.leaf.now)). rw (copied_set arc_value c.chunks.inside.entries.items n c.index_mut.result.now c.index_mut-2.result.now c.unshare.new.part inside c.index_mut.ensures.value c.unshare.ensures c.index_mut-2.ensures.value (arc_with_value c.index_mut-2.result.now.1 c.edit_chunk.new.chunk)) (chunk_edited g.K.Ord.cmp g.met.K.Ord.total arc_value c.chunks.inside.entries.items c.args.chunks.now n c.index_mut.result.now (arc_with_value c.index_mut-2.result.now.1 c.edit_chunk.new.chunk) c.args.key (option_map g.C.Leaf.leaf_value c.args.leaf.now) c.chunks.view_is c.requires inside c.index_mut.ensures.value up_to above (rw (c.in-Some.ensures.value, copied_value arc_value c.chunks.inside.entries.items n c.index_mut.result.now c.index_mut-2.result.now c.unshare.new.part inside c.index_mut.ensures.value c.unshare.ensures c.index_mut-2.ensures.value) at edit)).pages) c.edit_chunk.ensures.done

pub returns-clause-heads : goal.returns-clause-heads
returns-clause-heads g c =
    let n = c.count_up_to-count.result - 1 in
    let inside : n < length c.chunks.inside.entries.items = rw (← c.as_slice.ensures.value) (omega (arith, c.count_up_to-count.ensures.bound, c.if-count-eq0.false)) in
    let is : c.count_up_to-count.result ≡ n + 1 = omega (arith, c.if-count-eq0.false) in
    let above = rw (c.as_slice.ensures.value, is) at c.count_up_to-count.ensures.above in
    let up_to = rw c.as_slice.ensures.value at (c.count_up_to-count.ensures.up_to n c.index_mut.result.now is) in
    on_true c.edit_chunk.result (λ (edit : AreEdited g.K.Ord.cmp c.in-Some.chunk.now c.edit_chunk.new.chunk c.args.key (option_map g.C.Leaf.leaf_value c.args.leaf.now)). rw (copied_set arc_value c.chunks.inside.entries.items n c.index_mut.result.now c.index_mut-2.result.now c.unshare.new.part inside c.index_mut.ensures.value c.unshare.ensures c.index_mut-2.ensures.value (arc_with_value c.index_mut-2.result.now.1 c.edit_chunk.new.chunk)) (chunk_edited g.K.Ord.cmp g.met.K.Ord.total arc_value c.chunks.inside.entries.items c.args.chunks.now n c.index_mut.result.now (arc_with_value c.index_mut-2.result.now.1 c.edit_chunk.new.chunk) c.args.key (option_map g.C.Leaf.leaf_value c.args.leaf.now) c.chunks.view_is c.requires inside c.index_mut.ensures.value up_to above (rw (c.in-Some.ensures.value, copied_value arc_value c.chunks.inside.entries.items n c.index_mut.result.now c.index_mut-2.result.now c.unshare.new.part inside c.index_mut.ensures.value c.unshare.ensures c.index_mut-2.ensures.value) at edit)).heads) c.edit_chunk.ensures.done

pub returns-clause-kept : goal.returns-clause-kept
returns-clause-kept g c =
    let n = c.count_up_to-count.result - 1 in
    let inside : n < length c.chunks.inside.entries.items = rw (← c.as_slice.ensures.value) (omega (arith, c.count_up_to-count.ensures.bound, c.if-count-eq0.false)) in
    on_false c.edit_chunk.result (λ same. copied_kept arc_value c.chunks.inside.entries.items n c.index_mut.result.now c.index_mut-2.result.now c.unshare.new.part inside c.index_mut.ensures.value c.unshare.ensures c.index_mut-2.ensures.value c.args.chunks.now (arc_with_value c.index_mut-2.result.now.1 c.edit_chunk.new.chunk) c.chunks.view_is (same ∙ c.in-Some.ensures.value)) c.edit_chunk.ensures.kept

pub returns-in_default-clause-kept : goal.returns-in_default-clause-kept
returns-in_default-clause-kept g c =
    let n = c.count_up_to-count.result - 1 in
    let inside : n < length c.chunks.inside.entries.items = rw (← c.as_slice.ensures.value) (omega (arith, c.count_up_to-count.ensures.bound, c.if-count-eq0.false)) in
    copied_kept arc_value c.chunks.inside.entries.items n c.index_mut.result.now c.index_mut-2.result.now c.unshare.new.part inside c.index_mut.ensures.value c.unshare.ensures c.index_mut-2.ensures.value c.args.chunks.now c.index_mut-2.result.now.1 c.chunks.view_is refl
