use Rattle.std.proofs.Common.{◌≡◌, ◌<◌, ◌+◌, ◌-◌, length, ◌∙◌, refl, arith}
use Rattle.std.specs.Option.{option_map}
use Rattle.std.specs.Arc.{arc_value, arc_with_value}
use Rattle.paged.specs.Pairs.{pair_by}
use Rattle.paged.specs.Edited.{IsEdited, AreEdited}
use Rattle.paged.proofs.Places.{ascends_map}
use Rattle.paged.proofs.Looking.{page_keys}
use Rattle.paged.proofs.Edits.{page_order_at, page_edited, on_true, on_false, copied_value, copied_set, copied_kept}
use Rattle.paged.proofs.editing.edit_chunk.Goals as goal

pub count_up_to-count-requires : goal.count_up_to-count-requires
count_up_to-count-requires g c = rw c.as_slice.ensures.value (ascends_map g.K.Ord.cmp arc_value _ (rw c.chunk.view_is (page_keys g.K.Ord.cmp g.met.K.Ord.total c.args.chunk.now c.requires.heads c.requires.order)))

pub edit_page-requires : goal.edit_page-requires
edit_page-requires g c =
    let n = c.count_up_to-count.result - 1 in
    let inside : n < length c.chunk.inside.entries.items = rw (← c.as_slice.ensures.value) (omega (arith, c.count_up_to-count.ensures.bound, c.if-count-eq0.false)) in
    rw (c.in-Some.ensures.value, copied_value arc_value c.chunk.inside.entries.items n c.index_mut.result.now c.index_mut-2.result.now c.unshare.new.part inside c.index_mut.ensures.value c.unshare.ensures c.index_mut-2.ensures.value) (page_order_at g.K.Ord.cmp g.met.K.Ord.total arc_value c.chunk.inside.entries.items c.args.chunk.now n c.index_mut.result.now c.chunk.view_is c.requires inside c.index_mut.ensures.value)

pub returns-clause-done : goal.returns-clause-done
returns-clause-done g c =
    let n = c.count_up_to-count.result - 1 in
    let inside : n < length c.chunk.inside.entries.items = rw (← c.as_slice.ensures.value) (omega (arith, c.count_up_to-count.ensures.bound, c.if-count-eq0.false)) in
    let is : c.count_up_to-count.result ≡ n + 1 = omega (arith, c.if-count-eq0.false) in
    let above = rw (c.as_slice.ensures.value, is) at c.count_up_to-count.ensures.above in
    let up_to = rw c.as_slice.ensures.value at (c.count_up_to-count.ensures.up_to n c.index_mut.result.now is) in
    on_true c.edit_page.result (λ (edit : IsEdited g.K.Ord.cmp c.in-Some.page.now c.edit_page.new.page c.args.key (option_map g.C.Leaf.leaf_value c.args.leaf.now)). rw (copied_set arc_value c.chunk.inside.entries.items n c.index_mut.result.now c.index_mut-2.result.now c.unshare.new.part inside c.index_mut.ensures.value c.unshare.ensures c.index_mut-2.ensures.value (arc_with_value c.index_mut-2.result.now.1 c.edit_page.new.page)) (page_edited g.K.Ord.cmp g.met.K.Ord.total arc_value c.chunk.inside.entries.items c.args.chunk.now n c.index_mut.result.now (arc_with_value c.index_mut-2.result.now.1 c.edit_page.new.page) c.args.key (option_map g.C.Leaf.leaf_value c.args.leaf.now) c.chunk.view_is c.requires inside c.index_mut.ensures.value up_to above (rw (c.in-Some.ensures.value, copied_value arc_value c.chunk.inside.entries.items n c.index_mut.result.now c.index_mut-2.result.now c.unshare.new.part inside c.index_mut.ensures.value c.unshare.ensures c.index_mut-2.ensures.value) at edit))) c.edit_page.ensures.done

pub returns-clause-kept : goal.returns-clause-kept
returns-clause-kept g c =
    let n = c.count_up_to-count.result - 1 in
    let inside : n < length c.chunk.inside.entries.items = rw (← c.as_slice.ensures.value) (omega (arith, c.count_up_to-count.ensures.bound, c.if-count-eq0.false)) in
    on_false c.edit_page.result (λ same. copied_kept arc_value c.chunk.inside.entries.items n c.index_mut.result.now c.index_mut-2.result.now c.unshare.new.part inside c.index_mut.ensures.value c.unshare.ensures c.index_mut-2.ensures.value c.args.chunk.now (arc_with_value c.index_mut-2.result.now.1 c.edit_page.new.page) c.chunk.view_is (same ∙ c.in-Some.ensures.value)) c.edit_page.ensures.kept

pub returns-in_default-clause-kept : goal.returns-in_default-clause-kept
returns-in_default-clause-kept g c =
    let n = c.count_up_to-count.result - 1 in
    let inside : n < length c.chunk.inside.entries.items = rw (← c.as_slice.ensures.value) (omega (arith, c.count_up_to-count.ensures.bound, c.if-count-eq0.false)) in
    copied_kept arc_value c.chunk.inside.entries.items n c.index_mut.result.now c.index_mut-2.result.now c.unshare.new.part inside c.index_mut.ensures.value c.unshare.ensures c.index_mut-2.ensures.value c.args.chunk.now c.index_mut-2.result.now.1 c.chunk.view_is refl
