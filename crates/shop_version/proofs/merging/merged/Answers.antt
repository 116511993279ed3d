use Rattle.std.proofs.Common.{ap, sym, subst, ◌∙◌}
use Rattle.std.proofs.lemmas.Bool.{and_parts}
use Rattle.shop_operations.specs.Soundness.{IsCoherent}
use Rattle.shop_write.specs.Growth.{grown_view}
use Rattle.shop_write.proofs.BatchSteps.{view_first}
use Rattle.shop_version.proofs.Ends.{merged_plan, merged_fault, merge_err}
use Rattle.shop_version.proofs.Kept.{numbered}
use Rattle.shop_version.proofs.merging.merged.Goals as goal

pub replay-requires-clause-coherent : goal.replay-requires-clause-coherent
replay-requires-clause-coherent c = subst IsCoherent (sym (ap grown_view c.new-growing.ensures ∙ view_first c.args.rows.now.list)) c.requires.coherent

pub replay-requires-clause-count : goal.replay-requires-clause-count
replay-requires-clause-count c = c.commit_count.ensures.commits c.args.rows.now.list c.args.version c.requires.drafted c.requires.draft

pub replay-requires-clause-numbered : goal.replay-requires-clause-numbered
replay-requires-clause-numbered c = (and_parts _ _ (numbered c.args.rows.now.list c.args.version c.requires.drafted c.requires.not_live c.args.draft.now c.requires.draft)).0

pub returns-in_err-count : goal.returns-in_err-count
returns-in_err-count c =
    let rows = c.args.rows.now.list in
    let fault = c.in_err-count.field-0.0 in
    merge_err rows c.args.version c.from_residual.result fault c.from_residual.ensures.1
    (merged_fault rows c.args.version c.args.draft.now c.requires.draft c.new-growing.result c.new-growing.ensures fault c.in_err-count.ensures.err)

pub returns : goal.returns
returns c =
    let live = c.in_ok-live.ensures in
    let joins = c.in_ok-delta.ensures in (
      merged_plan c.args.rows.now.list c.args.version c.args.draft.now c.requires.draft c.new-growing.result c.new-growing.ensures c.replay.new.growing c.in_ok-live.live c.in_ok-lost.lost c.in_ok-delta.delta.changes
          c.requires.drafted c.requires.not_live c.in_ok-count.ensures.base c.in_ok-count.ensures.ok live.changes live.drafts live.stand c.in_ok-lost.ensures joins.value joins.ascends,
      c.in_ok-count.ensures.count,
    )
