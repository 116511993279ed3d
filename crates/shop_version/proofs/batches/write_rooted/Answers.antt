use Rattle.std.proofs.Common.{sym, ◌∙◌, subst}
use Rattle.shop_drafts.specs.Drafts.{draft_key}
use Rattle.shop_rows.proofs.Mentioning.{found_key}
use Rattle.shop_defs.specs.Rows.{change_rows}
use Rattle.shop_version.specs.DraftWrites.{IsWritePlan, IsBatchInView}
use Rattle.shop_version.proofs.DraftAnswers.{formed_first, handed_on, batch_fault, full_fault, few_read, whole}
use Rattle.shop_version.proofs.batches.write_rooted.Goals as goal

pub do_all-requires-clause-formed : goal.do_all-requires-clause-formed
do_all-requires-clause-formed c = formed_first c.args.rows.now.list c.args.version c.args.root c.in_ok-overlay.overlay c.requires.drafted c.in_ok-overlay.ensures.view

pub returns-in_err-done-clause-plan : goal.returns-in_err-done-clause-plan
returns-in_err-done-clause-plan c =
    handed_on c.args.rows.now.list c.args.version c.args.ops.now c.from_residual-in_err-done.result c.in_err-done.field-0.0 c.from_residual-in_err-done.ensures.1
    (batch_fault c.args.rows.now.list c.args.version c.args.root c.args.draft.now _ c.args.ops.now c.in_ok-overlay.overlay c.in_err-done.field-0.0 c.requires.draft c.requires.root c.in_ok-overlay.ensures.layer c.as_slice.ensures c.in_err-done.ensures.fault)

pub returns-then-is_log_full-clause-plan : goal.returns-then-is_log_full-clause-plan
returns-then-is_log_full-clause-plan c =
    full_fault c.args.rows.now.list c.args.version c.args.root c.args.draft.now _ c.args.ops.now c.in_ok-overlay.overlay c.do_all.new.overlay c.len.result c.log_full.result c.requires.draft c.requires.root c.in_ok-overlay.ensures.layer c.in_ok-overlay.ensures.view c.as_slice.ensures
    c.in_ok-done.ensures.rows (sym c.is_log_full.ensures ∙ c.if-is_log_full.true) c.len.ensures c.log_full.ensures

pub committed-requires-clause-few : goal.committed-requires-clause-few
committed-requires-clause-few c = few_read _ c.args.ops.now c.in_ok-done.done.ops c.as_slice.ensures c.in_ok-done.ensures.read c.requires.few

pub committed-requires-clause-draft : goal.committed-requires-clause-draft
committed-requires-clause-draft c = found_key c.args.rows.now.list (draft_key c.args.version) c.args.draft.now c.requires.draft

pub returns-clause-plan : goal.returns-clause-plan
returns-clause-plan c =
    subst (λ ops. IsWritePlan c.args.rows.now.list c.args.version ops c.in_ok-delta.delta.changes) c.as_slice.ensures
    (whole c.args.rows.now.list c.args.version c.args.root c.args.draft.now c.as_slice.result.now c.in_ok-done.done.ops c.in_ok-overlay.overlay c.do_all.new.overlay c.in_ok-done.done.deltas.items c.next_number-number.result c.in_ok-delta.delta.changes
    c.requires.drafted.in_order c.requires.not_live c.requires.draft c.requires.root c.in_ok-overlay.ensures.layer c.in_ok-overlay.ensures.view c.draft-draft.ensures.layer c.in_ok-done.ensures.rows c.in_ok-done.ensures.changes c.in_ok-done.ensures.read
    (sym c.is_log_full.ensures ∙ c.if-is_log_full.false) c.next_number-number.ensures c.in_ok-delta.ensures).plan

pub returns-clause-batch : goal.returns-clause-batch
returns-clause-batch c =
    subst (λ ops. IsBatchInView c.args.rows.now.list c.args.version ops (change_rows c.args.rows.now.list c.in_ok-delta.delta.changes)) c.as_slice.ensures
    (whole c.args.rows.now.list c.args.version c.args.root c.args.draft.now c.as_slice.result.now c.in_ok-done.done.ops c.in_ok-overlay.overlay c.do_all.new.overlay c.in_ok-done.done.deltas.items c.next_number-number.result c.in_ok-delta.delta.changes
    c.requires.drafted.in_order c.requires.not_live c.requires.draft c.requires.root c.in_ok-overlay.ensures.layer c.in_ok-overlay.ensures.view c.draft-draft.ensures.layer c.in_ok-done.ensures.rows c.in_ok-done.ensures.changes c.in_ok-done.ensures.read
    (sym c.is_log_full.ensures ∙ c.if-is_log_full.false) c.next_number-number.ensures c.in_ok-delta.ensures).batch
