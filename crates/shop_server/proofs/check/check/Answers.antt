use Rattle.std.proofs.Common.{length, refl, ap, ◌∙◌, subst}
use Rattle.shop_server.specs.Reports.{count_lines}
use Rattle.shop_server.specs.Run.{HasReportedText}
use Rattle.shop_server.proofs.Runs.{opened_checked, unopened_checked}
use Rattle.shop_server.proofs.check.check.Goals as goal

pub returns-in-Ok-clause-checked : goal.returns-in-Ok-clause-checked
returns-in-Ok-clause-checked g c = λ left coming.
    let old = g.K.Sink.written c.args.sink.now in
    let new = g.K.Sink.written c.report-status.new.sink in
    let number = c.report-status.result.number in
    let text = c.report-status.ensures.reported _ c.counts-text.ensures in
    let rows = subst (λ n. HasReportedText old new (count_lines n c.accepted.result) 0 number) (c.len.ensures.count ∙ ap length c.rows.ensures.rows) text in
    opened_checked _ _ number c.in-Ok.shop c.in-Ok.ensures.opens
    (subst (λ n. HasReportedText old new (count_lines (length c.in-Ok.shop.rows) n) 0 number) c.accepted.ensures rows)
    refl c.close.ensures.content c.close.ensures.faults refl

pub returns-in-Err-clause-checked : goal.returns-in-Err-clause-checked
returns-in-Err-clause-checked g c = λ left coming.
    unopened_checked _ _ _ c.in-Err.fault c.in-Err.ensures.cause c.report_fault-status.ensures.reported refl c.in-Err.ensures.content refl
