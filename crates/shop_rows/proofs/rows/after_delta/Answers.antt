use Rattle.std.proofs.Common.{map, ap, ◌∙◌}
use Rattle.shop_defs.specs.Rows.{change_rows}
use Rattle.shop_rows.specs.Paging.{rows_in, read_change}
use Rattle.shop_rows.proofs.InPages.{settled_stand, settled_same}
use Rattle.shop_rows.proofs.rows.after_delta.Goals as goal

pub changed-requires-clause-stand : goal.changed-requires-clause-stand
changed-requires-clause-stand c = rw (c.as_slice-3.ensures.value, c.in_ok-settled.ensures.changes) (settled_stand (map read_change c.as_slice-2.result.now))

pub returns-clause-rows : goal.returns-clause-rows
returns-clause-rows c =
    let rows = rows_in c.args.pages.now.rows in
    c.in_ok-next.ensures.rows
    ∙ (ap (λ cs. change_rows rows (map read_change cs)) c.as_slice-3.ensures.value
    ∙ (ap (change_rows rows) c.in_ok-settled.ensures.changes
    ∙ (settled_same (map read_change c.as_slice-2.result.now) rows c.requires.mentioned.order
    ∙ (ap (λ cs. change_rows rows (map read_change cs)) c.as_slice-2.ensures.value
    ∙ (ap (change_rows rows) c.in_ok-changes.ensures ∙ ap (change_rows rows) c.as_slice.ensures)))))
