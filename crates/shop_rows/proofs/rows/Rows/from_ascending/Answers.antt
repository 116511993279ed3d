use Rattle.std.proofs.Common.{[], map, ap, ◌∙◌}
use Rattle.shop_defs.specs.Rows.{change_rows}
use Rattle.shop_rows.specs.Paging.{rows_in, read_change}
use Rattle.shop_rows.proofs.InPages.{putting_ascends, putting_stand, put_all}
use Rattle.shop_rows.proofs.rows.Rows.from_ascending.Goals as goal

pub changed-requires-clause-order : goal.changed-requires-clause-order
changed-requires-clause-order c = rw c.as_slice.ensures.value (putting_ascends c.in_ok-changes.changes.items c.args.rows.items c.in_ok-changes.ensures c.requires)

pub changed-requires-clause-stand : goal.changed-requires-clause-stand
changed-requires-clause-stand c = rw c.as_slice.ensures.value (putting_stand c.in_ok-changes.changes.items c.args.rows.items c.in_ok-changes.ensures)

pub returns : goal.returns
returns c =
    c.in_ok-pages.ensures.rows
    ∙ ((λ i. change_rows (rows_in (c.empty.ensures.rows i)) (map read_change (c.as_slice.ensures.value i)))
    ∙ (ap (change_rows []) c.in_ok-changes.ensures ∙ put_all c.args.rows.items c.requires))
