use Rattle.std.proofs.Common.{sym, subst}
use Rattle.std.proofs.lemmas.Result.{on_ok_weaker}
use Rattle.shop_defs.specs.declared.table.TheConstants.{REFERENCES}
use Rattle.shop_write.specs.Deleting.{rest_of, IsCovered}
use Rattle.shop_write.proofs.Standing.{row_found, row_missing, same_row}
use Rattle.shop_write.proofs.Puts.{put_one, covers_one}
use Rattle.shop_write.proofs.delete.put_change_at.Goals as goal

pub returns-in-Some-clause-put : goal.returns-in-Some-clause-put
returns-in-Some-clause-put g c =
    let rows = (g.V.View.seen c.args.view.now).rows in
    let found = row_found rows c.key.result c.in-Some.row.now (sym c.in-Some.ensures.row) in
    on_ok_weaker c.put_change.result (put_one (rest_of REFERENCES c.args.lost.now) rows c.in-Some.row.now c.args.changes.now.list c.put_change.new.changes.list c.get.ensures.order found.is_in) c.put_change.ensures

pub returns-in-Some-clause-covered : goal.returns-in-Some-clause-covered
returns-in-Some-clause-covered g c =
    let rows = (g.V.View.seen c.args.view.now).rows in
    on_ok_weaker c.put_change.result (λ p row i h.
    subst (IsCovered (rest_of REFERENCES c.args.lost.now) c.put_change.new.changes.list)
    (same_row rows c.key.result c.in-Some.row.now row c.get.ensures.order (sym c.in-Some.ensures.row) i (rw c.key.ensures h))
    (covers_one (rest_of REFERENCES c.args.lost.now) c.in-Some.row.now c.args.changes.now.list c.put_change.new.changes.list p)) c.put_change.ensures

pub returns-in-None-clause-covered : goal.returns-in-None-clause-covered
returns-in-None-clause-covered g c = λ row i h.
    absurd (row_missing (g.V.View.seen c.args.view.now).rows c.key.result row (sym c.in-None.ensures.row) i (rw c.key.ensures h))
