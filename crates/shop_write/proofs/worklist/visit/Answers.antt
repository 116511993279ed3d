use Rattle.std.proofs.Common.{◌≡◌, true, sym, subst}
use Rattle.std.proofs.lemmas.Result.{on_ok_weaker}
use Rattle.shop_defs.specs.declared.key.Key.{Key}
use Rattle.shop_defs.specs.declared.table.TheConstants.{REFERENCES}
use Rattle.shop_operations.specs.Deletes.{stands_at}
use Rattle.shop_write.specs.Searching.{IsNoted}
use Rattle.shop_write.proofs.Standing.{row_found, row_missing, same_row, stands_itself}
use Rattle.shop_write.proofs.Spreads.{spread_noted, noted}
use Rattle.shop_write.proofs.worklist.visit.Goals as goal

pub returns-in-Some-clause-spread : goal.returns-in-Some-clause-spread
returns-in-Some-clause-spread g c =
    let found = row_found (g.V.View.seen c.args.view.now).rows c.args.at.now c.in-Some.row.now (sym c.in-Some.ensures.row) in
    on_ok_weaker c.note.result (spread_noted REFERENCES (g.V.View.seen c.args.view.now).rows c.args.key.now c.in-Some.row.now c.args.search.now c.note.new.search c.get.ensures.order found.is_in) c.note.ensures

pub returns-in-Some-clause-visited : goal.returns-in-Some-clause-visited
returns-in-Some-clause-visited g c =
    on_ok_weaker c.note.result (λ n row i e.
    let same = same_row (g.V.View.seen c.args.view.now).rows c.args.at.now c.in-Some.row.now row c.get.ensures.order (sym c.in-Some.ensures.row) i (subst (λ (k : Key). stands_at k row ≡ true) e (stands_itself row)) in
    subst (IsNoted REFERENCES c.args.key.now c.note.new.search) same (noted REFERENCES c.args.key.now c.in-Some.row.now c.args.search.now c.note.new.search n)) c.note.ensures

pub returns-in-None-clause-visited : goal.returns-in-None-clause-visited
returns-in-None-clause-visited g c = λ row i e.
    absurd (row_missing (g.V.View.seen c.args.view.now).rows c.args.at.now row (sym c.in-None.ensures.row) i (subst (λ (k : Key). stands_at k row ≡ true) e (stands_itself row)))
