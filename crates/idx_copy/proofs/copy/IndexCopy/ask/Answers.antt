use Rattle.std.proofs.Common.{subst, sym}
use Rattle.idx_copy.specs.declared.tables.Tables.{Tables}
use Rattle.idx_copy.specs.Answers.{AreTablesOf, Answers}
use Rattle.idx_copy.specs.Copies.{CopyView}
use Rattle.idx_copy.proofs.copy.IndexCopy.ask.Goals as goal

pub returns : goal.returns
returns c =
    let direct = subst (λ (t : Tables). AreTablesOf c.self.inside.rows.list t) (sym c.deref.ensures) c.self.invariant.tables in
    let own = c.ask.ensures c.self.inside.rows.list direct in
    subst (λ (v : CopyView). Answers v.rows c.args.query.now c.ask.result) c.self.view_is own
