use Rattle.std.proofs.Common.{ap, ◌∙◌}
use Rattle.shop_operations.specs.Upserts.{given_to}
use Rattle.shop_version.proofs.CommitRows.{with_commits_is}
use Rattle.shop_version.proofs.batches.with_commits.Goals as goal

pub returns : goal.returns
returns c =
    c.in_ok-left.ensures
    ∙ (ap (λ row. given_to row c.in_ok-op.op) c.in_ok-row.ensures
    ∙ with_commits_is c.args.draft.now c.args.number c.in_ok-op.op c.requires.draft c.requires.root c.in_ok-op.ensures)
