use Rattle.std.proofs.Common.{ap, ◌∙◌}
use Rattle.shop_version.specs.Numbers.{number_told}
use Rattle.shop_version.proofs.CommitRows.{told}
use Rattle.shop_version.proofs.drafts.commit_count.Goals as goal

pub returns-clause-commits : goal.returns-clause-commits
returns-clause-commits c = λ rows version drafted there. c.count_in.ensures ∙ (ap number_told c.field.ensures ∙ told rows version drafted c.args.draft.now there)
