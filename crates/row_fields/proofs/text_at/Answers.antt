use Rattle.row_fields.proofs.Ranges.{text_within}
use Rattle.row_fields.proofs.text_at.Goals as goal

pub returns-clause-bounds : goal.returns-clause-bounds
returns-clause-bounds c = λ entity low high is holds. rw (c.text_in.ensures, c.field.ensures) (text_within entity c.args.row.now c.args.field low high is holds)
