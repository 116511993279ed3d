use Rattle.row_fields.proofs.Ranges.{number_within}
use Rattle.row_fields.proofs.int_at.Goals as goal

pub returns-clause-bounds : goal.returns-clause-bounds
returns-clause-bounds c = λ entity low high is holds. rw (c.int_in.ensures, c.field.ensures) (number_within entity c.args.row.now c.args.field low high is holds)
