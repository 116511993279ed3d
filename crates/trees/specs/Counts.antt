-- How many answers are yes, and how many no. No public contract cites this.
use Rattle.std.specs.Prelude.{◌+◌, ◌==◌, Bool, not, ◌&&◌, nat_lt, List, count_by, if◌then◌else◌}
use Rattle.trees.specs.declared.answers.Answers.{Answers}
use Rattle.trees.specs.declared.node.Join.{Join}
use Rattle.trees.specs.declared.node.Join.TheVariants as J

abbrev pub with_answer : Answers → Bool → Answers
with_answer counted answer = if answer then record { yes = counted.yes + 1; no = counted.no } else record { yes = counted.yes; no = counted.no + 1 }

abbrev pub counts : List Bool → Answers
counts answers = record { yes = count_by (λ answer. answer) answers; no = count_by not answers }

abbrev pub joined_by : Join → Answers → Bool
joined_by J.And counted = counted.no == 0
joined_by J.Or counted = nat_lt 0 counted.yes
joined_by J.Not counted = (counted.yes == 0) && (counted.no == 1)

abbrev pub all_yes_by : Answers → Bool
all_yes_by counted = nat_lt 0 counted.yes && (counted.no == 0)
