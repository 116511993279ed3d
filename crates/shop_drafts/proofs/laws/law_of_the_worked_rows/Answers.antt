use Rattle.shop_drafts.proofs.Worked.{the_tee_is_merged, the_merge_is_broken, a_draft_may_run_in_a_circle}
use Rattle.shop_drafts.proofs.laws.law_of_the_worked_rows.Goals as goal

pub returns-clause-merged : goal.returns-clause-merged
returns-clause-merged c = the_tee_is_merged

pub returns-clause-broken : goal.returns-clause-broken
returns-clause-broken c = the_merge_is_broken

pub returns-clause-circle : goal.returns-clause-circle
returns-clause-circle c = a_draft_may_run_in_a_circle
