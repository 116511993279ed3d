use Rattle.std.proofs.Common.{Ok, ap, sym, subst, ◌∙◌, w64, FitsSigned}
use Rattle.std.proofs.lemmas.Int.{to_z-of_z}
use Rattle.body_json.proofs.ObjectSteps.{no_amount, beside_amount, amount_whole}
use Rattle.body_json.proofs.Steps.{named}
use Rattle.body_json.proofs.object.amount_members.Goals as goal

pub returns-in_default-clause-answer : goal.returns-in_default-clause-answer
returns-in_default-clause-answer c = named _ _ _ (no_amount _ c.in_default.ensures.value) c.wrong_name.ensures

pub returns-in-Some-other_member-clause-answer : goal.returns-in-Some-other_member-clause-answer
returns-in-Some-other_member-clause-answer c = named _ _ _ (beside_amount _ _ c.in-Some.ensures.value _ c.in-Some-other_member.ensures) c.wrong_name-in-Some-other_member.ensures

pub returns-in-None-clause-answer : goal.returns-in-None-clause-answer
returns-in-None-clause-answer c = amount_whole _ _ c.in-Some.ensures.value c.in-None.ensures ∙ ap Ok (sym (to_z-of_z w64 c.in-Some.amount c.in-Some.ensures.fits))

pub returns-in-None-clause-fits : goal.returns-in-None-clause-fits
returns-in-None-clause-fits c = subst (FitsSigned w64) (sym (to_z-of_z w64 c.in-Some.amount c.in-Some.ensures.fits)) c.in-Some.ensures.fits
