use Rattle.body_json.proofs.ObjectSteps.{no_order, beside_order, order_whole}
use Rattle.body_json.proofs.Steps.{named}
use Rattle.body_json.proofs.object.order_members.Goals as goal

pub returns-in_default : goal.returns-in_default
returns-in_default c = named _ _ _ (no_order _ c.in_default.ensures) c.wrong_name.ensures

pub returns-in-Some-other_member : goal.returns-in-Some-other_member
returns-in-Some-other_member c = named _ _ _ (beside_order _ _ c.in-Some.ensures _ c.in-Some-other_member.ensures) c.wrong_name-in-Some-other_member.ensures

pub returns-in-None : goal.returns-in-None
returns-in-None c = order_whole _ _ c.in-Some.ensures c.in-None.ensures
