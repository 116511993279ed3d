use Rattle.std.proofs.Common.{sym}
use Rattle.shop_version.proofs.Made.{making_is, unnamed}
use Rattle.shop_version.proofs.making.plan_draft.Goals as goal

pub returns-in-Some-clause-plan : goal.returns-in-Some-clause-plan
returns-in-Some-clause-plan c = (making_is c.args.rows.now.list c.args.version c.args.entity.now c.args.root c.in-Some.entity c.requires.drafted c.requires.not_live (sym c.in-Some.ensures.value) c.make.result c.make.ensures).plan

pub returns-in-Some-clause-leaves : goal.returns-in-Some-clause-leaves
returns-in-Some-clause-leaves c = (making_is c.args.rows.now.list c.args.version c.args.entity.now c.args.root c.in-Some.entity c.requires.drafted c.requires.not_live (sym c.in-Some.ensures.value) c.make.result c.make.ensures).leaves

pub returns-in-None-clause-plan : goal.returns-in-None-clause-plan
returns-in-None-clause-plan c = unnamed c.args.rows.now.list c.args.version c.args.entity.now c.args.root c.refused.result (sym c.in-None.ensures.value) c.refused.ensures
