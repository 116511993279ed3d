use Rattle.std.proofs.Common.{sym, ◌∙◌}
use Rattle.std.proofs.lemmas.Bool.{not-false}
use Rattle.shop_write.proofs.Counted.{owner_above, ownerless}
use Rattle.shop_write.proofs.limit.is_owner_full.Goals as goal

pub returns-in-Some : goal.returns-in-Some
returns-in-Some g c =
    c.is_above.ensures ∙ owner_above (g.V.View.seen c.args.view.now).rows c.args.row.now c.get.ensures.order c.args.limit.now c.in-Some.owner c.count_owned.result c.get.result c.is_owned-is_new.result
    (not-false _ (sym c.ne.ensures ∙ c.if-ne.false)) c.in-Some.ensures c.count_owned.ensures c.get.ensures.row c.is_owned-is_new.ensures

pub returns-in-None : goal.returns-in-None
returns-in-None g c = sym (ownerless (g.V.View.seen c.args.view.now).rows c.args.row.now c.args.limit.now (sym c.in-None.ensures))
