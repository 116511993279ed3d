use Rattle.std.proofs.Common.{◌≡◌, true, take, sym, subst, ◌∙◌}
use Rattle.std.proofs.lemmas.List.{take_all, get_or_default}
use Rattle.shop_defs.specs.Entities.{entity_number}
use Rattle.shop_defs.specs.declared.table.TheConstants.{REFERENCES}
use Rattle.shop_operations.specs.References.{referrers}
use Rattle.shop_write.specs.Searching.{IsNoted, refers_to}
use Rattle.closure.specs.Closure.{IsIn}
use Rattle.shop_write.proofs.Spreads.{spread_itself, spread_on, noted_on, visited_more, is_referrer}
use Rattle.shop_write.proofs.worklist.spread.Goals as goal

pub loop-at-init : goal.loop-at-init
loop-at-init g c = record {
  spread = spread_itself REFERENCES (g.V.View.seen c.args.view.now).rows c.args.key.now c.args.search.now;
  visited = λ row i j. absurd j;
}

pub loop-at-preserved : goal.loop-at-preserved
loop-at-preserved g c = record {
  spread = spread_on REFERENCES (g.V.View.seen c.args.view.now).rows c.args.key.now c.args.search.now c.loop-at.search c.visit.new.search c.loop-at.invariant.spread c.in_ok-visit.ensures.spread;
  visited = visited_more (g.V.View.seen c.args.view.now).rows (λ row. refers_to REFERENCES c.args.key.now row ≡ true) (IsNoted REFERENCES c.args.key.now c.loop-at.search) (IsNoted REFERENCES c.args.key.now c.visit.new.search) c.as_slice-at-items.result.now c.loop-at.at-index _ c.loop-at-test.true (get_or_default _ _ _ _ c.loop-at-test.true) (λ row. noted_on REFERENCES (g.V.View.seen c.args.view.now).rows c.args.key.now c.args.key.now c.loop-at.search c.visit.new.search row c.in_ok-visit.ensures.spread) c.loop-at.invariant.visited c.in_ok-visit.ensures.visited;
}

pub returns-clause-all : goal.returns-clause-all
returns-clause-all g c = λ row i f.
    let j = is_referrer REFERENCES (g.V.View.seen c.args.view.now).rows c.args.key.now row i f in
    let e : referrers REFERENCES (g.V.View.seen c.args.view.now).rows (entity_number c.args.key.now.entity) c.args.key.now.id ≡ take c.loop-at.at-index c.as_slice-at-items.result.now =
    sym (take_all c.loop-at.at-index c.as_slice-at-items.result.now c.loop-at-test.false ∙ (c.as_slice-at-items.ensures ∙ c.in_ok-keys.ensures)) in
    c.loop-at.invariant.visited row i (subst (IsIn row.key) e j) f
