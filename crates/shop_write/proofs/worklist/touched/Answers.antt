use Rattle.std.proofs.Common.{◌≡◌, true, List, sym, subst, ◌∙◌}
use Rattle.closure.specs.Closure.{IsIn}
use Rattle.shop_defs.specs.declared.key.Key.{Key}
use Rattle.shop_defs.specs.declared.row.Row.{Row}
use Rattle.shop_defs.specs.declared.table.TheConstants.{REFERENCES}
use Rattle.shop_write.specs.declared.place.Place.{Place}
use Rattle.shop_write.specs.Searching.{IsSpread, IsNoted, IsFound, refers_to}
use Rattle.shop_write.proofs.Founds.{found_first, found_more, found_all, touched_is}
use Rattle.shop_write.proofs.worklist.touched.Goals as goal

pub loop-next-init : goal.loop-next-init
loop-next-init g c = found_first REFERENCES (g.V.View.seen c.args.view.now).rows c.args.key.now c.args.row.now c.in_ok-search.search c.requires.order c.requires.row c.in_ok-search.ensures

pub loop-next-preserved : goal.loop-next-preserved
loop-next-preserved g c =
    found_more REFERENCES (g.V.View.seen c.args.view.now).rows c.args.key.now c.version.result c.in-Some.next c.pop.new.self c.loop-next.search c.spread.new.search c.in-Some.ensures c.loop-next.invariant
    (subst (λ (key : Key). IsSpread REFERENCES (g.V.View.seen c.args.view.now).rows key (record c.loop-next.search { pending = c.pop.new.self }) c.spread.new.search) c.key.ensures c.in_ok-spread.ensures.spread)
    (subst (λ (key : Key). (row : Row) → IsIn row (g.V.View.seen c.args.view.now).rows → refers_to REFERENCES key row ≡ true → IsNoted REFERENCES key c.spread.new.search row) c.key.ensures c.in_ok-spread.ensures.all)

pub returns : goal.returns
returns g c =
    let e = c.in_default.ensures in
    touched_is REFERENCES (g.V.View.seen c.args.view.now).rows c.args.key.now (record { lost = c.loop-next.search.lost; near = c.loop-next.search.near }) c.in_order.result c.in_order.ensures
    (found_all REFERENCES (g.V.View.seen c.args.view.now).rows c.args.key.now (record c.loop-next.search { pending = c.pop.new.self }) c.requires.order e.1
    (subst (λ (places : List Place). IsFound REFERENCES (g.V.View.seen c.args.view.now).rows c.args.key.now (record c.loop-next.search { pending = places })) (e.0 ∙ sym e.1) c.loop-next.invariant))
