use Rattle.shop_outside.proofs.Bytes.{changed_by_scan}
use Rattle.shop_outside.proofs.bodies.change_list.Goals as goal

pub returns-clause-ok : goal.returns-clause-ok
returns-clause-ok c =
    let bytes = rw (c.in_ok-copies.ensures, c.reserve.ensures.items) at c.change_all_by_scan.ensures.bytes in
    let others = rw (c.in_ok-copies.ensures, c.reserve.ensures.items) at c.change_all_by_scan.ensures.others in
    changed_by_scan c.args.rows.now.items c.args.changes.now c.change_all_by_scan.new.rows.items c.requires.order c.requires.keys bytes others
