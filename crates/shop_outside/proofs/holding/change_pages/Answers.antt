use Rattle.std.proofs.Common.{◌≡◌, length, arith, ◌∙◌}
use Rattle.paged.specs.Paged.{all_pairs}
use Rattle.shop_outside.proofs.InPages.{changed_in_pages, still_ascend, single_change, on_ok}
use Rattle.shop_outside.proofs.holding.change_pages.Goals as goal

pub returns-in-len1-clause-ok : goal.returns-in-len1-clause-ok
returns-in-len1-clause-ok c =
    let held = all_pairs c.args.pages.now in
    let one : length c.args.changes.now ≡ 1 = omega (arith, c.in-len1.len_at_least, c.in-len1.len_below) in
    on_ok c.change_one.result (λ list. changed_in_pages held c.args.changes.now (all_pairs c.change_one.new.pages) c.requires.order c.requires.keys (list ∙ single_change held c.args.changes.now c.change-item.result one c.change-item.is)) c.change_one.ensures.list

pub returns-in-len1-clause-order : goal.returns-in-len1-clause-order
returns-in-len1-clause-order c =
    let held = all_pairs c.args.pages.now in
    let one : length c.args.changes.now ≡ 1 = omega (arith, c.in-len1.len_at_least, c.in-len1.len_below) in
    on_ok c.change_one.result (λ list. still_ascend held c.args.changes.now (all_pairs c.change_one.new.pages) c.requires.order (list ∙ single_change held c.args.changes.now c.change-item.result one c.change-item.is)) c.change_one.ensures.list
