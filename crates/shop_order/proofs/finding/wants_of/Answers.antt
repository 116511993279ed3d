use Rattle.std.proofs.Common.{◌≡◌, ◌∙◌, None, List, ◌++◌, refl, sym, ap, append-nil, subst}
use Rattle.std.specs.List.{filter_map}
use Rattle.shop_defs.specs.declared.row.Row.{Row}
use Rattle.shop_order.specs.declared.wants.Want.{Want}
use Rattle.shop_order.specs.Looking.{next_line}
use Rattle.shop_order.specs.Wants.{want_of, wants_of, AreFew}
use Rattle.shop_order.proofs.Lines.{begins, ends, goes_on, starts}
use Rattle.shop_order.proofs.Wanted.{few_wants, walked}
use Rattle.shop_order.proofs.finding.wants_of.Goals as goal

pub loop-row-init : goal.loop-row-init
loop-row-init c = record {
  found = rw (c.live_key-at.ensures, c.new-wants.ensures.items) (ap (filter_map want_of) (begins c.args.order c.args.rows.now.list c.requires.formed));
  from = rw c.live_key-at.ensures (starts c.args.order);
}

pub loop-row-smaller : goal.loop-row-smaller
loop-row-smaller c = (goes_on c.args.rows.now.list c.args.order c.loop-row.at c.in-Some.row.now c.in_order.ensures (sym c.in-Some.ensures)).less

pub loop-row-preserved : goal.loop-row-preserved
loop-row-preserved c =
    let rows = c.args.rows.now.list in
    let more = goes_on rows c.args.order c.loop-row.at c.in-Some.row.now c.in_order.ensures (sym c.in-Some.ensures) in
    record {
      found =
          rw (c.in_ok-push_if_any.ensures, c.want_of.ensures)
          (walked c.loop-row.wants.items (want_of c.in-Some.row.now) _ ∙ (ap (λ (rest : List Row). c.loop-row.wants.items ++ filter_map want_of rest) (sym more.more) ∙ c.loop-row.invariant.found));
      from = more.line;
    }

pub returns-clause-wants : goal.returns-clause-wants
returns-clause-wants c =
    let rows = c.args.rows.now.list in
    let none : next_line rows c.args.order c.loop-row.at ≡ None = sym c.in_default.ensures in
    sym (append-nil c.loop-row.wants.items)
    ∙ (ap (λ (rest : List Row). c.loop-row.wants.items ++ filter_map want_of rest) (sym (ends c.args.order c.loop-row.at rows c.in_order.ensures c.loop-row.invariant.from none)) ∙ c.loop-row.invariant.found)

pub returns-clause-few : goal.returns-clause-few
returns-clause-few c =
    let rows = c.args.rows.now.list in
    let none : next_line rows c.args.order c.loop-row.at ≡ None = sym c.in_default.ensures in
    let all : c.loop-row.wants.items ≡ wants_of rows c.args.order =
    sym (append-nil c.loop-row.wants.items)
    ∙ (ap (λ (rest : List Row). c.loop-row.wants.items ++ filter_map want_of rest) (sym (ends c.args.order c.loop-row.at rows c.in_order.ensures c.loop-row.invariant.from none)) ∙ c.loop-row.invariant.found) in
    subst AreFew (sym all) (few_wants rows c.args.order c.requires)
