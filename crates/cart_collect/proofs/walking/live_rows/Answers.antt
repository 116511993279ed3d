use Rattle.std.proofs.Common.{◌≡◌, ◌∙◌, List, ◌++◌, ◌∷◌, Some, None, refl, sym, ap, append-nil}
use Rattle.shop_defs.specs.declared.key.Key.{Key}
use Rattle.shop_defs.specs.declared.row.Row.{Row}
use Rattle.cart_price.specs.Lent.{lent_rows}
use Rattle.cart_collect.specs.Finding.{live_key, live_of}
use Rattle.cart_collect.specs.Looking.{next_beside}
use Rattle.cart_collect.proofs.Walks.{behind, begins, begun, ends, goes_on, walked}
use Rattle.cart_collect.proofs.walking.live_rows.Goals as goal

pub loop-row-init : goal.loop-row-init
loop-row-init c = record {
  found = rw c.live_key-at.ensures (begun c.push_if_any.new.found.items c.new-found.result.items _ _ _ c.in_ok-push_if_any.ensures c.new-found.ensures.items (rw (c.get.ensures, c.live_key-at.ensures) (begins c.args.entity c.args.rows.now.list c.in_order.ensures)));
  from = rw c.live_key-at.ensures (record { of = refl; live = refl });
}

pub loop-row-smaller : goal.loop-row-smaller
loop-row-smaller c = (goes_on c.args.entity c.args.rows.now.list c.loop-row.at c.in-Some.row.now c.in_order.ensures c.loop-row.invariant.from (sym c.in-Some.ensures)).less

pub loop-row-preserved : goal.loop-row-preserved
loop-row-preserved c =
    let rows = c.args.rows.now.list in
    let more = goes_on c.args.entity rows c.loop-row.at c.in-Some.row.now c.in_order.ensures c.loop-row.invariant.from (sym c.in-Some.ensures) in
    record {
      found =
          rw c.in_ok-push.ensures.items
          (walked c.loop-row.found.items c.in-Some.row (live_of (behind c.in-Some.row.now.key rows) c.args.entity)
          ∙ (ap (λ (rest : List Row). lent_rows c.loop-row.found.items ++ rest) (sym more.more) ∙ c.loop-row.invariant.found));
      from = more.from;
    }

pub returns : goal.returns
returns c =
    let rows = c.args.rows.now.list in
    let none : next_beside rows c.loop-row.at ≡ None = sym c.in_default.ensures in
    rw c.from_vec.ensures (sym (append-nil (lent_rows c.loop-row.found.items))
    ∙ (ap (λ (rest : List Row). lent_rows c.loop-row.found.items ++ rest) (sym (ends c.args.entity rows c.loop-row.at c.in_order.ensures c.loop-row.invariant.from none)) ∙ c.loop-row.invariant.found))
