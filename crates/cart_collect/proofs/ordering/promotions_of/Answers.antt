use Rattle.std.proofs.Common.{◌≡◌, ◌∙◌, List, ap, subst, map, IfOk, refl}
use Rattle.shop_defs.specs.declared.entity.Entity.TheVariants as E
use Rattle.shop_defs.specs.declared.row.Row.{Row}
use Rattle.shop_operations.specs.References.{is_entity}
use Rattle.cart_price.specs.Lent.{lent_rows}
use Rattle.cart_collect.specs.Finding.{live_of}
use Rattle.cart_collect.specs.Looking.{in_rank, rows_at_ranks}
use Rattle.cart_collect.specs.Ranks.{promotion_rank}
use Rattle.cart_collect.proofs.Ranked.{ranked_rows, live_found}
use Rattle.cart_collect.proofs.ordering.promotions_of.Goals as goal

pub returns : goal.returns
returns c =
    let rows = c.args.rows.now.list in
    let ranks : c.as_slice-2.result.now ≡ in_rank (map promotion_rank (live_of rows E.Promotion)) =
    rw (c.as_slice-2.ensures.value, c.rank.ensures, c.in_ok-ranks.ensures, c.as_slice.ensures)
    (ap (λ (found : List Row). in_rank (map promotion_rank found)) c.in_ok-promotions.ensures) in
    let same = ap (rows_at_ranks rows) ranks
    ∙ ranked_rows promotion_rank (λ row. refl) rows (live_of rows E.Promotion)
    (live_found (λ row. is_entity row.key.entity E.Promotion) rows c.in_order.ensures) in
    subst (λ (found : List Row). IfOk c.rows_at_ranks.result (λ promotions. lent_rows promotions ≡ found)) same c.rows_at_ranks.ensures
