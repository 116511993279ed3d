use Rattle.std.proofs.Common.{◌∙◌, sym, ap, Some}
use Rattle.idx_listing.proofs.Relisted.{found_list}
use Rattle.idx_listing.proofs.Ways.{not_linked}
use Rattle.idx_listing.proofs.lists.find_listed.Goals as goal

pub returns : goal.returns
returns c =
    ap Some c.unwrap_or.ensures
    ∙ found_list c.args.rows.now.list c.requires c.args.category c.in_ok-products.products c.in_ok-found.found c.none-none.result c.none-none.ensures (sym c.if-is_missing.ensures)
    (λ id off. not_linked c.args.rows.now.list c.requires c.args.category id (sym (c.in_ok-products.ensures id) ∙ off)) c.in_ok-found.ensures
