use Rattle.std.proofs.Common.{◌∙◌, sym, ap, Some}
use Rattle.idx_stream.proofs.Belonging.{found_from}
use Rattle.idx_stream.proofs.members.find_members.Goals as goal

pub returns : goal.returns
returns c =
    ap Some c.unwrap_or.ensures
    ∙ found_from c.args.rows.now.list c.requires c.args.stream c.in_ok-products.products c.in_ok-found.found c.none-none.result c.none-none.ensures (sym c.if-is_missing.ensures) c.in_ok-products.ensures c.in_ok-found.ensures
