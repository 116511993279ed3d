use Rattle.shop_rules.proofs.Referring.{conditions_found}
use Rattle.shop_rules.proofs.reading.read_tree.Goals as goal

pub returns : goal.returns
returns c =
    rw (c.from_nodes.ensures, c.from_vec.ensures, c.in_ok-nodes.ensures, c.as_slice.ensures, c.in_ok-keys.ensures.keys, c.rule_key.ensures)
    (conditions_found c.args.rows.now.list c.args.rule c.len-all.ensures.order)
