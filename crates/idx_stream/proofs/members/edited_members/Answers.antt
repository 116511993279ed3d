use Rattle.idx_stream.proofs.Belonging.{edited_is}
use Rattle.idx_stream.proofs.members.edited_members.Goals as goal

pub returns : goal.returns
returns c = edited_is c.args.rows.now.list c.args.stream c.args.old.now c.args.products.now c.in_ok-tree.tree c.in_ok-found.found c.in_ok-tree.ensures c.in_ok-found.ensures.has c.in_ok-found.ensures.ascends
