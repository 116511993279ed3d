-- A node that joins others, on one level and more.
use Rattle.std.proofs.Common.{◌≡◌, ℕ, zero, suc, ◌-◌, ◌<◌, Bool, List, map, Option, Some, ap, arith}
use Rattle.shop_defs.specs.declared.row.Row.{Row}
use Rattle.trees.specs.declared.node.Join.{Join}
use Rattle.trees.specs.Nodes.{join_of, below}
use Rattle.trees.specs.Holding.{by_kind, joined, holds, answers}

pub joins : (test : Row → Bool) (nodes : List Row) (levels : ℕ) (node : Row) (join : Join) → 0 < levels → Some join ≡ join_of node → joined join (answers test nodes (levels - 1) (Some node.key.id)) ≡ holds test nodes levels node
unfolding holds
joins test nodes zero node join some is = absurd (omega arith)
joins test nodes (suc levels) node join some is =
    let back : suc levels - 1 ≡ levels = omega arith in
    rw back (ap (λ (kind : Option Join). by_kind kind (test node) (map (holds test nodes levels) (below nodes (Some node.key.id)))) is)
