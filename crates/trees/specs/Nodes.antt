-- Nodes of trees, as rows: the filters of a stream, or the conditions of a rule.
use Rattle.std.specs.Prelude.{ℕ, nat_eq, Bool, true, false, ◌==◌, List, map, filter, codes, if◌then◌else◌, Option, Some, None, option_and_then}
use Rattle.std.specs.List.{IsDistinct}
use Rattle.std.specs.Str.{bytes_eq}
use Rattle.shop_defs.specs.declared.entity.Entity.TheVariants as E
use Rattle.shop_defs.specs.declared.row.Row.{Row}
use Rattle.shop_defs.specs.declared.words.FieldName.TheVariants as N
use Rattle.row_fields.specs.Fields.{number_of, id_at, text_at}
use Rattle.trees.specs.declared.node.Join.{Join}
use Rattle.trees.specs.declared.node.Join.TheVariants as J

-- the node above, if there is one: conditions and filters name it in the same field
abbrev pub parent_of : Row → Option ℕ
parent_of node = id_at node (number_of E.RuleCondition N.Parent)

-- the join with that word
abbrev pub join_named : List ℕ → Option Join
join_named word =
    if bytes_eq word (codes "and") then Some J.And
    else if bytes_eq word (codes "or") then Some J.Or
    else if bytes_eq word (codes "not") then Some J.Not
    else None

-- the join whose word the field of that number holds
abbrev pub join_at : ℕ → Row → Option Join
join_at field node = option_and_then join_named (text_at node field)

-- how a node joins those below it, by the word of its kind: any other is a leaf
abbrev pub join_of : Row → Option Join
join_of node = join_at (number_of E.RuleCondition N.Kind) node

-- both are none, or the same
abbrev pub is_same : Option ℕ → Option ℕ → Bool
is_same None None = true
is_same (Some a) (Some b) = a == b
is_same a b = false

-- the node stands just below the one with that id: below none, it is a root
abbrev pub is_below : Option ℕ → Row → Bool
is_below above node = is_same (parent_of node) above

-- the nodes just below the one with that id
abbrev pub below : List Row → Option ℕ → List Row
below nodes above = filter (is_below above) nodes

-- no two nodes have one id
abbrev pub HaveOwnIds : List Row → Type 0
HaveOwnIds nodes = IsDistinct nat_eq (map (λ node. node.key.id) nodes)
