-- Where a tree of conditions holds, by a test of its leaves.
use Rattle.std.specs.Prelude.{◌≡◌, ℕ, zero, suc, Bool, false, not, List, [], ◌∷◌, map, length, Option, Some, None}
use Rattle.std.specs.List.{AllByRecursion, list_any, list_all}
use Rattle.shop_defs.specs.declared.row.Row.{Row}
use Rattle.trees.specs.declared.node.Join.{Join}
use Rattle.trees.specs.declared.node.Join.TheVariants as J
use Rattle.trees.specs.Nodes.{join_of, below}

abbrev pub itself : Bool → Bool
itself answer = answer

-- there is just one answer, and it is no
abbrev pub is_one_no : List Bool → Bool
is_one_no (answer ∷ []) = not answer
is_one_no answers = false

-- there is an answer, and all are yes
abbrev pub is_all_yes : List Bool → Bool
is_all_yes [] = false
is_all_yes (answer ∷ answers) = list_all itself (answer ∷ answers)

-- what a node that joins these answers gives
abbrev pub joined : Join → List Bool → Bool
joined J.And answers = list_all itself answers
joined J.Or answers = list_any itself answers
joined J.Not answers = is_one_no answers

-- what a node gives: a leaf by its test, and any other by the answers of the nodes just below it
abbrev pub by_kind : Option Join → Bool → List Bool → Bool
by_kind None met answers = met
by_kind (Some join) met answers = joined join answers

-- a node holds, by those below it on so many levels, itself the first
unfoldable pub holds : (Row → Bool) → List Row → ℕ → Row → Bool
holds test nodes zero node = false
holds test nodes (suc levels) node =
    by_kind (join_of node) (test node) (map (holds test nodes levels) (below nodes (Some node.key.id)))

-- what the nodes just below one give
abbrev pub answers : (Row → Bool) → List Row → ℕ → Option ℕ → List Bool
answers test nodes levels above = map (holds test nodes levels) (below nodes above)

-- the tree of these nodes holds: it has a root, and each root holds. No path down has more levels than there are nodes.
abbrev pub tree_holds : (Row → Bool) → List Row → Bool
tree_holds test nodes = is_all_yes (answers test nodes (length nodes) None)

-- ---- the same in words, without levels

-- The meaning gives each node what its kind, and the nodes just below it, say. There is none where nodes stand below one another
-- in a ring in which an odd number are `not`: no root is above such nodes.
pub record IsMeaning (test : Row → Bool) (nodes : List Row) (meaning : Row → Bool) : Type 0 where
  pub leaf : (node : Row) → join_of node ≡ None → meaning node ≡ test node
  pub all : (node : Row) → join_of node ≡ Some J.And → meaning node ≡ list_all meaning (below nodes (Some node.key.id))
  pub one : (node : Row) → join_of node ≡ Some J.Or → meaning node ≡ list_any meaning (below nodes (Some node.key.id))
  pub turned : (node : Row) → join_of node ≡ Some J.Not → meaning node ≡ is_one_no (map meaning (below nodes (Some node.key.id)))

-- The only root is a `not`, and one node is just below it.
pub record IsTurned (nodes : List Row) (root turned : Row) : Type 0 where
  pub roots : below nodes None ≡ root ∷ []
  pub kind : join_of root ≡ Some J.Not
  pub under : below nodes (Some root.key.id) ≡ turned ∷ []

-- the tests agree on the leaves among the nodes
abbrev pub AgreeOnLeaves : (Row → Bool) → (Row → Bool) → List Row → Type 0
AgreeOnLeaves test other nodes = AllByRecursion (λ node. join_of node ≡ None → test node ≡ other node) nodes
