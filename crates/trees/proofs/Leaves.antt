-- Tests that agree on the leaves give one answer; and a `not` turns what is below it.
use Rattle.std.proofs.Common.{◌≡◌, ℕ, zero, suc, ◌-◌, Bool, true, false, not, ◌&&◌, List, [], ◌∷◌, map, filter, length, Option, Some, None, refl, sym, ap, ◌∙◌, arith}
use Rattle.std.specs.List.{AllByRecursion}
use Rattle.shop_defs.specs.declared.row.Row.{Row}
use Rattle.trees.specs.declared.node.Join.{Join}
use Rattle.trees.specs.Nodes.{join_of, below, is_below}
use Rattle.trees.specs.Holding.{by_kind, joined, holds, answers, is_all_yes, tree_holds, AgreeOnLeaves, IsTurned}

-- ---- lists

pub map-same : (f g : Row → Bool) (nodes : List Row) → AllByRecursion (λ node. f node ≡ g node) nodes → map f nodes ≡ map g nodes
map-same f g [] all = refl
map-same f g (node ∷ nodes) all = λ i. all.0 i ∷ map-same f g nodes all.1 i

pub each : (P Q : Row → Type 0) → ((node : Row) → P node → Q node) → (nodes : List Row) → AllByRecursion P nodes → AllByRecursion Q nodes
each P Q from [] all = tt
each P Q from (node ∷ nodes) all = (from node all.0, each P Q from nodes all.1)

-- what holds of all holds of a part, with the test of the part
pub part : (P : Row → Type 0) (test : Row → Bool) (nodes : List Row) → AllByRecursion P nodes → AllByRecursion (λ node. P node × (test node ≡ true)) (filter test nodes)
part P test [] all = tt
part P test (node ∷ nodes) all = by (test node) refl (part P test nodes all.1)
  where
    by : (b : Bool) → test node ≡ b → AllByRecursion (λ n. P n × (test n ≡ true)) (filter test nodes) → AllByRecursion (λ n. P n × (test n ≡ true)) (filter test (node ∷ nodes))
    by true is rest = rw is ((all.0, is), rest)
    by false is rest = rw is rest

-- ---- tests that agree

module _ (test other : Row → Bool) (nodes : List Row) (agree : AgreeOnLeaves test other nodes) where
  abbrev Agrees : Row → Type 0
  Agrees node = join_of node ≡ None → test node ≡ other node

  same_holds : (levels : ℕ) (node : Row) → Agrees node → holds test nodes levels node ≡ holds other nodes levels node
  unfolding holds
  same_holds zero node agrees = refl
  same_holds (suc levels) node agrees =
      by
      (map-same (holds test nodes levels) (holds other nodes levels) (below nodes (Some node.key.id))
      (each (λ n. Agrees n × (is_below (Some node.key.id) n ≡ true)) (λ n. holds test nodes levels n ≡ holds other nodes levels n) (λ n both. same_holds levels n both.0) (below nodes (Some node.key.id)) (part Agrees (is_below (Some node.key.id)) nodes agree)))
      (join_of node) refl
    where
      by : answers test nodes levels (Some node.key.id) ≡ answers other nodes levels (Some node.key.id) → (kind : Option Join) → join_of node ≡ kind
          → by_kind (join_of node) (test node) (answers test nodes levels (Some node.key.id)) ≡ by_kind (join_of node) (other node) (answers other nodes levels (Some node.key.id))
      by same None is = rw is (agrees is)
      by same (Some join) is = rw is (ap (joined join) same)

  pub same_tree : tree_holds test nodes ≡ tree_holds other nodes
  same_tree =
      ap is_all_yes (map-same (holds test nodes (length nodes)) (holds other nodes (length nodes)) (below nodes None)
      (each (λ n. Agrees n × (is_below None n ≡ true)) (λ n. holds test nodes (length nodes) n ≡ holds other nodes (length nodes) n) (λ n both. same_holds (length nodes) n both.0) (below nodes None) (part Agrees (is_below None) nodes agree)))

-- ---- a `not`

and_true : (b : Bool) → (b && true) ≡ b
and_true true = refl
and_true false = refl

at_not : (test : Row → Bool) (nodes : List Row) (levels : ℕ) (root turned : Row) → IsTurned nodes root turned → holds test nodes (suc levels) root ≡ not (holds test nodes levels turned)
unfolding holds
at_not test nodes levels root turned is = rw (is.kind, is.under) refl

pub turned_tree : (test : Row → Bool) (nodes : List Row) (root turned : Row) → IsTurned nodes root turned → tree_holds test nodes ≡ not (holds test nodes (length nodes - 1) turned)
turned_tree test [] root turned is = let no = is.roots in absurd (cc)
turned_tree test (node ∷ nodes) root turned is =
    let back : length (node ∷ nodes) - 1 ≡ length nodes = omega arith in
    ap (λ (roots : List Row). is_all_yes (map (holds test (node ∷ nodes) (length (node ∷ nodes))) roots)) is.roots
    ∙ (and_true (holds test (node ∷ nodes) (suc (length nodes)) root)
    ∙ (at_not test (node ∷ nodes) (length nodes) root turned is
    ∙ sym (ap (λ (n : ℕ). not (holds test (node ∷ nodes) n turned)) back)))
