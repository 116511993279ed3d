-- Whatever gives each node what its kind and the nodes just below it say, gives what the tree holds.
use Rattle.std.proofs.Common.{◌≡◌, ℕ, zero, suc, ◌+◌, ◌≤◌, Bool, true, false, ◌&&◌, ◌||◌, ◌==◌, cond, List, [], ◌∷◌, map, find, length, Option, Some, None, refl, sym, ap, subst, ◌∙◌, nat_eq, eq-eqb, arith}
use Rattle.std.specs.Prelude.{option_and_then}
use Rattle.std.specs.Cmp.{nat_eq_equiv}
use Rattle.std.specs.List.{AllByRecursion, IsDistinct, list_any, list_all}
use Rattle.std.specs.Set.{is_member}
use Rattle.std.proofs.lemmas.Bool.{eqb-true}
use Rattle.std.proofs.lemmas.Map.Made.{length-le_from_is_member}
use Rattle.shop_defs.specs.declared.row.Row.{Row}
use Rattle.trees.specs.declared.node.Join.{Join}
use Rattle.trees.specs.declared.node.Join.TheVariants as J
use Rattle.trees.specs.Nodes.{parent_of, join_of, is_below, below, HaveOwnIds}
use Rattle.trees.specs.Holding.{itself, is_all_yes, by_kind, holds, tree_holds, IsMeaning}
use Rattle.trees.proofs.Leaves.{map-same, each, part}

abbrev ids : List Row → List ℕ
ids nodes = map (λ node. node.key.id) nodes

abbrev has : List ℕ → ℕ → Bool
has xs q = is_member nat_eq xs q

or_true : (a b : Bool) → b ≡ true → (a || b) ≡ true
or_true true b e = refl
or_true false b e = e

either : (a b : Bool) → (a || b) ≡ true → a ≡ false → b ≡ true
either true b e f = absurd (cc)
either false b e f = e

-- ---- an id's parent

-- the parent that the first node with the id names
abbrev parent_by : List Row → ℕ → Option ℕ
parent_by nodes id = option_and_then parent_of (find (λ node. node.key.id == id) nodes)

-- what is told apart from the first isn't it
apart : (id : ℕ) (nodes : List Row) → AllByRecursion (λ other. nat_eq id other ≡ false) (ids nodes) → AllByRecursion (λ node. nat_eq id node.key.id ≡ false) nodes
apart id [] all = tt
apart id (node ∷ nodes) all = (all.0, apart id nodes all.1)

both_of : (P Q : Row → Type 0) (nodes : List Row) → AllByRecursion P nodes → AllByRecursion Q nodes → AllByRecursion (λ node. P node × Q node) nodes
both_of P Q [] ps qs = tt
both_of P Q (node ∷ nodes) ps qs = ((ps.0, qs.0), both_of P Q nodes ps.1 qs.1)

found : (nodes : List Row) → HaveOwnIds nodes → AllByRecursion (λ node. find (λ other. other.key.id == node.key.id) nodes ≡ Some node) nodes
unfolding IsDistinct
found [] own = tt
found (first ∷ nodes) own = (
  ap (λ (b : Bool). cond b (Some first) (find (λ other. other.key.id == first.key.id) nodes)) (eq-eqb first.key.id first.key.id refl),
  each (λ node. (find (λ other. other.key.id == node.key.id) nodes ≡ Some node) × (nat_eq first.key.id node.key.id ≡ false)) (λ node. find (λ other. other.key.id == node.key.id) (first ∷ nodes) ≡ Some node)
      (λ node both. ap (λ (b : Bool). cond b (Some first) (find (λ other. other.key.id == node.key.id) nodes)) both.1 ∙ both.0) nodes
      (both_of (λ node. find (λ other. other.key.id == node.key.id) nodes ≡ Some node) (λ node. nat_eq first.key.id node.key.id ≡ false) nodes (found nodes own.1) (apart first.key.id nodes own.0)),
)

inside : (nodes : List Row) → AllByRecursion (λ node. has (ids nodes) node.key.id ≡ true) nodes
inside [] = tt
inside (first ∷ nodes) = (
  ap (λ (b : Bool). b || has (ids nodes) first.key.id) (eq-eqb first.key.id first.key.id refl),
  each (λ node. has (ids nodes) node.key.id ≡ true) (λ node. has (ids (first ∷ nodes)) node.key.id ≡ true) (λ node e. or_true (nat_eq node.key.id first.key.id) (has (ids nodes) node.key.id) e) nodes (inside nodes),
)

-- ---- paths up, from an id to a root

abbrev IsPath : (ℕ → Option ℕ) → List ℕ → Type 0
IsPath parent [] = ⊥
IsPath parent (id ∷ []) = parent id ≡ None
IsPath parent (id ∷ (up ∷ path)) = (parent id ≡ Some up) × IsPath parent (up ∷ path)

abbrev rest : List ℕ → List ℕ
rest [] = []
rest (id ∷ path) = path

-- the parent of what is on a path stands above the first
up_again : (parent : ℕ → Option ℕ) (path : List ℕ) (p up : ℕ) → IsPath parent path → has path p ≡ true → parent p ≡ Some up → has (rest path) up ≡ true
up_again parent [] p up is on of = absurd is
up_again parent (id ∷ []) p up is on of = by (nat_eq p id) refl
  where
    by : (b : Bool) → nat_eq p id ≡ b → has [] up ≡ true
    by true e = let same : p ≡ id = eqb-true p id e in let none : parent p ≡ None = subst (λ (k : ℕ). parent k ≡ None) (sym same) is in absurd (cc)
    by false e = absurd (let no : has [] p ≡ true = either (nat_eq p id) (has [] p) on e in cc)
up_again parent (id ∷ (next ∷ path)) p up is on of = by (λ later. up_again parent (next ∷ path) p up is.1 later of) (nat_eq p id) refl
  where
    by : (has (next ∷ path) p ≡ true → has path up ≡ true) → (b : Bool) → nat_eq p id ≡ b → has (next ∷ path) up ≡ true
    by more true e =
        let same : p ≡ id = eqb-true p id e in
        let next_is : up ≡ next = let f = is.0 in let g = ap parent same in cc in
        ap (λ (b : Bool). b || has path up) (eq-eqb up next next_is)
    by more false e = or_true (nat_eq up next) (has path up) (more (either (nat_eq p id) (has (next ∷ path) p) on e))

-- what isn't on a path is told apart from all on it
none_on : (path : List ℕ) (id : ℕ) → has path id ≡ false → AllByRecursion (λ other. nat_eq id other ≡ false) path
none_on [] id off = tt
none_on (other ∷ path) id off = (first (nat_eq id other) (has path id) off, none_on path id (later (nat_eq id other) (has path id) off))
  where
    later : (a b : Bool) → (a || b) ≡ false → b ≡ false
    later true b e = absurd (cc)
    later false b e = e

    first : (a b : Bool) → (a || b) ≡ false → a ≡ false
    first true b e = absurd (cc)
    first false b e = refl

off_from : (path : List ℕ) (id : ℕ) → AllByRecursion (λ other. nat_eq id other ≡ false) path → has path id ≡ true → ⊥
off_from [] id all on = cc
off_from (other ∷ path) id all on = off_from path id all.1 (either (nat_eq id other) (has path id) on all.0)

record IsGood (nodes : List Row) (path : List ℕ) : Type 0 where
  pub up : IsPath (parent_by nodes) path
  pub once : IsDistinct nat_eq path
  pub within : (q : ℕ) → has path q ≡ true → has (ids nodes) q ≡ true

length-ids : (nodes : List Row) → length (ids nodes) ≡ length nodes
length-ids [] = refl
length-ids (node ∷ nodes) = ap suc (length-ids nodes)

short : (nodes : List Row) (path : List ℕ) → IsGood nodes path → length path ≤ length nodes
short nodes path good = subst (λ (n : ℕ). length path ≤ n) (length-ids nodes) (length-le_from_is_member nat_eq_equiv path (ids nodes) good.once good.within)

-- a node just below the first of a path goes on it
longer : (nodes : List Row) (id : ℕ) (path : List ℕ) (below_it : ℕ) → IsGood nodes (id ∷ path) → parent_by nodes below_it ≡ Some id → has (ids nodes) below_it ≡ true → IsGood nodes (below_it ∷ (id ∷ path))
unfolding IsDistinct
longer nodes id path below_it good of «in» = record {
  up = (of, good.up);
  once = (none_on (id ∷ path) below_it (off (has (id ∷ path) below_it) refl), good.once);
  within = λ q on. by q on (nat_eq q below_it) refl;
}
  where
    off : (b : Bool) → has (id ∷ path) below_it ≡ b → has (id ∷ path) below_it ≡ false
    off true e = absurd (off_from path id good.once.0 (up_again (parent_by nodes) (id ∷ path) below_it id good.up e of))
    off false e = e

    by : (q : ℕ) → has (below_it ∷ (id ∷ path)) q ≡ true → (b : Bool) → nat_eq q below_it ≡ b → has (ids nodes) q ≡ true
    by q on true e = subst (λ (k : ℕ). has (ids nodes) k ≡ true) (sym (eqb-true q below_it e)) «in»
    by q on false e = good.within q (either (nat_eq q below_it) (has (id ∷ path) q) on e)

-- ---- meanings

all-map : (f : Row → Bool) (nodes : List Row) → list_all itself (map f nodes) ≡ list_all f nodes
all-map f [] = refl
all-map f (node ∷ nodes) = ap (λ (b : Bool). f node && b) (all-map f nodes)

any-map : (f : Row → Bool) (nodes : List Row) → list_any itself (map f nodes) ≡ list_any f nodes
any-map f [] = refl
any-map f (node ∷ nodes) = ap (λ (b : Bool). f node || b) (any-map f nodes)

below_some : (node : Row) (id : ℕ) → is_below (Some id) node ≡ true → parent_of node ≡ Some id
below_some node id e = by (parent_of node) refl
  where
    by : (o : Option ℕ) → parent_of node ≡ o → parent_of node ≡ Some id
    by None f = absurd (let g = rw f at e in cc)
    by (Some up) f = f ∙ ap (λ (k : ℕ). Some k) (eqb-true up id (rw f at e))

below_none : (node : Row) → is_below None node ≡ true → parent_of node ≡ None
below_none node e = by (parent_of node) refl
  where
    by : (o : Option ℕ) → parent_of node ≡ o → parent_of node ≡ None
    by None f = f
    by (Some up) f = absurd (let g = rw f at e in cc)

module _ (test : Row → Bool) (nodes : List Row) (own : HaveOwnIds nodes) (meaning : Row → Bool) (is : IsMeaning test nodes meaning) where
  -- a node's parent is that of its id, and its id is among those of the nodes
  abbrev IsListed : Row → Type 0
  IsListed node = (parent_by nodes node.key.id ≡ parent_of node) × (has (ids nodes) node.key.id ≡ true)

  listed : AllByRecursion IsListed nodes
  listed = both_of (λ node. parent_by nodes node.key.id ≡ parent_of node) (λ node. has (ids nodes) node.key.id ≡ true) nodes
      (each (λ node. find (λ other. other.key.id == node.key.id) nodes ≡ Some node) (λ node. parent_by nodes node.key.id ≡ parent_of node) (λ node e. ap (option_and_then parent_of) e) nodes (found nodes own)) (inside nodes)

  by_meaning : (node : Row) → by_kind (join_of node) (test node) (map meaning (below nodes (Some node.key.id))) ≡ meaning node
  by_meaning node = by (join_of node) refl
    where
      at : Option Join → Bool
      at kind = by_kind kind (test node) (map meaning (below nodes (Some node.key.id)))

      by : (kind : Option Join) → join_of node ≡ kind → by_kind (join_of node) (test node) (map meaning (below nodes (Some node.key.id))) ≡ meaning node
      by None e = rw e (sym (is.leaf node e))
      by (Some J.And) e = rw e (all-map meaning (below nodes (Some node.key.id)) ∙ sym (is.all node e))
      by (Some J.Or) e = rw e (any-map meaning (below nodes (Some node.key.id)) ∙ sym (is.one node e))
      by (Some J.Not) e = rw e (sym (is.turned node e))

  follows : (levels : ℕ) (node : Row) (path : List ℕ) → IsGood nodes (node.key.id ∷ path) → length nodes + 1 ≤ levels + length (node.key.id ∷ path) → holds test nodes levels node ≡ meaning node
  unfolding holds
  follows zero node path good enough = absurd (let few = short nodes (node.key.id ∷ path) good in omega arith)
  follows (suc levels) node path good enough =
      ap (by_kind (join_of node) (test node)) (map-same (holds test nodes levels) meaning (below nodes (Some node.key.id))
      (each (λ n. IsListed n × (is_below (Some node.key.id) n ≡ true)) (λ n. holds test nodes levels n ≡ meaning n)
      (λ n both. follows levels n (node.key.id ∷ path) (longer nodes node.key.id path n.key.id good (both.0.0 ∙ below_some n node.key.id both.1) both.0.1) (omega arith))
      (below nodes (Some node.key.id)) (part IsListed (is_below (Some node.key.id)) nodes listed)))
      ∙ by_meaning node

  root_good : (node : Row) → IsListed node → parent_of node ≡ None → IsGood nodes (node.key.id ∷ [])
  unfolding IsDistinct
  root_good node one none = record {
    up = one.0 ∙ none;
    once = (tt, tt);
    within = λ q on. by q on (nat_eq q node.key.id) refl;
  }
    where
      by : (q : ℕ) → has (node.key.id ∷ []) q ≡ true → (b : Bool) → nat_eq q node.key.id ≡ b → has (ids nodes) q ≡ true
      by q on true e = subst (λ (k : ℕ). has (ids nodes) k ≡ true) (sym (eqb-true q node.key.id e)) one.1
      by q on false e = absurd (let no = either (nat_eq q node.key.id) (has [] q) on e in cc)

  pub tree_means : tree_holds test nodes ≡ is_all_yes (map meaning (below nodes None))
  tree_means =
      ap is_all_yes (map-same (holds test nodes (length nodes)) meaning (below nodes None)
      (each (λ n. IsListed n × (is_below None n ≡ true)) (λ n. holds test nodes (length nodes) n ≡ meaning n)
      (λ n both. follows (length nodes) n [] (root_good n both.0 (below_none n both.1)) (omega arith))
      (below nodes None) (part IsListed (is_below None) nodes listed)))
