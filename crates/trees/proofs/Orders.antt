-- The order of the nodes doesn't matter.
use Rattle.std.proofs.Common.{◌≡◌, ℕ, zero, suc, ◌+◌, Bool, true, false, cond, not, ◌&&◌, List, [], ◌∷◌, map, filter, length, Option, Some, None, refl, sym, ap, ◌∙◌}
use Rattle.std.specs.Prelude.{count_by}
use Rattle.std.specs.List.Sorted.{IsPermutation}
use Rattle.std.proofs.lemmas.List.Sums.{sum_by-cons}
use Rattle.std.proofs.lemmas.List.Sorted.{sum_by-IsPermutation, length_permutation}
use Rattle.shop_defs.specs.declared.row.Row.{Row}
use Rattle.trees.specs.declared.node.Join.{Join}
use Rattle.trees.specs.Nodes.{join_of, below, is_below}
use Rattle.trees.specs.Holding.{by_kind, joined, holds, answers, is_all_yes, tree_holds, itself}
use Rattle.trees.specs.Counts.{counts, joined_by, all_yes_by}
use Rattle.trees.proofs.Counting.{joined-counts, all_yes-counts}

more : {X : Type 0} (p : X → Bool) (x : X) (xs : List X) → count_by p (x ∷ xs) ≡ cond (p x) 1 0 + count_by p xs
more p x xs = sum_by-cons (λ y. cond (p y) 1 0) x xs

-- a count of answers is one of nodes
counted : (f : Bool → Bool) (h p : Row → Bool) (nodes : List Row) → count_by f (map h (filter p nodes)) ≡ count_by (λ node. p node && f (h node)) nodes
counted f h p [] = refl
counted f h p (node ∷ nodes) = by (p node) refl (counted f h p nodes)
  where
    by : (b : Bool) → p node ≡ b → count_by f (map h (filter p nodes)) ≡ count_by (λ n. p n && f (h n)) nodes → count_by f (map h (filter p (node ∷ nodes))) ≡ count_by (λ n. p n && f (h n)) (node ∷ nodes)
    by true is rest =
        ap (λ (b : Bool). count_by f (map h (cond b (node ∷ filter p nodes) (filter p nodes)))) is
        ∙ (more f (h node) (map h (filter p nodes))
        ∙ (ap (λ (n : ℕ). cond (f (h node)) 1 0 + n) rest
        ∙ sym (more (λ n. p n && f (h n)) node nodes ∙ ap (λ (b : Bool). cond (b && f (h node)) 1 0 + count_by (λ n. p n && f (h n)) nodes) is)))
    by false is rest =
        ap (λ (b : Bool). count_by f (map h (cond b (node ∷ filter p nodes) (filter p nodes)))) is
        ∙ (rest ∙ sym (ap (λ (b : Bool). count_by (λ n. p n && f (h n)) (node ∷ nodes)) is ∙ skip is))
      where
        skip : p node ≡ false → count_by (λ n. p n && f (h n)) (node ∷ nodes) ≡ count_by (λ n. p n && f (h n)) nodes
        skip e = rw e refl

module _ (h p : Row → Bool) (xs ys : List Row) (moved : IsPermutation xs ys) where
  one_count : (f : Bool → Bool) → count_by f (map h (filter p ys)) ≡ count_by f (map h (filter p xs))
  one_count f = counted f h p ys ∙ (sum_by-IsPermutation (λ node. cond (p node && f (h node)) 1 0) xs ys moved ∙ sym (counted f h p xs))

  same_counts : counts (map h (filter p ys)) ≡ counts (map h (filter p xs))
  same_counts = λ i. record { yes = one_count itself i; no = one_count not i }

  same_joined : (join : Join) → joined join (map h (filter p ys)) ≡ joined join (map h (filter p xs))
  same_joined join = sym (joined-counts join (map h (filter p ys))) ∙ (ap (joined_by join) same_counts ∙ joined-counts join (map h (filter p xs)))

  same_all : is_all_yes (map h (filter p ys)) ≡ is_all_yes (map h (filter p xs))
  same_all = sym (all_yes-counts (map h (filter p ys))) ∙ (ap all_yes_by same_counts ∙ all_yes-counts (map h (filter p xs)))

  same_kind : (kind : Option Join) (met : Bool) → by_kind kind met (map h (filter p ys)) ≡ by_kind kind met (map h (filter p xs))
  same_kind None met = refl
  same_kind (Some join) met = same_joined join

module _ (test : Row → Bool) (xs ys : List Row) (moved : IsPermutation xs ys) where
  same_holds : (levels : ℕ) (node : Row) → holds test ys levels node ≡ holds test xs levels node
  unfolding holds
  same_holds zero node = refl
  same_holds (suc levels) node =
      ap (λ (h : Row → Bool). by_kind (join_of node) (test node) (map h (below ys (Some node.key.id)))) (λ i n. same_holds levels n i)
      ∙ same_kind (holds test xs levels) (is_below (Some node.key.id)) xs ys moved (join_of node) (test node)

  pub same_tree : tree_holds test xs ≡ tree_holds test ys
  same_tree = sym (
      ap (λ (n : ℕ). is_all_yes (answers test ys n None)) (length_permutation xs ys moved)
      ∙ (ap (λ (h : Row → Bool). is_all_yes (map h (below ys None))) (λ i n. same_holds (length xs) n i)
      ∙ same_all (holds test xs (length xs)) (is_below None) xs ys moved))
