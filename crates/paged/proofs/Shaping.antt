-- The shape of one page more, and what all pages are.
use Rattle.std.proofs.Common.{◌≡◌, ℕ, ◌+◌, ◌-◌, ◌^◌, ◌≤◌, List, [], ◌∷◌, ◌++◌, length, map, take, get_or, zero, suc, ◌<◌, min, max, add-one, append_assoc, refl, sym, ap, ◌∙◌, arith, length-append}
use Rattle.std.specs.declared.cmp.Ordering.{Ordering}
use Rattle.std.specs.declared.sync.Arc.{Arc}
use Rattle.std.specs.Arc.{arc_value}
use Rattle.std.specs.List.{AllByRecursion}
use Rattle.std.proofs.lemmas.List.Sums.{fold-append}
use Rattle.paged.specs.Pairs.{value_of, pair_of}
use Rattle.paged.specs.Parts.{HasHead, HasMost, HasLeast, size_of, parts}
use Rattle.paged.specs.Paged.{all_pairs, IsPaged, AreChunks}
use Rattle.paged.specs.Sizes.{least_of, greatest_of}

counted : (n : ℕ) → min (min n (2 ^ 64 - 1) + 1) (2 ^ 64 - 1) ≡ min (n + 1) (2 ^ 64 - 1)
counted n = omega arith

pub counted_more : (p q size : ℕ) (sizes : List ℕ) → p ≡ min (length sizes) (2 ^ 64 - 1) → q ≡ min (p + 1) (2 ^ 64 - 1) → q ≡ min (length (sizes ++ size ∷ [])) (2 ^ 64 - 1)
counted_more p q size sizes e1 e2 = rw (e2, e1) (counted (length sizes) ∙ ap (λ (n : ℕ). min n (2 ^ 64 - 1)) (sym (length-append sizes (size ∷ []))))

pub least_more : (p l l2 size : ℕ) (sizes : List ℕ) → p ≡ min (length sizes) (2 ^ 64 - 1) → l ≡ least_of sizes → (p ≡ 0 → l2 ≡ size) → (1 ≤ p → l2 ≡ min l size) → l2 ≡ least_of (sizes ++ size ∷ [])
least_more p l l2 size [] e1 e2 first others = first e1
least_more p l l2 size (n ∷ ns) e1 e2 first others =
    let some : 1 ≤ p = omega arith in
    others some ∙ (ap (λ (k : ℕ). min k size) e2 ∙ sym (fold-append min n ns (size ∷ [])))

pub greatest_more : (m m2 size : ℕ) (sizes : List ℕ) → m ≡ greatest_of sizes → m2 ≡ max m size → m2 ≡ greatest_of (sizes ++ size ∷ [])
greatest_more m m2 size sizes e1 e2 = rw (e2, e1) (sym (fold-append max 0 sizes (size ∷ [])))

module _ {K V : Type 0} where
  pub sizes_are : (t : List (K × List (K × V))) → map size_of t ≡ map length (map value_of t)
  sizes_are [] = refl
  sizes_are (e ∷ t) = ap (λ (l : List ℕ). length e.1 ∷ l) (sizes_are t)

  flat : (t : List (K × List (K × V))) → all_pairs (map value_of t) ≡ parts t
  flat [] = refl
  flat (e ∷ t) = ap (λ (l : List (K × V)). e.1 ++ l) (flat t)

  filled : (t : List (K × List (K × V))) → AllByRecursion HasHead t → AllByRecursion (λ page. 1 ≤ length page) (map value_of t)
  filled [] heads = tt
  filled ((k, []) ∷ t) heads = absurd heads.0
  filled ((k, x ∷ xs) ∷ t) heads = (omega arith, filled t heads.1)

  most : (t : List (K × List (K × V))) → AllByRecursion HasMost t → AllByRecursion (λ page. length page ≤ 64) (map value_of t)
  most [] all = tt
  most (e ∷ t) all = (all.0, most t all.1)

  least : (t : List (K × List (K × V))) → AllByRecursion HasLeast t → AllByRecursion (λ page. 16 ≤ length page) (map value_of t)
  least [] all = tt
  least (e ∷ t) all = (all.0, least t all.1)

  as_many : (t : List (K × List (K × V))) → length (map value_of t) ≡ length t
  as_many [] = refl
  as_many (e ∷ t) = let more = as_many t in omega arith

  pub are_paged : (cmp : K → K → Ordering) (t : List (K × List (K × List (K × V)))) (pages : List (List (K × V))) → AreChunks cmp t → map value_of (parts t) ≡ pages → IsPaged cmp pages
  are_paged cmp t pages are view = rw (← view) (record {
    filled = filled (parts t) are.pages.heads;
    most = most (parts t) are.pages.sized.most;
    least = λ two. least (parts t) (are.pages.sized.least (rw (← as_many (parts t)) two));
    order = rw (flat (parts t)) are.pages.order;
  })

take_all : {X : Type 0} (i : ℕ) (xs : List X) → length xs ≤ i → take i xs ≡ xs
take_all zero [] l = refl
take_all (suc i) [] l = refl
take_all zero (x ∷ xs) l = absurd (omega arith)
take_all (suc i) (x ∷ xs) l = ap (λ (ys : List _). x ∷ ys) (take_all i xs (omega arith))

module _ {K V Z : Type 0} where
  taken : (i : ℕ) (ps : List (K × Arc (List (K × V)) Z)) (e : K × Arc (List (K × V)) Z) → i < length ps → e ≡ get_or ps i e → map size_of (map pair_of (take (suc i) ps)) ≡ map size_of (map pair_of (take i ps)) ++ length (arc_value e.1) ∷ []
  taken i [] e l is = absurd (omega arith)
  taken zero (x ∷ ps) e l is = rw is refl
  taken (suc i) (x ∷ ps) e l is = ap (λ (k : List ℕ). length (arc_value x.1) ∷ k) (taken i ps e (omega arith) is)

  -- the sizes with one page more
  pub sizes_next : (sizes : List ℕ) (ps : List (K × Arc (List (K × V)) Z)) (i : ℕ) (e : K × Arc (List (K × V)) Z) (p : List (K × V)) (n : ℕ) → i < length ps → e ≡ get_or ps i e → p ≡ arc_value e.1 → n ≡ length p → (sizes ++ map size_of (map pair_of (take i ps))) ++ n ∷ [] ≡ sizes ++ map size_of (map pair_of (take (i + 1) ps))
  sizes_next sizes ps i e p n l is page size =
      rw (add-one, size, page) (append_assoc sizes (map size_of (map pair_of (take i ps))) (length (arc_value e.1) ∷ []) ∙ ap (λ (k : List ℕ). sizes ++ k) (sym (taken i ps e l is)))

  -- all sizes
  pub sizes_all : (items : List (K × Arc (List (K × List (K × V))) Z)) (t : List (K × List (K × List (K × V)))) (pages : List (List (K × V))) (i : ℕ) → length items ≤ i → map pair_of items ≡ t → map value_of (parts t) ≡ pages → map size_of (parts (map pair_of (take i items))) ≡ map length pages
  sizes_all items t pages i l e view = rw (take_all i items l, e) (sizes_are (parts t) ∙ ap (λ (ps : List (List (K × V))). map length ps) view)
