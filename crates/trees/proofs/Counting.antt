-- What answers give, by how many of them are yes and how many no.
use Rattle.std.proofs.Common.{◌≡◌, ℕ, ◌+◌, Bool, true, false, not, cond, ◌&&◌, ◌==◌, List, [], ◌∷◌, refl, sym, ap, ◌∙◌, arith}
use Rattle.std.specs.Prelude.{count_by, nat_lt}
use Rattle.std.specs.List.{list_any, list_all}
use Rattle.std.proofs.lemmas.Bool.Decides.{nat_tests}
use Rattle.std.proofs.lemmas.List.Sums.{sum_by-cons}
use Rattle.trees.specs.declared.node.Join.{Join}
use Rattle.trees.specs.declared.node.Join.TheVariants as J
use Rattle.trees.specs.Holding.{itself, is_one_no, is_all_yes, joined}
use Rattle.trees.specs.Counts.{counts, joined_by, all_yes_by}

-- ---- tests of numbers

more : (p : Bool → Bool) (x : Bool) (xs : List Bool) → count_by p (x ∷ xs) ≡ cond (p x) 1 0 + count_by p xs
more p x xs = sum_by-cons (λ y. cond (p y) 1 0) x xs

not_none : (n : ℕ) → (1 + n == 0) ≡ false
not_none n = grind (arith, nat_tests)

not_one : (n : ℕ) → (1 + (1 + n) == 1) ≡ false
not_one n = grind (arith, nat_tests)

some : (n : ℕ) → nat_lt 0 (1 + n) ≡ true
some n = grind (arith, nat_tests)

and_false : (b : Bool) → (b && false) ≡ false
and_false true = refl
and_false false = refl

-- ---- answers and their counts

all-counts : (answers : List Bool) → list_all itself answers ≡ (count_by not answers == 0)
all-counts [] = refl
all-counts (true ∷ answers) = all-counts answers
all-counts (false ∷ answers) = sym (ap (λ (n : ℕ). n == 0) (more not false answers) ∙ not_none (count_by not answers))

any-counts : (answers : List Bool) → list_any itself answers ≡ nat_lt 0 (count_by itself answers)
any-counts [] = refl
any-counts (true ∷ answers) = sym (ap (λ (n : ℕ). nat_lt 0 n) (more itself true answers) ∙ some (count_by itself answers))
any-counts (false ∷ answers) = any-counts answers

one_no-counts : (answers : List Bool) → is_one_no answers ≡ ((count_by itself answers == 0) && (count_by not answers == 1))
one_no-counts [] = refl
one_no-counts (true ∷ []) = refl
one_no-counts (false ∷ []) = refl
one_no-counts (true ∷ (other ∷ answers)) =
    sym (ap (λ (b : Bool). b && (count_by not (true ∷ (other ∷ answers)) == 1)) (ap (λ (n : ℕ). n == 0) (more itself true (other ∷ answers)) ∙ not_none (count_by itself (other ∷ answers))))
one_no-counts (false ∷ (true ∷ answers)) =
    sym (ap (λ (b : Bool). b && (count_by not (false ∷ (true ∷ answers)) == 1)) (ap (λ (n : ℕ). n == 0) (more itself true answers) ∙ not_none (count_by itself answers)))
one_no-counts (false ∷ (false ∷ answers)) =
    sym (ap (λ (b : Bool). (count_by itself (false ∷ (false ∷ answers)) == 0) && b)
    (ap (λ (n : ℕ). n == 1) (more not false (false ∷ answers) ∙ ap (λ (n : ℕ). 1 + n) (more not false answers)) ∙ not_one (count_by not answers)) ∙ and_false (count_by itself (false ∷ (false ∷ answers)) == 0))

pub joined-counts : (join : Join) (answers : List Bool) → joined_by join (counts answers) ≡ joined join answers
joined-counts J.And answers = sym (all-counts answers)
joined-counts J.Or answers = sym (any-counts answers)
joined-counts J.Not answers = sym (one_no-counts answers)

pub all_yes-counts : (answers : List Bool) → all_yes_by (counts answers) ≡ is_all_yes answers
all_yes-counts [] = refl
all_yes-counts (true ∷ answers) =
    ap (λ (b : Bool). b && (count_by not (true ∷ answers) == 0)) (ap (λ (n : ℕ). nat_lt 0 n) (more itself true answers) ∙ some (count_by itself answers)) ∙ sym (all-counts (true ∷ answers))
all_yes-counts (false ∷ answers) =
    ap (λ (b : Bool). nat_lt 0 (count_by itself (false ∷ answers)) && b) (ap (λ (n : ℕ). n == 0) (more not false answers) ∙ not_none (count_by not answers)) ∙ and_false (nat_lt 0 (count_by itself (false ∷ answers)))
