-- Ranks that are sorted, each once, give the rows in the order of their ranks.
use Rattle.std.proofs.Common.{◌≡◌, suc, ◌≤◌, ℤ, Bool, true, false, ◌||◌, List, [], ◌∷◌, length, map, filter, Some, refl, sym, ap, subst, ◌∙◌, arith}
use Rattle.std.specs.declared.cmp.Ordering.{Ordering}
use Rattle.std.specs.declared.cmp.Ordering.TheVariants.{Less, Equal, Greater}
use Rattle.std.specs.List.{AllByRecursion}
use Rattle.std.specs.Ordering.{MatchOrdering, is_eq, int_cmp, ordering_then, ordering_reverse}
use Rattle.std.proofs.lemmas.Cmp.{int_ranked}
use lib.Signed.{◌<ℤ◌}
use Rattle.keyed.specs.Keyed.{Ascends, put}
use Rattle.keyed.proofs.Changes.{ascends_put}
use Rattle.shop_defs.specs.declared.key.Key.{Key}
use Rattle.shop_defs.specs.declared.row.Row.{Row}
use Rattle.shop_defs.specs.Keys.{key_cmp}
use Rattle.shop_defs.specs.Rows.{row_at, IsInKeyOrder}
use Rattle.shop_defs.proofs.Keys.{key_cmp_total}
use Rattle.shop_operations.specs.References.{is_live}
use Rattle.shop_rows.proofs.Same.{both_equal, key_is, itself_equal}
use Rattle.shop_rows.proofs.SameLists.{holds}
use Rattle.cart_collect.specs.declared.ranks.Rank.{Rank}
use Rattle.cart_collect.specs.Ranks.{rank_cmp, in_order}
use Rattle.cart_collect.specs.RankOrder.{rank_cmp_total}
use Rattle.cart_collect.specs.Looking.{its, in_rank, rows_at_ranks}

int_is : (a b : ℤ) → int_cmp a b ≡ Equal → a ≡ b
int_is a b e = let P : Ordering → Type 0 = λ o. MatchOrdering o (a <ℤ b) (a ≡ b) (b <ℤ a) in subst P e (int_ranked a b (int_cmp a b) refl)

-- ranks that tie are one
pub rank_is : (a b : Rank) → rank_cmp a b ≡ Equal → a ≡ b
rank_is a b e =
    let one = both_equal (int_cmp a.position b.position) (ordering_then (int_cmp b.priority a.priority) (key_cmp a.key b.key)) e in
    let two = both_equal (int_cmp b.priority a.priority) (key_cmp a.key b.key) one.second in
    let position : a.position ≡ b.position = int_is _ _ one.first in
    let priority : a.priority ≡ b.priority = sym (int_is _ _ two.first) in
    let key : a.key ≡ b.key = key_is _ _ two.second in
    λ i. record { position = position i; priority = priority i; key = key i }

abbrev held : List Rank → Rank → Bool
held ranks q = holds rank_cmp rank_cmp_total rank_is ranks q

swapped : (a b c : Bool) → (a || (b || c)) ≡ (b || (a || c))
swapped true true c = refl
swapped true false c = refl
swapped false true c = refl
swapped false false c = refl

twice : (a b c : Bool) → a ≡ b → (b || c) ≡ (b || (a || c))
twice true true c e = refl
twice true false c e = absurd (cc)
twice false true c e = absurd (cc)
twice false false c e = refl

held-put : (ranks : List Rank) (rank q : Rank) → held (put rank_cmp its ranks rank) q ≡ (is_eq (rank_cmp rank q) || held ranks q)
held-put [] rank q = refl
held-put (first ∷ ranks) rank q = by (held-put ranks rank q) (rank_cmp first rank) refl
  where
    by : held (put rank_cmp its ranks rank) q ≡ (is_eq (rank_cmp rank q) || held ranks q) → (o : Ordering) → rank_cmp first rank ≡ o → held (put rank_cmp its (first ∷ ranks) rank) q ≡ (is_eq (rank_cmp rank q) || held (first ∷ ranks) q)
    by more Less e = rw e (ap (λ (b : Bool). is_eq (rank_cmp first q) || b) more ∙ swapped (is_eq (rank_cmp first q)) (is_eq (rank_cmp rank q)) (held ranks q))
    by more Equal e = rw e (twice (is_eq (rank_cmp first q)) (is_eq (rank_cmp rank q)) (held ranks q) (ap is_eq (rank_cmp_total.congr first rank q e)))
    by more Greater e = rw e refl

pub in_rank-held : (ranks : List Rank) (q : Rank) → held (in_rank ranks) q ≡ held ranks q
in_rank-held [] q = refl
in_rank-held (rank ∷ ranks) q = held-put (in_rank ranks) rank q ∙ ap (λ (b : Bool). is_eq (rank_cmp rank q) || b) (in_rank-held ranks q)

pub in_rank-ascends : (ranks : List Rank) → Ascends rank_cmp its (in_rank ranks)
in_rank-ascends [] = tt
in_rank-ascends (rank ∷ ranks) = ascends_put rank_cmp its rank_cmp_total (in_rank ranks) rank (in_rank-ascends ranks)

-- ---- rows by their ranks

module _ (rank : Row → Rank) (keyed : (row : Row) → (rank row).key ≡ row.key) where
  put-map : (rows : List Row) (row : Row) → put rank_cmp its (map rank rows) (rank row) ≡ map rank (put rank_cmp rank rows row)
  put-map [] row = refl
  put-map (first ∷ rows) row = by (put-map rows row) (rank_cmp (rank first) (rank row)) refl
    where
      by : put rank_cmp its (map rank rows) (rank row) ≡ map rank (put rank_cmp rank rows row) → (o : Ordering) → rank_cmp (rank first) (rank row) ≡ o → put rank_cmp its (map rank (first ∷ rows)) (rank row) ≡ map rank (put rank_cmp rank (first ∷ rows) row)
      by more Less e = rw e (ap (λ (ranks : List Rank). rank first ∷ ranks) more)
      by more Equal e = rw e refl
      by more Greater e = rw e refl

  in_rank-map : (rows : List Row) → in_rank (map rank rows) ≡ map rank (in_order rank rows)
  in_rank-map [] = refl
  in_rank-map (row ∷ rows) = ap (λ (ranks : List Rank). put rank_cmp its ranks (rank row)) (in_rank-map rows) ∙ put-map (in_order rank rows) row

  all-put : (P : Row → Type 0) (rows : List Row) (row : Row) → AllByRecursion P rows → P row → AllByRecursion P (put rank_cmp rank rows row)
  all-put P [] row all one = (one, tt)
  all-put P (first ∷ rows) row all one = by (all-put P rows row all.1 one) (rank_cmp (rank first) (rank row)) refl
    where
      by : AllByRecursion P (put rank_cmp rank rows row) → (o : Ordering) → rank_cmp (rank first) (rank row) ≡ o → AllByRecursion P (put rank_cmp rank (first ∷ rows) row)
      by more Less e = rw e (all.0, more)
      by more Equal e = rw e (one, all.1)
      by more Greater e = rw e (one, all)

  pub all-order : (P : Row → Type 0) (rows : List Row) → AllByRecursion P rows → AllByRecursion P (in_order rank rows)
  all-order P [] all = tt
  all-order P (row ∷ rows) all = all-put P (in_order rank rows) row (all-order P rows all.1) all.0

  rows-again : (whole rows : List Row) → AllByRecursion (λ row. row_at whole row.key ≡ Some row) rows → rows_at_ranks whole (map rank rows) ≡ rows
  rows-again whole [] all = refl
  rows-again whole (row ∷ rows) all = let e : row_at whole (rank row).key ≡ Some row = ap (row_at whole) (keyed row) ∙ all.0 in rw e (ap (λ (others : List Row). row ∷ others) (rows-again whole rows all.1))

  pub order-ascends : (rows : List Row) → Ascends rank_cmp rank (in_order rank rows)
  order-ascends [] = tt
  order-ascends (row ∷ rows) = ascends_put rank_cmp rank rank_cmp_total (in_order rank rows) row (order-ascends rows)

  pub ranked_rows : (whole rows : List Row) → AllByRecursion (λ row. row_at whole row.key ≡ Some row) rows → rows_at_ranks whole (in_rank (map rank rows)) ≡ in_order rank rows
  ranked_rows whole rows all =
      ap (rows_at_ranks whole) (in_rank-map rows) ∙ rows-again whole (in_order rank rows) (all-order (λ row. row_at whole row.key ≡ Some row) rows all)

-- ---- each row is found at its key

later : (row : Row) (rows some : List Row) → AllByRecursion (λ other. key_cmp row.key other.key ≡ Less) some → AllByRecursion (λ other. row_at rows other.key ≡ Some other) some → AllByRecursion (λ other. row_at (row ∷ rows) other.key ≡ Some other) some
later row rows [] above all = tt
later row rows (other ∷ some) above all = (rw above.0 all.0, later row rows some above.1 all.1)

found_all : (rows : List Row) → IsInKeyOrder rows → AllByRecursion (λ row. row_at rows row.key ≡ Some row) rows
found_all [] up = tt
found_all (row ∷ rows) up = (rw (itself_equal key_cmp key_cmp_total row.key) refl, later row rows rows up.0 (found_all rows up.1))

pub all-filter : (P : Row → Type 0) (test : Row → Bool) (rows : List Row) → AllByRecursion P rows → AllByRecursion P (filter test rows)
all-filter P test [] all = tt
all-filter P test (row ∷ rows) all = by (all-filter P test rows all.1) (test row) refl
  where
    by : AllByRecursion P (filter test rows) → (b : Bool) → test row ≡ b → AllByRecursion P (filter test (row ∷ rows))
    by more true e = rw e (all.0, more)
    by more false e = rw e more

pub live_found : (test : Row → Bool) (rows : List Row) → IsInKeyOrder rows → AllByRecursion (λ row. row_at rows row.key ≡ Some row) (filter test (filter is_live rows))
live_found test rows up = all-filter (λ row. row_at rows row.key ≡ Some row) test (filter is_live rows) (all-filter (λ row. row_at rows row.key ≡ Some row) is_live rows (found_all rows up))

-- ---- there are no more of them

length-put : (rank : Row → Rank) (rows : List Row) (row : Row) → length (put rank_cmp rank rows row) ≤ suc (length rows)
length-put rank [] row = omega arith
length-put rank (first ∷ rows) row = by (length-put rank rows row) (rank_cmp (rank first) (rank row)) refl
  where
    by : length (put rank_cmp rank rows row) ≤ suc (length rows) → (o : Ordering) → rank_cmp (rank first) (rank row) ≡ o → length (put rank_cmp rank (first ∷ rows) row) ≤ suc (length (first ∷ rows))
    by more Less e = rw e (omega (arith, more))
    by more Equal e = rw e (omega arith)
    by more Greater e = rw e (omega arith)

pub length-order : (rank : Row → Rank) (rows : List Row) → length (in_order rank rows) ≤ length rows
length-order rank [] = omega arith
length-order rank (row ∷ rows) = omega (arith, length-put rank (in_order rank rows) row, length-order rank rows)
