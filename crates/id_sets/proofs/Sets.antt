-- Sets of ids: what is in them, and what an edit leaves.
use Rattle.std.proofs.Common.{◌≡◌, ℕ, Bool, true, false, not, ◌==◌, ◌&&◌, ◌||◌, ◌⊎◌, inl, inr, List, [], ◌∷◌, ◌++◌, filter, Option, Some, None, if◌then◌else◌, refl, sym, ap, subst, ◌∙◌, is_some, nat_eq, length, arith}
use Rattle.std.specs.Prelude.{fold}
use Rattle.std.specs.List.{AllByRecursion, list_any, dedup}
use Rattle.std.specs.declared.cmp.Ordering.{Ordering}
use Rattle.std.specs.declared.cmp.Ordering.TheVariants.{Less, Equal, Greater}
use Rattle.std.specs.Ordering.{nat_cmp, is_eq, eq_by_cmp}
use Rattle.std.specs.List.Retain.{IsFiltered, DiffersFromLast}
use Rattle.std.specs.List.Sorted.{IsPermutation, IsSorted}
use Rattle.std.proofs.lemmas.Bool.{eqb-true, eq-eqb}
use Rattle.std.proofs.lemmas.Cmp.{nat_cmp_total}
use Rattle.std.proofs.lemmas.List.Filters.{dedup_is}
use Rattle.std.proofs.lemmas.List.Kept.{IsStrictlySortedBy-dedup}
use Rattle.std.proofs.lemmas.List.Sorted.{list_any-IsPermutation}
use Rattle.keyed.specs.Keyed.{Ascends, find, put, without}
use Rattle.keyed.proofs.Places.{IsAt, IsGap, find_at, find_gap}
use Rattle.keyed.proofs.Changes.{ascends_put, ascends_without, find_put, find_without}
use Rattle.shop_rows.proofs.Same.{nat_is, is_equal, is_eq-nat_cmp}
use Rattle.shop_rows.proofs.SameLists.{same_lists, its}
use Rattle.shop_rows.proofs.SortedOnce.{ascends_from_sorted, any-dedup}
use Rattle.id_sets.specs.Sets.{has as is_has}
use Rattle.id_sets.specs.Sets.{has, itself, AreAscending, differ, is_turned, turn}

-- the id is among them by its order as by its number
pub has_by_order : (ids : List ℕ) (q : ℕ) → list_any (λ x. is_eq (nat_cmp x q)) ids ≡ has ids q
has_by_order ids q = ap (λ (p : ℕ → Bool). list_any p ids) (λ i x. is_eq-nat_cmp x q i)

-- sets that have the same ids are the same
pub same_ids : (xs ys : List ℕ) → AreAscending xs → AreAscending ys → ((id : ℕ) → has xs id ≡ has ys id) → xs ≡ ys
same_ids xs ys up on same = same_lists nat_cmp nat_cmp_total nat_is xs ys up on (λ q. has_by_order xs q ∙ (same q ∙ sym (has_by_order ys q)))

-- ---- look-ups

pub has-find : (ids : List ℕ) (q : ℕ) → is_some (find nat_cmp itself ids q) ≡ has ids q
has-find [] q = refl
has-find (x ∷ xs) q = by (has-find xs q) (is_eq (nat_cmp x q)) refl
  where
    by : is_some (find nat_cmp itself xs q) ≡ has xs q → (b : Bool) → is_eq (nat_cmp x q) ≡ b → is_some (if is_eq (nat_cmp x q) then Some x else find nat_cmp itself xs q) ≡ ((x == q) || has xs q)
    by more true e = let s : (x == q) ≡ true = sym (is_eq-nat_cmp x q) ∙ e in rw (e, s) refl
    by more false e = let s : (x == q) ≡ false = sym (is_eq-nat_cmp x q) ∙ e in rw (e, s) more

-- ---- one id comes or goes

turned_find : (b : Bool) (ids : List ℕ) (id q : ℕ) → AreAscending ids → has ids id ≡ b → has (if b then without nat_cmp itself ids id else put nat_cmp itself ids id) q ≡ (if id == q then not (has ids q) else has ids q)
turned_find true ids id q up e =
    sym (has-find (without nat_cmp itself ids id) q)
    ∙ (ap is_some (find_without nat_cmp itself nat_cmp_total ids id q up)
    ∙ (ap (λ (c : Bool). is_some (if c then None else find nat_cmp itself ids q)) (is_eq-nat_cmp id q) ∙ by (id == q) refl))
  where
    by : (c : Bool) → (id == q) ≡ c → is_some (if c then None else find nat_cmp itself ids q) ≡ (if c then not (has ids q) else has ids q)
    by true f = ap not (sym e ∙ ap (has ids) (eqb-true id q f))
    by false f = has-find ids q
turned_find false ids id q up e =
    sym (has-find (put nat_cmp itself ids id) q)
    ∙ (ap is_some (find_put nat_cmp itself nat_cmp_total ids id q)
    ∙ (ap (λ (c : Bool). is_some (if c then Some id else find nat_cmp itself ids q)) (is_eq-nat_cmp id q) ∙ by (id == q) refl))
  where
    by : (c : Bool) → (id == q) ≡ c → is_some (if c then Some id else find nat_cmp itself ids q) ≡ (if c then not (has ids q) else has ids q)
    by true f = ap not (sym e ∙ ap (has ids) (eqb-true id q f))
    by false f = has-find ids q

pub turn_has : (ids : List ℕ) (id q : ℕ) → AreAscending ids → has (turn ids id) q ≡ (if id == q then not (has ids q) else has ids q)
turn_has ids id q up = turned_find (has ids id) ids id q up refl

pub turn_ascends : (ids : List ℕ) (id : ℕ) → AreAscending ids → AreAscending (turn ids id)
turn_ascends ids id up = by (has ids id)
  where
    by : (b : Bool) → AreAscending (if b then without nat_cmp itself ids id else put nat_cmp itself ids id)
    by true = ascends_without nat_cmp itself nat_cmp_total ids id up
    by false = ascends_put nat_cmp itself nat_cmp_total ids id up

-- ---- several do

-- an id below all of a list isn't among them
not_below : (low : ℕ) (ids : List ℕ) → AllByRecursion (λ id. nat_cmp low id ≡ Less) ids → has ids low ≡ false
not_below low [] all = refl
not_below low (x ∷ xs) all = by (not_below low xs all.1) (x == low) refl
  where
    by : has xs low ≡ false → (b : Bool) → (x == low) ≡ b → ((x == low) || has xs low) ≡ false
    by more true e = let l : nat_cmp low low ≡ Less = subst (λ (k : ℕ). nat_cmp low k ≡ Less) (eqb-true x low e) all.0 in let s : is_eq (nat_cmp low low) ≡ true = is_eq-nat_cmp low low ∙ eq-eqb low low refl in absurd (cc)
    by more false e = rw e more

pub fold_has : (turned ids : List ℕ) (q : ℕ) → AreAscending ids → AreAscending turned → has (fold turn ids turned) q ≡ differ (has ids q) (has turned q)
fold_has [] ids q up on = refl
fold_has (y ∷ ys) ids q up on = fold_has ys (turn ids y) q (turn_ascends ids y up) on.1 ∙ (ap (λ (b : Bool). differ b (has ys q)) (turn_has ids y q up) ∙ by (y == q) refl)
  where
    twice : (b : Bool) → differ (not b) false ≡ differ b true
    twice true = refl
    twice false = refl

    by : (c : Bool) → (y == q) ≡ c → differ (if c then not (has ids q) else has ids q) (has ys q) ≡ differ (has ids q) (c || has ys q)
    by true e = ap (differ (not (has ids q))) (ap (has ys) (sym (eqb-true y q e)) ∙ not_below y ys on.0)
    by false e = refl

pub fold_ascends : (turned ids : List ℕ) → AreAscending ids → AreAscending (fold turn ids turned)
fold_ascends [] ids up = up
fold_ascends (y ∷ ys) ids up = fold_ascends ys (turn ids y) (turn_ascends ids y up)

-- ---- an edit

has-filter : (p : ℕ → Bool) (ids : List ℕ) (q : ℕ) → has (filter p ids) q ≡ (has ids q && p q)
has-filter p [] q = refl
has-filter p (x ∷ xs) q = by (has-filter p xs q) (p x) (x == q) refl refl
  where
    both : (a b : Bool) → b ≡ false → a ≡ (a && b) → a ≡ b
    both true b e f = absurd (cc)
    both false b e f = sym e

    by : has (filter p xs) q ≡ (has xs q && p q) → (b c : Bool) → p x ≡ b → (x == q) ≡ c → has (filter p (x ∷ xs)) q ≡ (((x == q) || has xs q) && p q)
    by more true true e f = let g : p q ≡ true = ap p (sym (eqb-true x q f)) ∙ e in rw (e, f, g) refl
    by more true false e f = rw (e, f) more
    by more false true e f = let g : p q ≡ false = ap p (sym (eqb-true x q f)) ∙ e in rw (e, f) (more ∙ by_false (has xs q) (p q) g)
      where
        by_false : (a b : Bool) → b ≡ false → (a && b) ≡ b
        by_false true b h = refl
        by_false false b h = sym h
    by more false false e f = rw (e, f) more

all_filter : (P : ℕ → Type 0) (p : ℕ → Bool) (ids : List ℕ) → AllByRecursion P ids → AllByRecursion P (filter p ids)
all_filter P p [] all = tt
all_filter P p (x ∷ xs) all = by (all_filter P p xs all.1) (p x) refl
  where
    by : AllByRecursion P (filter p xs) → (b : Bool) → p x ≡ b → AllByRecursion P (filter p (x ∷ xs))
    by more true e = rw e (all.0, more)
    by more false e = rw e more

pub filter_ascends : (p : ℕ → Bool) (ids : List ℕ) → AreAscending ids → AreAscending (filter p ids)
filter_ascends p [] up = tt
filter_ascends p (x ∷ xs) up = by (filter_ascends p xs up.1) (p x) refl
  where
    by : AreAscending (filter p xs) → (b : Bool) → p x ≡ b → AreAscending (filter p (x ∷ xs))
    by more true e = rw e (all_filter (λ y. nat_cmp x y ≡ Less) p xs up.0, more)
    by more false e = rw e more

settled : (old is picked : Bool) → differ old (is && differ old picked) ≡ (if is then picked else old)
settled true true true = refl
settled true true false = refl
settled true false picked = refl
settled false true true = refl
settled false true false = refl
settled false false picked = refl

-- what an edit leaves: each of the ids where it is picked, and all others as before
pub edited_has : (old ids : List ℕ) (picks : ℕ → Bool) (q : ℕ) → AreAscending old → AreAscending ids → has (fold turn old (filter (is_turned old picks) ids)) q ≡ (if has ids q then picks q else has old q)
edited_has old ids picks q up on =
    fold_has (filter (is_turned old picks) ids) old q up (filter_ascends (is_turned old picks) ids on)
    ∙ (ap (differ (has old q)) (has-filter (is_turned old picks) ids q) ∙ settled (has old q) (has ids q) (picks q))

pub record IsEdited (old ids : List ℕ) (picks : ℕ → Bool) (now : List ℕ) : Type 0 where
  pub has : (q : ℕ) → is_has now q ≡ (if is_has ids q then picks q else is_has old q)
  pub ascends : AreAscending now

-- nothing comes or goes: then what is there is what an edit would leave
pub edited_none : (old ids turned : List ℕ) (picks : ℕ → Bool) → AreAscending old → AreAscending ids → turned ≡ filter (is_turned old picks) ids → (length turned == 0) ≡ true → (q : ℕ) → has old q ≡ (if has ids q then picks q else has old q)
edited_none old ids turned picks up on e none q = ap (λ (t : List ℕ). has (fold turn old t) q) (sym (nothing turned none) ∙ e) ∙ edited_has old ids picks q up on
  where
    nothing : (xs : List ℕ) → (length xs == 0) ≡ true → xs ≡ []
    nothing [] f = refl
    nothing (x ∷ xs) f = absurd (omega (arith, eqb-true (length (x ∷ xs)) 0 f))

-- what an edit leaves, and its order
pub edited_some : (old ids turned now : List ℕ) (picks : ℕ → Bool) → AreAscending old → AreAscending ids → turned ≡ filter (is_turned old picks) ids → now ≡ fold turn old turned → IsEdited old ids picks now
edited_some old ids turned now picks up on e f = record {
  has = λ q. ap (λ (xs : List ℕ). has xs q) (f ∙ ap (fold turn old) e) ∙ edited_has old ids picks q up on;
  ascends = subst AreAscending (sym f) (fold_ascends turned old up);
}

-- ---- sorted, each once

pub record IsSorting (old once : List ℕ) : Type 0 where
  pub ascends : AreAscending once
  pub same : (id : ℕ) → has once id ≡ has old id

ties : (x y : ℕ) → (x == y) ≡ eq_by_cmp nat_cmp x y
ties x y = sym (is_eq-nat_cmp x y)

pub sorted_once : (old sorted once : List ℕ) → IsPermutation old sorted → IsSorted nat_cmp sorted → IsFiltered (DiffersFromLast nat_eq) [] sorted once → IsSorting old once
sorted_once old sorted once moved up kept =
    let left : once ≡ dedup nat_eq sorted = dedup_is nat_eq sorted once kept in
    record {
      ascends = subst AreAscending (sym left) (ascends_from_sorted nat_cmp (dedup nat_eq sorted) (IsStrictlySortedBy-dedup nat_cmp_total ties sorted up));
      same = λ id.
          ap (λ (ids : List ℕ). has ids id) left
          ∙ (sym (has_by_order (dedup nat_eq sorted) id)
          ∙ (any-dedup nat_cmp nat_cmp_total nat_eq ties id sorted
          ∙ (has_by_order sorted id
          ∙ sym (list_any-IsPermutation (λ other. other == id) old sorted moved))));
    }

-- ---- what a search tells

pub has_at : (ids : List ℕ) (id at : ℕ) → IsAt nat_cmp itself ids id at → true ≡ has ids id
has_at ids id at is = sym (ap is_some (find_at nat_cmp itself ids id at 0 is)) ∙ has-find ids id

pub has_gap : (ids : List ℕ) (id at : ℕ) → IsGap nat_cmp itself ids id at → false ≡ has ids id
has_gap ids id at is = sym (ap is_some (find_gap nat_cmp itself ids id at is)) ∙ has-find ids id
