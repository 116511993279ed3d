-- Ids that come or go one after the other, each behind the last: what stands before them stays.
use Rattle.std.proofs.Common.{◌≡◌, ℕ, zero, suc, ◌+◌, ◌<◌, ◌≤◌, Bool, true, false, ◌==◌, ◌||◌, List, [], ◌∷◌, ◌++◌, length, take, drop, get_or, Option, Some, None, is_some, if◌then◌else◌, refl, sym, ap, subst, ◌∙◌, append_assoc, arith, ◌-◌, length-drop}
use Rattle.std.specs.Prelude.{fold}
use Rattle.std.specs.List.{AllByRecursion, insert, remove}
use Rattle.std.specs.declared.cmp.Ordering.{Ordering}
use Rattle.std.specs.declared.cmp.Ordering.TheVariants.{Less, Equal, Greater}
use Rattle.std.specs.Ordering.{nat_cmp, is_eq, MatchOrdering}
use Rattle.std.proofs.lemmas.Cmp.{ranked, nat_cmp_total}
use Rattle.keyed.specs.Keyed.{Ascends, find, put, without}
use Rattle.keyed.proofs.Places.{IsAt, IsGap, BelowBefore, find_at, find_gap, put_gap, without_at}
use Rattle.shop_rows.proofs.Same.{is_eq-nat_cmp}
use Rattle.id_sets.specs.Sets.{has, itself, AreAscending, turn, IsSplit}
use Rattle.id_sets.proofs.Sets.{has-find}

less_is : (a b : ℕ) → nat_cmp a b ≡ Less → a < b
less_is a b e = let P : Ordering → Type 0 = λ o. MatchOrdering o (a < b) (a ≡ b) (b < a) in subst P e (ranked a b (nat_cmp a b) refl)

is_less : (a b : ℕ) → a < b → nat_cmp a b ≡ Less
is_less a b l = by (nat_cmp a b) refl (ranked a b (nat_cmp a b) refl)
  where
    by : (o : Ordering) → nat_cmp a b ≡ o → MatchOrdering (nat_cmp a b) (a < b) (a ≡ b) (b < a) → nat_cmp a b ≡ Less
    by Less e m = e
    by Equal e m = let same : a ≡ b = subst (λ (o : Ordering). MatchOrdering o (a < b) (a ≡ b) (b < a)) e m in absurd (omega (arith, l, same))
    by Greater e m = let more : b < a = subst (λ (o : Ordering). MatchOrdering o (a < b) (a ≡ b) (b < a)) e m in absurd (omega (arith, l, more))

-- ---- one id behind a front

turn_one : (x : ℕ) (xs : List ℕ) (y : ℕ) → nat_cmp x y ≡ Less → turn (x ∷ xs) y ≡ x ∷ turn xs y
turn_one x xs y e =
    let apart : (x == y) ≡ false = sym (is_eq-nat_cmp x y) ∙ ap is_eq e in
    ap (λ (b : Bool). if b || has xs y then without nat_cmp itself (x ∷ xs) y else put nat_cmp itself (x ∷ xs) y) apart ∙ by (has xs y)
  where
    gone : without nat_cmp itself (x ∷ xs) y ≡ x ∷ without nat_cmp itself xs y
    gone = rw e refl

    come : put nat_cmp itself (x ∷ xs) y ≡ x ∷ put nat_cmp itself xs y
    come = rw e refl

    by : (b : Bool) → (if b then without nat_cmp itself (x ∷ xs) y else put nat_cmp itself (x ∷ xs) y) ≡ x ∷ (if b then without nat_cmp itself xs y else put nat_cmp itself xs y)
    by true = gone
    by false = come

turn_front : (front behind : List ℕ) (y : ℕ) → AllByRecursion (λ x. nat_cmp x y ≡ Less) front → turn (front ++ behind) y ≡ front ++ turn behind y
turn_front [] behind y all = refl
turn_front (x ∷ front) behind y all = turn_one x (front ++ behind) y all.0 ∙ ap (λ (ids : List ℕ). x ∷ ids) (turn_front front behind y all.1)

-- what isn't above the id is below what is above it
below_next : (front : List ℕ) (id next : ℕ) → AllByRecursion (λ other. other ≤ id) front → nat_cmp id next ≡ Less → AllByRecursion (λ x. nat_cmp x next ≡ Less) front
below_next [] id next all e = tt
below_next (x ∷ front) id next all e = let l = less_is id next e in (is_less x next (omega (arith, l, all.0)), below_next front id next all.1 e)

front_stays : (more front behind : List ℕ) (id : ℕ) → AllByRecursion (λ other. other ≤ id) front → AllByRecursion (λ y. nat_cmp id y ≡ Less) more → fold turn (front ++ behind) more ≡ front ++ fold turn behind more
front_stays [] front behind id low up = refl
front_stays (y ∷ more) front behind id low up =
    ap (λ (ids : List ℕ). fold turn ids more) (turn_front front behind y (below_next front id y low up.0))
    ∙ front_stays more front (turn behind y) id low up.1

-- a step of the cut
pub cut_step : (old new left behind : List ℕ) (id : ℕ) (more whole : List ℕ) → IsSplit old new left id behind → AreAscending (id ∷ more) → old ++ fold turn left (id ∷ more) ≡ whole → new ++ fold turn behind more ≡ whole
cut_step old new left behind id more whole split up e =
    ap (λ (ids : List ℕ). ids ++ fold turn behind more) split.put
    ∙ (append_assoc old split.front (fold turn behind more)
    ∙ (ap (λ (ids : List ℕ). old ++ ids) (sym (front_stays more split.front behind id split.not_above up.0) ∙ ap (λ (ids : List ℕ). fold turn ids more) (sym split.whole)) ∙ e))

-- ---- where the cut is

take_below : (xs : List ℕ) (q i : ℕ) → i ≤ length xs → ((j : ℕ) (d : ℕ) → j < i → j < length xs → nat_cmp (get_or xs j d) q ≡ Less) → AllByRecursion (λ other. other ≤ q) (take i xs)
take_below xs q zero l low = tt
take_below [] q (suc i) l low = tt
take_below (x ∷ xs) q (suc i) l low =
    let first = less_is x q (low 0 x (omega arith) (omega arith)) in
    (omega (arith, first), take_below xs q i (omega arith) (λ j d m n. low (suc j) d (omega arith) (omega arith)))

pub drop_ascends : (xs : List ℕ) (i : ℕ) → AreAscending xs → AreAscending (drop i xs)
drop_ascends xs zero up = up
drop_ascends [] (suc i) up = tt
drop_ascends (x ∷ xs) (suc i) up = drop_ascends xs i up.1

all_end : (P : ℕ → Type 0) (xs : List ℕ) (y : ℕ) → AllByRecursion P xs → P y → AllByRecursion P (xs ++ y ∷ [])
all_end P [] y all p = (p, tt)
all_end P (x ∷ xs) y all p = (all.0, all_end P xs y all.1 p)

pub cut_at : (old new left : List ℕ) (id at : ℕ) → AreAscending left → IsAt nat_cmp itself left id at → new ≡ old ++ take at left → IsSplit old new left id (drop (suc at) left)
cut_at old new left id at up is e =
    let there : has left id ≡ true = sym (has-find left id) ∙ ap is_some (find_at nat_cmp itself left id at 0 is) in
    record {
      front = take at left;
      put = e;
      whole = ap (λ (b : Bool). if b then without nat_cmp itself left id else put nat_cmp itself left id) there ∙ without_at nat_cmp itself left id at is;
      not_above = take_below left id at (omega (arith, is.in_range)) is.below;
      ascends = drop_ascends left (suc at) up;
    }

pub cut_gap : (old new left : List ℕ) (id at : ℕ) → AreAscending left → IsGap nat_cmp itself left id at → new ≡ (old ++ take at left) ++ id ∷ [] → IsSplit old new left id (drop at left)
cut_gap old new left id at up is e =
    let gone : has left id ≡ false = sym (has-find left id) ∙ ap is_some (find_gap nat_cmp itself left id at is) in
    record {
      front = take at left ++ id ∷ [];
      put = e ∙ append_assoc old (take at left) (id ∷ []);
      whole = ap (λ (b : Bool). if b then without nat_cmp itself left id else put nat_cmp itself left id) gone ∙ (put_gap nat_cmp itself left id at is ∙ sym (append_assoc (take at left) (id ∷ []) (drop at left)));
      not_above = all_end (λ other. other ≤ id) (take at left) id (take_below left id at is.in_range is.below) (omega arith);
      ascends = drop_ascends left at up;
    }

-- ---- the same, as slices have it

take_all : (xs : List ℕ) (n : ℕ) → n ≡ length xs → take n xs ≡ xs
take_all [] zero e = refl
take_all [] (suc n) e = refl
take_all (x ∷ xs) zero e = absurd (omega (arith, e))
take_all (x ∷ xs) (suc n) e = ap (λ (ys : List ℕ). x ∷ ys) (take_all xs n (omega (arith, e)))

rest_of : (xs : List ℕ) (k : ℕ) → take (length xs - k) (drop k xs) ≡ drop k xs
rest_of xs k = take_all (drop k xs) (length xs - k) (sym (length-drop k xs))

pub sliced_at : (old new left : List ℕ) (id at : ℕ) → AreAscending left → IsAt nat_cmp itself left id at → new ≡ old ++ take at left → IsSplit old new left id (take (length left - (at + 1)) (drop (at + 1) left))
sliced_at old new left id at up is e =
    let one : suc at ≡ at + 1 = omega arith in
    subst (IsSplit old new left id) (ap (λ (k : ℕ). drop k left) one ∙ sym (rest_of left (at + 1))) (cut_at old new left id at up is e)

pub sliced_gap : (old mid new left : List ℕ) (id at : ℕ) → AreAscending left → IsGap nat_cmp itself left id at → mid ≡ old ++ take at left → new ≡ mid ++ id ∷ [] → IsSplit old new left id (take (length left - at) (drop at left))
sliced_gap old mid new left id at up is e f = subst (IsSplit old new left id) (sym (rest_of left at)) (cut_gap old new left id at up is (f ∙ ap (λ (ids : List ℕ). ids ++ id ∷ []) e))

-- a step of the loop
pub record IsStep (new behind others whole : List ℕ) : Type 0 where
  pub turned : new ++ fold turn behind (take (length others - 1) (drop 1 others)) ≡ whole
  pub left : AreAscending behind
  pub rest : AreAscending (take (length others - 1) (drop 1 others))

pub loop_step : (old new left behind rest whole : List ℕ) → 1 ≤ length rest → IsSplit old new left (get_or rest 0 0) behind → AreAscending rest → old ++ fold turn left rest ≡ whole → IsStep new behind rest whole
loop_step old new left behind [] whole some split up e = absurd (omega (arith, some))
loop_step old new left behind (y ∷ more) whole some split up e =
    let same : take (length (y ∷ more) - 1) (drop 1 (y ∷ more)) ≡ more = rest_of (y ∷ more) 1 in
    record {
      turned = ap (λ (ids : List ℕ). new ++ fold turn behind ids) same ∙ cut_step old new left behind y more whole split up e;
      left = split.ascends;
      rest = subst AreAscending (sym same) up.1;
    }
