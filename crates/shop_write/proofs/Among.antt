-- Rows that stand among places.
use Rattle.std.proofs.Common.{◌≡◌, Bool, true, false, ◌&&◌, ◌||◌, ◌⊎◌, inl, inr, List, [], ◌∷◌, ◌++◌, refl, sym, ap, subst, ◌∙◌}
use Rattle.std.specs.Prelude.{◌==◌, filter, map}
use Rattle.std.specs.declared.cmp.Ordering.{Ordering}
use Rattle.std.specs.declared.cmp.Ordering.TheVariants.{Less, Equal, Greater}
use Rattle.std.specs.Ordering.{is_eq, ordering_reverse}
use Rattle.std.proofs.lemmas.Cmp.{tied_itself}
use Rattle.std.specs.List.{list_any, AllByRecursion}
use Rattle.std.proofs.lemmas.Bool.{or_left, or_right, or_cases, false≢true, and_parts, eqb-true}
use Rattle.std.proofs.lemmas.List.Folds.{list_any-append}
use Rattle.keyed.specs.Keyed.{put}
use Rattle.closure.specs.Closure.{IsIn}
use Rattle.closure.proofs.Laws.{Agree, filter_agree_on}
use Rattle.closure.proofs.Members.{of_map}
use Rattle.shop_defs.specs.declared.row.Row.{Row}
use Rattle.shop_defs.specs.Entities.{entity_number}
use Rattle.shop_operations.specs.Deletes.{stands_at}
use Rattle.shop_operations.specs.Upserts.{place_cmp}
use Rattle.shop_operations.specs.Views.{IsInPlaceOrder}
use Rattle.shop_write.specs.declared.place.Place.{Place}
use Rattle.shop_write.specs.Places.{order, itself, Rise, row_place, is_at, stands_among}
use Rattle.shop_write.proofs.Standing.{stands_itself, not_less, all_in}
use Rattle.shop_write.proofs.PlaceLists.{order_total, order_tied, tied_at}

-- rows at places that tie stand at both
same_at : (a b : Place) (row : Row) → order a b ≡ Equal → is_at row a ≡ is_at row b
same_at a b row e = by (and_parts _ _ (sym (order_tied a b) ∙ ap is_eq e))
  where
    by : ((entity_number a.entity == entity_number b.entity) ≡ true) × (((a.id == b.id) && (a.second == b.second)) ≡ true) → is_at row a ≡ is_at row b
    by both =
        let back = and_parts (a.id == b.id) (a.second == b.second) both.1 in
        rw (eqb-true (entity_number a.entity) (entity_number b.entity) both.0, eqb-true a.id b.id back.0, eqb-true a.second b.second back.1) refl

swap_or : (a b c : Bool) → (a || (b || c)) ≡ (b || (a || c))
swap_or true true c = refl
swap_or true false c = refl
swap_or false b c = refl

-- after a put, a row stands at the new place or where it stood
pub among_put : (places : List Place) (place : Place) (row : Row) → stands_among (put order itself places place) row ≡ (is_at row place || stands_among places row)
unfolding stands_among
among_put [] place row = refl
among_put (x ∷ xs) place row = by (among_put xs place row) (order x place) refl
  where
    twice : (a b : Bool) → (a || b) ≡ (a || (a || b))
    twice true b = refl
    twice false b = refl

    by : list_any (is_at row) (put order itself xs place) ≡ (is_at row place || list_any (is_at row) xs) → (o : Ordering) → order x place ≡ o → stands_among (put order itself (x ∷ xs) place) row ≡ (is_at row place || list_any (is_at row) (x ∷ xs))
    by more Less e = rw e (ap (λ b. is_at row x || b) more ∙ swap_or (is_at row x) (is_at row place) (list_any (is_at row) xs))
    by more Equal e = rw (e, same_at x place row e) (twice (is_at row place) (list_any (is_at row) xs))
    by more Greater e = rw e refl

pub put_old : (places : List Place) (place : Place) (row : Row) → stands_among places row ≡ true → stands_among (put order itself places place) row ≡ true
put_old places place row h = among_put places place row ∙ or_right (is_at row place) _ h

pub put_new : (places : List Place) (place : Place) (row : Row) → is_at row place ≡ true → stands_among (put order itself places place) row ≡ true
put_new places place row h = among_put places place row ∙ or_left _ _ h

pub put_cases : (places : List Place) (place : Place) (row : Row) → stands_among (put order itself places place) row ≡ true → (stands_among places row ≡ true) ⊎ (is_at row place ≡ true)
put_cases places place row h = by (or_cases (is_at row place) (stands_among places row) (sym (among_put places place row) ∙ h))
  where
    by : (is_at row place ≡ true) ⊎ (stands_among places row ≡ true) → (stands_among places row ≡ true) ⊎ (is_at row place ≡ true)
    by (inl k) = inr k
    by (inr k) = inl k

-- what is in a list after a put is the new place, or was there
pub in_put : (places : List Place) (place x : Place) → IsIn x (put order itself places place) → (place ≡ x) ⊎ IsIn x places
in_put [] place x (inl e) = inl e
in_put [] place x (inr i) = absurd i
in_put (y ∷ ys) place x i = by (in_put ys place x) (order y place) refl i
  where
    ahead : (place ≡ x) ⊎ IsIn x ys → (place ≡ x) ⊎ IsIn x (y ∷ ys)
    ahead (inl e) = inl e
    ahead (inr j) = inr (inr j)

    over : (place ≡ x) ⊎ IsIn x ys → (place ≡ x) ⊎ IsIn x (y ∷ ys)
    over (inl e) = inl e
    over (inr j) = inr (inr j)

    by : (IsIn x (put order itself ys place) → (place ≡ x) ⊎ IsIn x ys) → (o : Ordering) → order y place ≡ o → IsIn x (put order itself (y ∷ ys) place) → (place ≡ x) ⊎ IsIn x (y ∷ ys)
    by more Less e j = less (rw e at j)
      where
        less : (y ≡ x) ⊎ IsIn x (put order itself ys place) → (place ≡ x) ⊎ IsIn x (y ∷ ys)
        less (inl f) = inr (inl f)
        less (inr k) = ahead (more k)
    by more Equal e j = over (rw e at j)
    by more Greater e j = first (rw e at j)
      where
        first : (place ≡ x) ⊎ ((y ≡ x) ⊎ IsIn x ys) → (place ≡ x) ⊎ IsIn x (y ∷ ys)
        first (inl f) = inl f
        first (inr k) = inr k

pub among_push : (places : List Place) (place : Place) (row : Row) → stands_among (places ++ place ∷ []) row ≡ (stands_among places row || (is_at row place || false))
unfolding stands_among
among_push places place row = list_any-append (is_at row) places (place ∷ [])

last_or : (b : Bool) → (b || false) ≡ true → b ≡ true
last_or true k = refl
last_or false k = k

pub push_old : (places : List Place) (place : Place) (row : Row) → stands_among places row ≡ true → stands_among (places ++ place ∷ []) row ≡ true
push_old places place row h = among_push places place row ∙ or_left _ _ h

pub push_new : (places : List Place) (place : Place) (row : Row) → is_at row place ≡ true → stands_among (places ++ place ∷ []) row ≡ true
push_new places place row h = among_push places place row ∙ or_right (stands_among places row) _ (or_left (is_at row place) false h)

pub push_cases : (places : List Place) (place : Place) (row : Row) → stands_among (places ++ place ∷ []) row ≡ true → (stands_among places row ≡ true) ⊎ (is_at row place ≡ true)
push_cases places place row h = by (or_cases (stands_among places row) (is_at row place || false) (sym (among_push places place row) ∙ h))
  where
    by : (stands_among places row ≡ true) ⊎ ((is_at row place || false) ≡ true) → (stands_among places row ≡ true) ⊎ (is_at row place ≡ true)
    by (inl k) = inl k
    by (inr k) = inr (last_or (is_at row place) k)

-- ---- places in order that are those of rows

pub none_stands : (row : Row) → stands_among [] row ≡ true → ⊥
unfolding stands_among
none_stands row h = false≢true h

-- to stand at the one place of a row
pub one_among : (row other : Row) → stands_among (row_place row ∷ []) other ≡ stands_at row.key other
unfolding stands_among
one_among row other = by (stands_at row.key other)
  where
    by : (b : Bool) → (b || false) ≡ b
    by true = refl
    by false = refl

none_among : (rows : List Row) → filter (stands_among []) rows ≡ []
unfolding stands_among
none_among [] = refl
none_among (row ∷ rest) = none_among rest

-- a row doesn't stand at a place behind its own
pub not_behind : (row : Row) (place : Place) → order (row_place row) place ≡ Less → is_at row place ≡ false
not_behind row place h = sym (tied_at place row) ∙ ap is_eq (order_total.antisymm place (row_place row) ∙ ap ordering_reverse h)

not_there : (row : Row) (places : List Place) → AllByRecursion (λ p. order (row_place row) p ≡ Less) places → stands_among places row ≡ false
unfolding stands_among
not_there row [] above = refl
not_there row (p ∷ ps) above = rw (not_behind row p above.0, not_there row ps above.1) refl

pub all_weaken : {X : Type 0} (P Q : X → Type 0) (xs : List X) → ((x : X) → P x → Q x) → AllByRecursion P xs → AllByRecursion Q xs
all_weaken P Q [] f all = tt
all_weaken P Q (x ∷ xs) f all = (f x all.0, all_weaken P Q xs f all.1)

-- no place is before itself
pub not_before_itself : (place : Place) → order place place ≡ Less → ⊥
not_before_itself place h = false≢true (ap is_eq (sym h ∙ tied_itself order_total place))

pub among_cons : (place : Place) (places : List Place) (row : Row) → stands_among (place ∷ places) row ≡ (is_at row place || stands_among places row)
unfolding stands_among
among_cons place places row = refl

-- places in order, each that of one of the rows, are those of the rows that stand there
pub places_are : (rows : List Row) (places : List Place) → IsInPlaceOrder rows → Rise places → ((p : Place) → IsIn p places → IsIn p (map row_place rows)) → places ≡ map row_place (filter (stands_among places) rows)
places_are rows [] up rise of = sym (ap (map row_place) (none_among rows))
places_are [] (p ∷ ps) up rise of = absurd (of p (inl refl))
places_are (row ∷ rest) (p ∷ ps) up rise of = by (of p (inl refl)) (places_are rest ps up.1 rise.1) (places_are rest (p ∷ ps) up.1 rise)
  where
    here : row_place row ≡ p → stands_among (p ∷ ps) row ≡ true
    here e = among_cons p ps row ∙ or_left (is_at row p) (stands_among ps row) (subst (λ (q : Place). is_at row q ≡ true) e (stands_itself row))

    others : row_place row ≡ p → Agree (stands_among (p ∷ ps)) (stands_among ps) rest
    others e r i = among_cons p ps r ∙ ap (λ b. b || stands_among ps r) (elsewhere (is_at r p) refl)
      where
        elsewhere : (b : Bool) → is_at r p ≡ b → is_at r p ≡ false
        elsewhere false f = f
        elsewhere true f = absurd (not_less row.key r (subst (λ (q : Place). is_at r q ≡ true) (sym e) f) (all_in (λ y. place_cmp row.key y.key ≡ Less) rest r up.0 i))

    later : row_place row ≡ p → (q : Place) → IsIn q ps → IsIn q (map row_place rest)
    later e q i = last (of q (inr i))
      where
        last : (row_place row ≡ q) ⊎ IsIn q (map row_place rest) → IsIn q (map row_place rest)
        last (inl f) = absurd (not_before_itself q (subst (λ (x : Place). order x q ≡ Less) (sym e ∙ f) (all_in (λ y. order p y ≡ Less) ps q rise.0 i)))
        last (inr j) = j

    ahead : IsIn p (map row_place rest) → order (row_place row) p ≡ Less
    ahead i = let x = of_map row_place rest p i in subst (λ (q : Place). order (row_place row) q ≡ Less) x.image (all_in (λ y. place_cmp row.key y.key ≡ Less) rest x.one up.0 x.is_in)

    all_ahead : IsIn p (map row_place rest) → AllByRecursion (λ q. order (row_place row) q ≡ Less) (p ∷ ps)
    all_ahead i = (ahead i, all_weaken (λ q. order p q ≡ Less) (λ q. order (row_place row) q ≡ Less) ps (λ q l. order_total.trans (row_place row) p q (ahead i) l) rise.0)

    still : IsIn p (map row_place rest) → (q : Place) → IsIn q (p ∷ ps) → IsIn q (map row_place rest)
    still i q j = last (of q j)
      where
        last : (row_place row ≡ q) ⊎ IsIn q (map row_place rest) → IsIn q (map row_place rest)
        last (inl f) = absurd (not_before_itself q (subst (λ (x : Place). order x q ≡ Less) f (all_in (λ y. order (row_place row) y ≡ Less) (p ∷ ps) q (all_ahead i) j)))
        last (inr k) = k

    by : (row_place row ≡ p) ⊎ IsIn p (map row_place rest) → (((q : Place) → IsIn q ps → IsIn q (map row_place rest)) → ps ≡ map row_place (filter (stands_among ps) rest)) → (((q : Place) → IsIn q (p ∷ ps) → IsIn q (map row_place rest)) → (p ∷ ps) ≡ map row_place (filter (stands_among (p ∷ ps)) rest)) → (p ∷ ps) ≡ map row_place (filter (stands_among (p ∷ ps)) (row ∷ rest))
    by (inl e) without_first all = rw (here e, filter_agree_on (stands_among (p ∷ ps)) (stands_among ps) rest (others e), ← without_first (later e), e) refl
    by (inr i) without_first all = rw (not_there row (p ∷ ps) (all_ahead i)) (all (still i))
