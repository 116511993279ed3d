-- The elements that an edit of another key leaves, as a filter sees them.
use Rattle.std.proofs.Common.{◌≡◌, Bool, false, cond, List, [], ◌∷◌, ◌++◌, refl, sym, ap, ◌∙◌}
use Rattle.std.specs.declared.cmp.Ordering.{Ordering}
use Rattle.std.specs.declared.cmp.Ordering.TheVariants.{Less, Equal, Greater}
use Rattle.std.specs.Cmp.{IsTotalOrder}
use Rattle.std.specs.Ordering.{ordering_reverse}
use Rattle.std.specs.List.{filter}
use Rattle.keyed.specs.Keyed.{find, put, without}
use Rattle.shop_outside.proofs.Finding.{others}

-- a key is itself
pub tied_itself : {K : Type 0} (cmp : K → K → Ordering) (order : IsTotalOrder cmp) (k : K) → cmp k k ≡ Equal
tied_itself cmp order k = by (cmp k k) (order.antisymm k k)
  where
    by : (o : Ordering) → o ≡ ordering_reverse o → o ≡ Equal
    by Less e = cc
    by Equal e = refl
    by Greater e = cc

-- keys that tie find the same
pub find_tied : {K X : Type 0} (cmp : K → K → Ordering) (key : X → K) (order : IsTotalOrder cmp) (xs : List X) (q r : K) → cmp q r ≡ Equal → find cmp key xs q ≡ find cmp key xs r
find_tied cmp key order [] q r e = refl
find_tied cmp key order (x ∷ xs) q r e =
    let same : cmp (key x) q ≡ cmp (key x) r = order.antisymm (key x) q ∙ (ap ordering_reverse (order.congr q r (key x) e) ∙ sym (order.antisymm (key x) r)) in
    rw (same, find_tied cmp key order xs q r e) refl

module _ {K X : Type 0} (cmp : K → K → Ordering) (key : X → K) (test : X → Bool) where
  -- the test takes no element with the key
  abbrev pub Drops : K → Type 0
  Drops k = (x : X) → cmp (key x) k ≡ Equal → test x ≡ false

  -- the first element stays
  stays : (x : X) (xs ys : List X) → filter test xs ≡ filter test ys → filter test (x ∷ xs) ≡ filter test (x ∷ ys)
  stays x xs ys e = ap (λ zs. cond (test x) (x ∷ zs) zs) e

  -- the first element goes, which the test doesn't take
  goes : (x : X) (xs : List X) → test x ≡ false → filter test xs ≡ filter test (x ∷ xs)
  goes x xs e = rw e refl

  pub filter_others : (xs : List X) (k : K) → Drops k → filter test (others cmp key xs k) ≡ filter test xs
  filter_others [] k drops = refl
  filter_others (x ∷ xs) k drops = by (cmp (key x) k) refl (filter_others xs k drops)
    where
      by : (o : Ordering) → cmp (key x) k ≡ o → filter test (others cmp key xs k) ≡ filter test xs → filter test (others cmp key (x ∷ xs) k) ≡ filter test (x ∷ xs)
      by Less e more = rw e (stays x (others cmp key xs k) xs more)
      by Equal e more = rw e (more ∙ goes x xs (drops x e))
      by Greater e more = rw e (stays x (others cmp key xs k) xs more)

  pub filter_pushed : (xs : List X) (y : X) → test y ≡ false → filter test (xs ++ y ∷ []) ≡ filter test xs
  filter_pushed [] y e = rw e refl
  filter_pushed (x ∷ xs) y e = stays x (xs ++ y ∷ []) xs (filter_pushed xs y e)

  pub filter_without : (xs : List X) (k : K) → Drops k → filter test (without cmp key xs k) ≡ filter test xs
  filter_without [] k drops = refl
  filter_without (x ∷ xs) k drops = by (cmp (key x) k) refl (filter_without xs k drops)
    where
      by : (o : Ordering) → cmp (key x) k ≡ o → filter test (without cmp key xs k) ≡ filter test xs → filter test (without cmp key (x ∷ xs) k) ≡ filter test (x ∷ xs)
      by Less e more = rw e (stays x (without cmp key xs k) xs more)
      by Equal e more = rw e (goes x xs (drops x e))
      by Greater e more = rw e (stays x (without cmp key xs k) xs more)

  pub filter_put : (xs : List X) (y : X) → Drops (key y) → test y ≡ false → filter test (put cmp key xs y) ≡ filter test xs
  filter_put [] y drops e = rw e refl
  filter_put (x ∷ xs) y drops e = by (cmp (key x) (key y)) refl (filter_put xs y drops e)
    where
      by : (o : Ordering) → cmp (key x) (key y) ≡ o → filter test (put cmp key xs y) ≡ filter test xs → filter test (put cmp key (x ∷ xs) y) ≡ filter test (x ∷ xs)
      by Less f more = rw f (stays x (put cmp key xs y) xs more)
      by Equal f more = rw f (sym (goes y xs e) ∙ goes x xs (drops x f))
      by Greater f more = rw f (sym (goes y (x ∷ xs) e))
