-- What is found in a list after an edit, whatever order its elements stand in.
use Rattle.std.proofs.Common.{◌≡◌, false, not, List, [], ◌∷◌, ◌++◌, Option, Some, None, if◌then◌else◌, refl, sym, ap, ◌∙◌}
use Rattle.std.specs.declared.cmp.Ordering.{Ordering}
use Rattle.std.specs.declared.cmp.Ordering.TheVariants.{Less, Equal, Greater}
use Rattle.std.specs.Cmp.{IsTotalOrder}
use Rattle.std.specs.Ordering.{is_eq, ordering_reverse}
use Rattle.std.specs.List.{AllByRecursion, filter}
use Rattle.keyed.specs.Keyed.{find}

module _ {K X : Type 0} (cmp : K → K → Ordering) (key : X → K) where
  -- the elements with another key
  abbrev pub others : List X → K → List X
  others xs q = filter (λ x. not (is_eq (cmp (key x) q))) xs

  module _ (order : IsTotalOrder cmp) where
    -- nothing is found at a key that is below all others
    pub none_below : (xs : List X) (k q : K) → AllByRecursion (λ y. cmp k (key y) ≡ Less) xs → cmp k q ≡ Equal → find cmp key xs q ≡ None
    none_below [] k q all e = refl
    none_below (x ∷ xs) k q all e =
        let g : cmp (key x) q ≡ Greater = order.antisymm (key x) q ∙ ap ordering_reverse (sym (order.congr k q (key x) e) ∙ all.0) in
        rw g (none_below xs k q all.1 e)

    eq_reversed : (o : Ordering) → is_eq (ordering_reverse o) ≡ is_eq o
    eq_reversed Less = refl
    eq_reversed Equal = refl
    eq_reversed Greater = refl

    -- a key that ties with q, and not with k, tells the two apart
    unlike : (x k q : K) → is_eq (cmp x k) ≡ false → cmp x q ≡ Equal → is_eq (cmp k q) ≡ false
    unlike x k q e f = ap is_eq (order.antisymm k q ∙ ap ordering_reverse (sym (order.congr x q k f))) ∙ (eq_reversed (cmp x k) ∙ e)

    -- the first element stays: what is found at q after it decides
    stays : (x : X) (k q : K) (left got right : Option X) → is_eq (cmp (key x) k) ≡ false → left ≡ (if is_eq (cmp k q) then got else right) → (if is_eq (cmp (key x) q) then Some x else left) ≡ (if is_eq (cmp k q) then got else (if is_eq (cmp (key x) q) then Some x else right))
    stays x k q left got right e more = by (cmp (key x) q) refl
      where
        by : (o : Ordering) → cmp (key x) q ≡ o → (if is_eq (cmp (key x) q) then Some x else left) ≡ (if is_eq (cmp k q) then got else (if is_eq (cmp (key x) q) then Some x else right))
        by Less f = rw f more
        by Equal f = rw (f, unlike (key x) k q e f) refl
        by Greater f = rw f more

    -- the first element goes, with the key k
    goes : (x : X) (k q : K) (left got right : Option X) → cmp (key x) k ≡ Equal → left ≡ (if is_eq (cmp k q) then got else right) → left ≡ (if is_eq (cmp k q) then got else (if is_eq (cmp (key x) q) then Some x else right))
    goes x k q left got right e more = rw (order.congr (key x) k q e) (by (cmp k q) more)
      where
        by : (o : Ordering) → left ≡ (if is_eq o then got else right) → left ≡ (if is_eq o then got else (if is_eq o then Some x else right))
        by Less more = more
        by Equal more = more
        by Greater more = more

    nothing : (o : Ordering) (found : Option X) → found ≡ None → found ≡ (if is_eq o then None else found)
    nothing Less found e = refl
    nothing Equal found e = e
    nothing Greater found e = refl

    -- where all elements with a key are taken out, nothing is found at it, and all else as before
    pub find_others : (xs : List X) (k q : K) → find cmp key (others xs k) q ≡ (if is_eq (cmp k q) then None else find cmp key xs q)
    find_others [] k q = nothing (cmp k q) None refl
    find_others (x ∷ xs) k q = by (find_others xs k q) (cmp (key x) k) refl
      where
        by : find cmp key (others xs k) q ≡ (if is_eq (cmp k q) then None else find cmp key xs q) → (o : Ordering) → cmp (key x) k ≡ o → find cmp key (others (x ∷ xs) k) q ≡ (if is_eq (cmp k q) then None else find cmp key (x ∷ xs) q)
        by more Less e = rw e (stays x k q _ None _ (ap is_eq e) more)
        by more Equal e = rw e (goes x k q _ None _ e more)
        by more Greater e = rw e (stays x k q _ None _ (ap is_eq e) more)

    -- and where then an element with that key is added at the end
    pub find_pushed : (xs : List X) (y : X) (q : K) → find cmp key (others xs (key y) ++ y ∷ []) q ≡ (if is_eq (cmp (key y) q) then Some y else find cmp key xs q)
    find_pushed [] y q = refl
    find_pushed (x ∷ xs) y q = by (find_pushed xs y q) (cmp (key x) (key y)) refl
      where
        by : find cmp key (others xs (key y) ++ y ∷ []) q ≡ (if is_eq (cmp (key y) q) then Some y else find cmp key xs q) → (o : Ordering) → cmp (key x) (key y) ≡ o → find cmp key (others (x ∷ xs) (key y) ++ y ∷ []) q ≡ (if is_eq (cmp (key y) q) then Some y else find cmp key (x ∷ xs) q)
        by more Less e = rw e (stays x (key y) q _ (Some y) _ (ap is_eq e) more)
        by more Equal e = rw e (goes x (key y) q _ (Some y) _ e more)
        by more Greater e = rw e (stays x (key y) q _ (Some y) _ (ap is_eq e) more)
