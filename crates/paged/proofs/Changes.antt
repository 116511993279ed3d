-- Changes to pairs that stand in parts.
use Rattle.std.proofs.Common.{false, ◌≡◌, List, [], ◌∷◌, ◌++◌, Option, Some, None, refl, sym, ap, ◌∙◌, append_assoc}
use Rattle.std.specs.declared.cmp.Ordering.{Ordering}
use Rattle.std.specs.declared.cmp.Ordering.TheVariants.{Less, Equal, Greater}
use Rattle.std.specs.Cmp.{IsTotalOrder}
use Rattle.std.specs.Ordering.{is_lt, ordering_reverse}
use Rattle.std.specs.List.{AllByRecursion}
use Rattle.std.proofs.lemmas.List.{append-nil}
use Rattle.keyed.specs.Keyed.{Ascends, put, without}
use Rattle.keyed.proofs.Changes.{ascends_put, ascends_without}
use Rattle.paged.specs.Pairs.{key_of, front, back}
use Rattle.paged.specs.Parts.{HasHead}
use Rattle.paged.specs.Changed.{changed, changed_at, given}
use Rattle.paged.proofs.Heads.{all_join, all_first, all_second}

module _ {K : Type 0} (cmp : K → K → Ordering) (order : IsTotalOrder cmp) where
  flip : (a b : K) → cmp a b ≡ Less → cmp b a ≡ Greater
  flip a b l = order.antisymm b a ∙ ap ordering_reverse l

  pub flip_back : (a b : K) → cmp a b ≡ Greater → cmp b a ≡ Less
  flip_back a b g = order.antisymm b a ∙ ap ordering_reverse g

  flip_equal : (a b : K) → cmp a b ≡ Equal → cmp b a ≡ Equal
  flip_equal a b e = order.antisymm b a ∙ ap ordering_reverse e

  -- below what an equal key is below
  less_as : (a b d : K) → cmp a b ≡ Equal → cmp b d ≡ Less → cmp a d ≡ Less
  less_as a b d e l = order.congr a b d e ∙ l

  -- a key below k is below what isn't below k
  pub less_through : (a k d : K) → cmp a k ≡ Less → is_lt (cmp d k) ≡ false → cmp a d ≡ Less
  less_through a k d l n = by (cmp d k) refl n
    where
      by : (o : Ordering) → cmp d k ≡ o → is_lt o ≡ false → cmp a d ≡ Less
      by Less e f = absurd (cc)
      by Equal e f = flip_back d a (order.congr d k a e ∙ flip a k l)
      by Greater e f = order.trans a k d l (flip_back d k e)

  module _ {X : Type 0} where
    abbrev pub Below : K → List (K × X) → Type 0
    Below k xs = AllByRecursion (λ x. cmp x.0 k ≡ Less) xs

    abbrev pub Above : K → List (K × X) → Type 0
    Above k xs = AllByRecursion (λ x. cmp k x.0 ≡ Less) xs

    put_front : (k : K) (v : X) (fs bs : List (K × X)) → Below k fs → put cmp key_of (fs ++ bs) (k, v) ≡ fs ++ put cmp key_of bs (k, v)
    put_front k v [] bs h = refl
    put_front k v (x ∷ fs) bs h = rw h.0 (ap (λ (l : List (K × X)). x ∷ l) (put_front k v fs bs h.1))

    without_front : (k : K) (fs bs : List (K × X)) → Below k fs → without cmp key_of (fs ++ bs) k ≡ fs ++ without cmp key_of bs k
    without_front k [] bs h = refl
    without_front k (x ∷ fs) bs h = rw h.0 (ap (λ (l : List (K × X)). x ∷ l) (without_front k fs bs h.1))

    put_above : (k : K) (v : X) (bs : List (K × X)) → Above k bs → put cmp key_of bs (k, v) ≡ (k, v) ∷ bs
    put_above k v [] h = refl
    put_above k v (x ∷ bs) h = rw (flip k x.0 h.0) refl

    without_above : (k : K) (bs : List (K × X)) → Above k bs → without cmp key_of bs k ≡ bs
    without_above k [] h = refl
    without_above k (x ∷ bs) h = rw (flip k x.0 h.0) (ap (λ (l : List (K × X)). x ∷ l) (without_above k bs h.1))

    put_back : (k : K) (v : X) (fs bs : List (K × X)) → Above k bs → put cmp key_of (fs ++ bs) (k, v) ≡ put cmp key_of fs (k, v) ++ bs
    put_back k v [] bs h = put_above k v bs h
    put_back k v (x ∷ fs) bs h = by (put_back k v fs bs h) (cmp x.0 k) refl
      where
        by : put cmp key_of (fs ++ bs) (k, v) ≡ put cmp key_of fs (k, v) ++ bs → (o : Ordering) → cmp x.0 k ≡ o → put cmp key_of ((x ∷ fs) ++ bs) (k, v) ≡ put cmp key_of (x ∷ fs) (k, v) ++ bs
        by more Less e = rw e (ap (λ (l : List (K × X)). x ∷ l) more)
        by more Equal e = rw e refl
        by more Greater e = rw e refl

    without_back : (k : K) (fs bs : List (K × X)) → Above k bs → without cmp key_of (fs ++ bs) k ≡ without cmp key_of fs k ++ bs
    without_back k [] bs h = without_above k bs h
    without_back k (x ∷ fs) bs h = by (without_back k fs bs h) (cmp x.0 k) refl
      where
        by : without cmp key_of (fs ++ bs) k ≡ without cmp key_of fs k ++ bs → (o : Ordering) → cmp x.0 k ≡ o → without cmp key_of ((x ∷ fs) ++ bs) k ≡ without cmp key_of (x ∷ fs) k ++ bs
        by more Less e = rw e (ap (λ (l : List (K × X)). x ∷ l) more)
        by more Equal e = rw e refl
        by more Greater e = rw e (ap (λ (l : List (K × X)). x ∷ l) more)

    pub changed_at_front : (k : K) (o : Option X) (fs bs : List (K × X)) → Below k fs → changed_at cmp (fs ++ bs) k o ≡ fs ++ changed_at cmp bs k o
    changed_at_front k None fs bs h = without_front k fs bs h
    changed_at_front k (Some v) fs bs h = put_front k v fs bs h

    pub changed_at_back : (k : K) (o : Option X) (fs bs : List (K × X)) → Above k bs → changed_at cmp (fs ++ bs) k o ≡ changed_at cmp fs k o ++ bs
    changed_at_back k None fs bs h = without_back k fs bs h
    changed_at_back k (Some v) fs bs h = put_back k v fs bs h

    all_put : (P : K → Type 0) (xs : List (K × X)) (k : K) (v : X) → AllByRecursion (λ x. P x.0) xs → P k → AllByRecursion (λ x. P x.0) (put cmp key_of xs (k, v))
    all_put P [] k v a p = (p, tt)
    all_put P (x ∷ xs) k v a p = by (all_put P xs k v a.1 p) (cmp x.0 k) refl
      where
        by : AllByRecursion (λ y. P y.0) (put cmp key_of xs (k, v)) → (o : Ordering) → cmp x.0 k ≡ o → AllByRecursion (λ y. P y.0) (put cmp key_of (x ∷ xs) (k, v))
        by more Less e = rw e (a.0, more)
        by more Equal e = rw e (p, a.1)
        by more Greater e = rw e (p, (a.0, a.1))

    all_without : (P : K → Type 0) (xs : List (K × X)) (k : K) → AllByRecursion (λ x. P x.0) xs → AllByRecursion (λ x. P x.0) (without cmp key_of xs k)
    all_without P [] k a = tt
    all_without P (x ∷ xs) k a = by (all_without P xs k a.1) (cmp x.0 k) refl
      where
        by : AllByRecursion (λ y. P y.0) (without cmp key_of xs k) → (o : Ordering) → cmp x.0 k ≡ o → AllByRecursion (λ y. P y.0) (without cmp key_of (x ∷ xs) k)
        by more Less e = rw e (a.0, more)
        by more Equal e = rw e a.1
        by more Greater e = rw e (a.0, more)

    all_changed_at : (P : K → Type 0) (xs : List (K × X)) (k : K) (o : Option X) → AllByRecursion (λ x. P x.0) xs → P k → AllByRecursion (λ x. P x.0) (changed_at cmp xs k o)
    all_changed_at P xs k None a p = all_without P xs k a
    all_changed_at P xs k (Some v) a p = all_put P xs k v a p

    pub all_weaken : (P Q : K → Type 0) (xs : List (K × X)) → ((k : K) → P k → Q k) → AllByRecursion (λ x. P x.0) xs → AllByRecursion (λ x. Q x.0) xs
    all_weaken P Q [] f a = tt
    all_weaken P Q (x ∷ xs) f a = (f x.0 a.0, all_weaken P Q xs f a.1)

    pub ascends_first : (xs ys : List (K × X)) → Ascends cmp key_of (xs ++ ys) → Ascends cmp key_of xs
    ascends_first [] ys up = tt
    ascends_first (x ∷ xs) ys up = (all_first (λ y. cmp x.0 y.0 ≡ Less) xs ys up.0, ascends_first xs ys up.1)

    pub ascends_second : (xs ys : List (K × X)) → Ascends cmp key_of (xs ++ ys) → Ascends cmp key_of ys
    ascends_second [] ys up = up
    ascends_second (x ∷ xs) ys up = ascends_second xs ys up.1

    -- what begins at a key is above all that is below the key
    pub above_head : (a k : K) (bs : List (K × X)) → HasHead (k, bs) → Ascends cmp key_of bs → cmp a k ≡ Less → Above a bs
    above_head a k [] head up l = absurd head
    above_head a k (b ∷ bs) head up l =
        let first : cmp a b.0 ≡ Less = rw head l in
        (first, all_weaken (λ z. cmp b.0 z ≡ Less) (λ z. cmp a z ≡ Less) bs (λ z m. order.trans a b.0 z first m) up.0)

    first_at : (a k : K) (bs : List (K × X)) → HasHead (k, bs) → AllByRecursion (λ y. cmp a y.0 ≡ Less) bs → cmp a k ≡ Less
    first_at a k [] head all = absurd head
    first_at a k (b ∷ bs) head all = rw (sym head) all.0

    pub below_head : (k : K) (fs bs : List (K × X)) → HasHead (k, bs) → Ascends cmp key_of (fs ++ bs) → Below k fs
    below_head k [] bs head up = tt
    below_head k (x ∷ fs) bs head up = (first_at x.0 k bs head (all_second (λ y. cmp x.0 y.0 ≡ Less) fs bs up.0), below_head k fs bs head up.1)

    front_below : (xs : List (K × X)) (k : K) → Below k (front cmp xs k)
    front_below [] k = tt
    front_below (x ∷ xs) k = by (front_below xs k) (cmp x.0 k) refl
      where
        by : Below k (front cmp xs k) → (o : Ordering) → cmp x.0 k ≡ o → Below k (front cmp (x ∷ xs) k)
        by more Less e = rw e (e, more)
        by more Equal e = rw e tt
        by more Greater e = rw e tt

    pub back_ascends : (xs : List (K × X)) (k : K) → Ascends cmp key_of xs → Ascends cmp key_of (back cmp xs k)
    back_ascends [] k up = tt
    back_ascends (x ∷ xs) k up = by (back_ascends xs k up.1) (cmp x.0 k) refl
      where
        by : Ascends cmp key_of (back cmp xs k) → (o : Ordering) → cmp x.0 k ≡ o → Ascends cmp key_of (back cmp (x ∷ xs) k)
        by more Less e = rw e more
        by more Equal e = rw e up.1
        by more Greater e = rw e up

    put_between : (xs : List (K × X)) (k : K) (v : X) → put cmp key_of xs (k, v) ≡ front cmp xs k ++ ((k, v) ∷ back cmp xs k)
    put_between [] k v = refl
    put_between (x ∷ xs) k v = by (put_between xs k v) (cmp x.0 k) refl
      where
        by : put cmp key_of xs (k, v) ≡ front cmp xs k ++ ((k, v) ∷ back cmp xs k) → (o : Ordering) → cmp x.0 k ≡ o → put cmp key_of (x ∷ xs) (k, v) ≡ front cmp (x ∷ xs) k ++ ((k, v) ∷ back cmp (x ∷ xs) k)
        by more Less e = rw e (ap (λ (l : List (K × X)). x ∷ l) more)
        by more Equal e = rw e refl
        by more Greater e = rw e refl

    without_between : (xs : List (K × X)) (k : K) → Ascends cmp key_of xs → without cmp key_of xs k ≡ front cmp xs k ++ back cmp xs k
    without_between [] k up = refl
    without_between (x ∷ xs) k up = by (without_between xs k up.1) (cmp x.0 k) refl
      where
        by : without cmp key_of xs k ≡ front cmp xs k ++ back cmp xs k → (o : Ordering) → cmp x.0 k ≡ o → without cmp key_of (x ∷ xs) k ≡ front cmp (x ∷ xs) k ++ back cmp (x ∷ xs) k
        by more Less e = rw e (ap (λ (l : List (K × X)). x ∷ l) more)
        by more Equal e = rw e refl
        by more Greater e = rw e (ap (λ (l : List (K × X)). x ∷ l) (without_above k xs (all_weaken (λ z. cmp x.0 z ≡ Less) (λ z. cmp k z ≡ Less) xs (λ z m. order.trans k x.0 z (flip_back x.0 k e) m) up.0)))

    changed_between : (xs : List (K × X)) (k : K) (o : Option X) → Ascends cmp key_of xs → changed_at cmp xs k o ≡ (front cmp xs k ++ given k o) ++ back cmp xs k
    changed_between xs k None up = without_between xs k up ∙ ap (λ (l : List (K × X)). l ++ back cmp xs k) (sym (append-nil (front cmp xs k)))
    changed_between xs k (Some v) up = put_between xs k v ∙ sym (append_assoc (front cmp xs k) ((k, v) ∷ []) (back cmp xs k))

    given_below : (k d : K) (o : Option X) → cmp k d ≡ Less → Below d (given k o)
    given_below k d None l = tt
    given_below k d (Some v) l = (l, tt)

    pub ascends_changed_at : (xs : List (K × X)) (k : K) (o : Option X) → Ascends cmp key_of xs → Ascends cmp key_of (changed_at cmp xs k o)
    ascends_changed_at xs k None up = ascends_without cmp key_of order xs k up
    ascends_changed_at xs k (Some v) up = ascends_put cmp key_of order xs (k, v) up

  module _ {X C : Type 0} (read : C → Option X) where
    -- changes above a front of the pairs leave it
    changed_front : (fs bs : List (K × X)) (cs : List (K × C)) → AllByRecursion (λ c. Below c.0 fs) cs → changed cmp read (fs ++ bs) cs ≡ fs ++ changed cmp read bs cs
    changed_front fs bs [] h = refl
    changed_front fs bs (c ∷ cs) h = ap (λ (l : List (K × X)). changed cmp read l cs) (changed_at_front c.0 (read c.1) fs bs h.0) ∙ changed_front fs (changed_at cmp bs c.0 (read c.1)) cs h.1

    -- changes below the rest of the pairs leave it
    changed_back : (fs bs : List (K × X)) (cs : List (K × C)) → AllByRecursion (λ c. Above c.0 bs) cs → changed cmp read (fs ++ bs) cs ≡ changed cmp read fs cs ++ bs
    changed_back fs bs [] h = refl
    changed_back fs bs (c ∷ cs) h = ap (λ (l : List (K × X)). changed cmp read l cs) (changed_at_back c.0 (read c.1) fs bs h.0) ∙ changed_back (changed_at cmp fs c.0 (read c.1)) bs cs h.1

    changed_join : (xs : List (K × X)) (cs ds : List (K × C)) → changed cmp read xs (cs ++ ds) ≡ changed cmp read (changed cmp read xs cs) ds
    changed_join xs [] ds = refl
    changed_join xs (c ∷ cs) ds = changed_join (changed_at cmp xs c.0 (read c.1)) cs ds

    all_changed : (P : K → Type 0) (xs : List (K × X)) (cs : List (K × C)) → AllByRecursion (λ x. P x.0) xs → AllByRecursion (λ c. P c.0) cs → AllByRecursion (λ x. P x.0) (changed cmp read xs cs)
    all_changed P xs [] a p = a
    all_changed P xs (c ∷ cs) a p = all_changed P (changed_at cmp xs c.0 (read c.1)) cs (all_changed_at P xs c.0 (read c.1) a p.0) p.1

    pub ascends_changed : (xs : List (K × X)) (cs : List (K × C)) → Ascends cmp key_of xs → Ascends cmp key_of (changed cmp read xs cs)
    ascends_changed xs [] up = up
    ascends_changed xs (c ∷ cs) up = ascends_changed (changed_at cmp xs c.0 (read c.1)) cs (ascends_changed_at xs c.0 (read c.1) up)

    below_changed : (k : K) (fs : List (K × X)) (cs ds : List (K × C)) → Below k fs → AllByRecursion (λ c. cmp c.0 k ≡ Less) cs → AllByRecursion (λ d. is_lt (cmp d.0 k) ≡ false) ds → AllByRecursion (λ d. Below d.0 (changed cmp read fs cs)) ds
    below_changed k fs cs [] a b n = tt
    below_changed k fs cs (d ∷ ds) a b n =
        (all_weaken (λ z. cmp z k ≡ Less) (λ z. cmp z d.0 ≡ Less) (changed cmp read fs cs) (λ z l. less_through z k d.0 l n.0) (all_changed (λ z. cmp z k ≡ Less) fs cs a b), below_changed k fs cs ds a b n.1)

    above_all : (k : K) (bs : List (K × X)) (cs : List (K × C)) → HasHead (k, bs) → Ascends cmp key_of bs → AllByRecursion (λ c. cmp c.0 k ≡ Less) cs → AllByRecursion (λ c. Above c.0 bs) cs
    above_all k bs [] head up b = tt
    above_all k bs (c ∷ cs) head up b = (above_head c.0 k bs head up b.0, above_all k bs cs head up b.1)

    -- pairs and changes, both parted at a key
    pub changed_parted : (k : K) (fs bs : List (K × X)) (cs ds : List (K × C)) → HasHead (k, bs) → Ascends cmp key_of (fs ++ bs) → AllByRecursion (λ c. cmp c.0 k ≡ Less) cs → AllByRecursion (λ d. is_lt (cmp d.0 k) ≡ false) ds → changed cmp read (fs ++ bs) (cs ++ ds) ≡ changed cmp read fs cs ++ changed cmp read bs ds
    changed_parted k fs bs cs ds head up b n =
        changed_join (fs ++ bs) cs ds
        ∙ (ap (λ (l : List (K × X)). changed cmp read l ds) (changed_back fs bs cs (above_all k bs cs head (ascends_second fs bs up) b))
        ∙ changed_front (changed cmp read fs cs) bs ds (below_changed k fs cs ds (below_head k fs bs head up) b n))

    later_above : (c : K × C) (xs : List (K × X)) (cs : List (K × C)) → Below c.0 xs → (o : Option X) → AllByRecursion (λ d. cmp c.0 d.0 ≡ Less) cs → AllByRecursion (λ d. Below d.0 (xs ++ given c.0 o)) cs
    later_above c xs [] h o a = tt
    later_above c xs (d ∷ cs) h o a =
        (all_join (λ x. cmp x.0 d.0 ≡ Less) xs (given c.0 o) (all_weaken (λ z. cmp z c.0 ≡ Less) (λ z. cmp z d.0 ≡ Less) xs (λ z l. order.trans z c.0 d.0 l a.0) h) (given_below c.0 d.0 o a.0), later_above c xs cs h o a.1)

    -- the first of several changes: what is before it, what it puts, and the others on what is behind it
    pub change_step : (xs : List (K × X)) (c : K × C) (cs : List (K × C)) → Ascends cmp key_of xs → AllByRecursion (λ d. cmp c.0 d.0 ≡ Less) cs → changed cmp read xs (c ∷ cs) ≡ (front cmp xs c.0 ++ given c.0 (read c.1)) ++ changed cmp read (back cmp xs c.0) cs
    change_step xs c cs up a =
        ap (λ (l : List (K × X)). changed cmp read l cs) (changed_between xs c.0 (read c.1) up)
        ∙ changed_front (front cmp xs c.0 ++ given c.0 (read c.1)) (back cmp xs c.0) cs (later_above c (front cmp xs c.0) cs (front_below xs c.0) (read c.1) a)
