-- Looking up in parts that stand under their first keys.
use Rattle.std.proofs.Common.{Bool, false, true, ◌≡◌, subst, List, [], ◌∷◌, ◌++◌, Option, Some, None, refl, sym, ap, ◌∙◌}
use Rattle.std.specs.declared.cmp.Ordering.{Ordering}
use Rattle.std.specs.declared.cmp.Ordering.TheVariants.{Less, Equal, Greater}
use Rattle.std.specs.Cmp.{IsTotalOrder}
use Rattle.std.specs.Option.{option_or}
use Rattle.std.specs.Ordering.{is_eq, is_gt, is_lt, ordering_reverse}
use Rattle.std.specs.List.{AllByRecursion, flat_map}
use Rattle.keyed.specs.Keyed.{Ascends, find}
use Rattle.paged.specs.Pairs.{key_of, part_at, first_above, first_of, within}
use Rattle.paged.specs.Parts.{HasHead}
use Rattle.paged.specs.Walk.{from, parts_from}
use Rattle.paged.proofs.Heads.{all_first, all_second}

or_none : {Y : Type 0} (o : Option Y) → option_or o None ≡ o
or_none None = refl
or_none (Some y) = refl

module _ {K X P : Type 0} (cmp : K → K → Ordering) (order : IsTotalOrder cmp) (f : P → List (K × X)) where
  -- what the parts hold
  abbrev pub flat : List (K × P) → List (K × X)
  flat t = flat_map (λ e. f e.1) t

  abbrev pub BeginAt : List (K × P) → Type 0
  BeginAt t = AllByRecursion (λ e. HasHead (e.0, f e.1)) t

  ascends_first : (xs ys : List (K × X)) → Ascends cmp key_of (xs ++ ys) → Ascends cmp key_of xs
  ascends_first [] ys up = tt
  ascends_first (x ∷ xs) ys up = (all_first (λ y. cmp x.0 y.0 ≡ Less) xs ys up.0, ascends_first xs ys up.1)

  ascends_second : (xs ys : List (K × X)) → Ascends cmp key_of (xs ++ ys) → Ascends cmp key_of ys
  ascends_second [] ys up = up
  ascends_second (x ∷ xs) ys up = ascends_second xs ys up.1

  first_key : (Q : K → Type 0) (k : K) (xs : List (K × X)) → HasHead (k, xs) → AllByRecursion (λ x. Q x.0) xs → Q k
  first_key Q k [] head all = absurd head
  first_key Q k (x ∷ xs) head all = let h : x.0 ≡ k = head in rw (← h) all.0

  -- what holds of all keys holds of those that parts stand under
  keys_too : (Q : K → Type 0) (t : List (K × P)) → BeginAt t → AllByRecursion (λ x. Q x.0) (flat t) → AllByRecursion (λ e. Q e.0) t
  keys_too Q [] begin all = tt
  keys_too Q (e ∷ t) begin all =
      (first_key Q e.0 (f e.1) begin.0 (all_first (λ x. Q x.0) (f e.1) (flat t) all), keys_too Q t begin.1 (all_second (λ x. Q x.0) (f e.1) (flat t) all))

  -- what is behind a part is above its key
  rest_above : (k : K) (xs ys : List (K × X)) → HasHead (k, xs) → Ascends cmp key_of (xs ++ ys) → AllByRecursion (λ y. cmp k y.0 ≡ Less) ys
  rest_above k [] ys head up = absurd head
  rest_above k (x ∷ xs) ys head up = let h : x.0 ≡ k = head in rw (← h) (all_second (λ y. cmp x.0 y.0 ≡ Less) xs ys up.0)

  pub keys_ascend : (t : List (K × P)) → BeginAt t → Ascends cmp key_of (flat t) → Ascends cmp key_of t
  keys_ascend [] begin up = tt
  keys_ascend (e ∷ t) begin up =
      (keys_too (λ k. cmp e.0 k ≡ Less) t begin.1 (rest_above e.0 (f e.1) (flat t) begin.0 up), keys_ascend t begin.1 (ascends_second (f e.1) (flat t) up))

  -- what holds of each part holds of one that is found
  pub part_too : (Q : P → Type 0) (t : List (K × P)) (q : K) (p : P) → AllByRecursion (λ e. Q e.1) t → part_at cmp t q ≡ Some p → Q p
  part_too Q [] q p all found = absurd (cc)
  part_too Q (e ∷ t) q p all found = by (λ (m : part_at cmp t q ≡ Some p). part_too Q t q p all.1 m) (is_gt (cmp e.0 q)) (part_at cmp t q) refl refl
    where
      none_some : None ≡ Some p → Q p
      none_some h = cc

      same_part : (r : P) → Some r ≡ Some p → r ≡ p
      same_part r h = cc

      by : (part_at cmp t q ≡ Some p → Q p) → (b : Bool) (o : Option P) → is_gt (cmp e.0 q) ≡ b → part_at cmp t q ≡ o → Q p
      by more true o g m = none_some (rw g at found)
      by more false None g m = subst Q (same_part e.1 (rw (g, m) at found)) all.0
      by more false (Some r) g m = more (m ∙ (rw (g, m) at found))

  parts_ascend : (t : List (K × P)) → Ascends cmp key_of (flat t) → AllByRecursion (λ e. Ascends cmp key_of (f e.1)) t
  parts_ascend [] up = tt
  parts_ascend (e ∷ t) up = (ascends_first (f e.1) (flat t) up, parts_ascend t (ascends_second (f e.1) (flat t) up))

  pub part_ascends : (t : List (K × P)) (q : K) (p : P) → Ascends cmp key_of (flat t) → part_at cmp t q ≡ Some p → Ascends cmp key_of (f p)
  part_ascends t q p up found = part_too (λ p. Ascends cmp key_of (f p)) t q p (parts_ascend t up) found

  find_join : (xs ys : List (K × X)) (q : K) → find cmp key_of (xs ++ ys) q ≡ option_or (find cmp key_of xs q) (find cmp key_of ys q)
  find_join [] ys q = refl
  find_join (x ∷ xs) ys q = by (find_join xs ys q) (is_eq (cmp x.0 q)) refl
    where
      by : find cmp key_of (xs ++ ys) q ≡ option_or (find cmp key_of xs q) (find cmp key_of ys q) → (b : Bool) → is_eq (cmp x.0 q) ≡ b → find cmp key_of ((x ∷ xs) ++ ys) q ≡ option_or (find cmp key_of (x ∷ xs) q) (find cmp key_of ys q)
      by more true g = rw g refl
      by more false g = rw g more

  above_join : (xs ys : List (K × X)) (q : K) → first_above cmp (xs ++ ys) q ≡ option_or (first_above cmp xs q) (first_above cmp ys q)
  above_join [] ys q = refl
  above_join (x ∷ xs) ys q = by (above_join xs ys q) (is_gt (cmp x.0 q)) refl
    where
      by : first_above cmp (xs ++ ys) q ≡ option_or (first_above cmp xs q) (first_above cmp ys q) → (b : Bool) → is_gt (cmp x.0 q) ≡ b → first_above cmp ((x ∷ xs) ++ ys) q ≡ option_or (first_above cmp (x ∷ xs) q) (first_above cmp ys q)
      by more true g = rw g refl
      by more false g = rw g more

  find_below : (xs : List (K × X)) (q : K) → AllByRecursion (λ x. cmp x.0 q ≡ Less) xs → find cmp key_of xs q ≡ None
  find_below [] q all = refl
  find_below (x ∷ xs) q all = rw all.0 (find_below xs q all.1)

  above_below : (xs : List (K × X)) (q : K) → AllByRecursion (λ x. cmp x.0 q ≡ Less) xs → first_above cmp xs q ≡ None
  above_below [] q all = refl
  above_below (x ∷ xs) q all = rw all.0 (above_below xs q all.1)

  find_over : (xs : List (K × X)) (q : K) → AllByRecursion (λ x. cmp x.0 q ≡ Greater) xs → find cmp key_of xs q ≡ None
  find_over [] q all = refl
  find_over (x ∷ xs) q all = rw all.0 (find_over xs q all.1)

  first_over : (xs : List (K × X)) (q : K) → AllByRecursion (λ x. cmp x.0 q ≡ Greater) xs → first_above cmp xs q ≡ first_of xs
  first_over [] q all = refl
  first_over (x ∷ xs) q all = rw all.0 refl

  weaken : (Q R : K → Type 0) (xs : List (K × X)) → ((k : K) → Q k → R k) → AllByRecursion (λ x. Q x.0) xs → AllByRecursion (λ x. R x.0) xs
  weaken Q R [] g all = tt
  weaken Q R (x ∷ xs) g all = (g x.0 all.0, weaken Q R xs g all.1)

  -- above a key that is above q
  over_through : (k q d : K) → cmp k q ≡ Greater → cmp k d ≡ Less → cmp d q ≡ Greater
  over_through k q d g l = order.antisymm d q ∙ ap ordering_reverse (order.trans q k d (order.antisymm q k ∙ ap ordering_reverse g) l)

  -- below a key that isn't above q
  below_through : (d k q : K) → cmp d k ≡ Less → is_gt (cmp k q) ≡ false → cmp d q ≡ Less
  below_through d k q l n = by (cmp k q) refl n
    where
      by : (o : Ordering) → cmp k q ≡ o → is_gt o ≡ false → cmp d q ≡ Less
      by Less e m = order.trans d k q l e
      by Equal e m =
          let g : cmp k d ≡ Greater = order.antisymm k d ∙ ap ordering_reverse l in
          let h : cmp q d ≡ Greater = sym (order.congr k q d e) ∙ g in
          order.antisymm d q ∙ ap ordering_reverse h
      by Greater e m = absurd (cc)

  over : (k q : K) (xs ys : List (K × X)) → cmp k q ≡ Greater → HasHead (k, xs) → Ascends cmp key_of (xs ++ ys) → AllByRecursion (λ x. cmp x.0 q ≡ Greater) (xs ++ ys)
  over k q [] ys g head up = absurd head
  over k q (x ∷ xs) ys g head up =
      let h : x.0 ≡ k = head in
      let first : cmp x.0 q ≡ Greater = rw h g in
      (first, weaken (λ z. cmp x.0 z ≡ Less) (λ z. cmp z q ≡ Greater) (xs ++ ys) (λ z l. over_through x.0 q z first l) up.0)

  first_joined : (k : K) (xs ys : List (K × X)) → HasHead (k, xs) → first_of (xs ++ ys) ≡ first_of xs
  first_joined k [] ys head = absurd head
  first_joined k (x ∷ xs) ys head = refl

  -- all before a part are below its key
  before : (k : K) (xs ys : List (K × X)) → HasHead (k, ys) → Ascends cmp key_of (xs ++ ys) → AllByRecursion (λ x. cmp x.0 k ≡ Less) xs
  before k [] ys head up = tt
  before k (x ∷ xs) ys head up = (first_key (λ z. cmp x.0 z ≡ Less) k ys head (all_second (λ y. cmp x.0 y.0 ≡ Less) xs ys up.0), before k xs ys head up.1)

  head_joined : (k : K) (xs ys : List (K × X)) → HasHead (k, xs) → HasHead (k, xs ++ ys)
  head_joined k [] ys head = absurd head
  head_joined k (x ∷ xs) ys head = head

  -- no part of the rest begins at q or below it, or all of the first part is below q
  first_part : (e : K × P) (t : List (K × P)) (q : K) → BeginAt (e ∷ t) → Ascends cmp key_of (flat (e ∷ t)) → (o : Option P) → part_at cmp t q ≡ o → option_or o (Some e.1) ≡ o → AllByRecursion (λ x. cmp x.0 q ≡ Less) (f e.1)
  first_part e [] q begin up None m n = absurd (cc)
  first_part e [] q begin up (Some p) m n = absurd (cc)
  first_part e (e2 ∷ t) q begin up None m n = absurd (cc)
  first_part e (e2 ∷ t) q begin up (Some p) m n = by (is_gt (cmp e2.0 q)) refl
    where
      none_some : None ≡ Some p → AllByRecursion (λ x. cmp x.0 q ≡ Less) (f e.1)
      none_some h = cc

      by : (b : Bool) → is_gt (cmp e2.0 q) ≡ b → AllByRecursion (λ x. cmp x.0 q ≡ Less) (f e.1)
      by true g = none_some (rw g at m)
      by false g = weaken (λ z. cmp z e2.0 ≡ Less) (λ z. cmp z q ≡ Less) (f e.1) (λ z l. below_through z e2.0 q l g) (before e2.0 (f e.1) (flat (e2 ∷ t)) (head_joined e2.0 (f e2.1) (flat t) begin.1.0) up)

  -- a key is looked up in the part that holds it
  pub find_part : (t : List (K × P)) (q : K) → BeginAt t → Ascends cmp key_of (flat t) → find cmp key_of (flat t) q ≡ within (part_at cmp t q) (λ p. find cmp key_of (f p) q)
  find_part [] q begin up = refl
  find_part (e ∷ t) q begin up = by (cmp e.0 q) refl (find_part t q begin.1 (ascends_second (f e.1) (flat t) up))
    where
      under : is_gt (cmp e.0 q) ≡ false → (o : Option P) → part_at cmp t q ≡ o → find cmp key_of (flat t) q ≡ within o (λ p. find cmp key_of (f p) q) → find cmp key_of (flat (e ∷ t)) q ≡ within (part_at cmp (e ∷ t) q) (λ p. find cmp key_of (f p) q)
      under g None m rest = rw (g, m) (find_join (f e.1) (flat t) q ∙ rw rest (or_none (find cmp key_of (f e.1) q)))
      under g (Some p) m rest = rw (g, m) (find_join (f e.1) (flat t) q ∙ rw (find_below (f e.1) q (first_part e t q begin up (Some p) m refl)) rest)

      by : (o : Ordering) → cmp e.0 q ≡ o → find cmp key_of (flat t) q ≡ within (part_at cmp t q) (λ p. find cmp key_of (f p) q) → find cmp key_of (flat (e ∷ t)) q ≡ within (part_at cmp (e ∷ t) q) (λ p. find cmp key_of (f p) q)
      by Less g rest = under (rw g refl) (part_at cmp t q) refl rest
      by Equal g rest = under (rw g refl) (part_at cmp t q) refl rest
      by Greater g rest = rw g (find_over (f e.1 ++ flat t) q (over e.0 q (f e.1) (flat t) g begin.0 up))

  -- the first above a key is in the part that holds the key, or first in the part above it
  abbrev pub above_parts : List (K × P) → K → Option (K × X)
  above_parts t q = option_or (within (part_at cmp t q) (λ p. first_above cmp (f p) q)) (within (first_above cmp t q) (λ e. first_of (f e.1)))

  pub above_part : (t : List (K × P)) (q : K) → BeginAt t → Ascends cmp key_of (flat t) → first_above cmp (flat t) q ≡ above_parts t q
  above_part [] q begin up = refl
  above_part (e ∷ t) q begin up = by (cmp e.0 q) refl (above_part t q begin.1 (ascends_second (f e.1) (flat t) up))
    where
      under : is_gt (cmp e.0 q) ≡ false → (o : Option P) → part_at cmp t q ≡ o → first_above cmp (flat t) q ≡ option_or (within o (λ p. first_above cmp (f p) q)) (within (first_above cmp t q) (λ e2. first_of (f e2.1))) → first_above cmp (flat (e ∷ t)) q ≡ above_parts (e ∷ t) q
      under g None m rest = rw (g, m) (above_join (f e.1) (flat t) q ∙ rw rest refl)
      under g (Some p) m rest = rw (g, m) (above_join (f e.1) (flat t) q ∙ rw (above_below (f e.1) q (first_part e t q begin up (Some p) m refl)) rest)

      by : (o : Ordering) → cmp e.0 q ≡ o → first_above cmp (flat t) q ≡ above_parts t q → first_above cmp (flat (e ∷ t)) q ≡ above_parts (e ∷ t) q
      by Less g rest = under (rw g refl) (part_at cmp t q) refl rest
      by Equal g rest = under (rw g refl) (part_at cmp t q) refl rest
      by Greater g rest = rw g (first_over (f e.1 ++ flat t) q (over e.0 q (f e.1) (flat t) g begin.0 up) ∙ first_joined e.0 (f e.1) (flat t) begin.0)

  -- ---- from a key on

  from_over : (xs ys : List (K × X)) (q : K) → AllByRecursion (λ y. cmp y.0 q ≡ Greater) ys → from cmp (xs ++ ys) q ≡ from cmp xs q ++ ys
  from_over [] [] q all = refl
  from_over [] (y ∷ ys) q all = rw all.0 refl
  from_over (x ∷ xs) ys q all = by (from_over xs ys q all) (is_lt (cmp x.0 q)) refl
    where
      by : from cmp (xs ++ ys) q ≡ from cmp xs q ++ ys → (b : Bool) → is_lt (cmp x.0 q) ≡ b → from cmp ((x ∷ xs) ++ ys) q ≡ from cmp (x ∷ xs) q ++ ys
      by more true g = rw g more
      by more false g = rw g refl

  from_below : (xs ys : List (K × X)) (q : K) → AllByRecursion (λ x. cmp x.0 q ≡ Less) xs → from cmp (xs ++ ys) q ≡ from cmp ys q
  from_below [] ys q all = refl
  from_below (x ∷ xs) ys q all = rw all.0 (from_below xs ys q all.1)

  -- the first part from the key on, and the others
  abbrev pub begun : List (K × P) → K → List (K × X)
  begun [] q = []
  begun (e ∷ t) q = from cmp (f e.1) q ++ flat t

  is_over : (o : Ordering) → is_gt o ≡ true → o ≡ Greater
  is_over Less e = absurd (cc)
  is_over Equal e = absurd (cc)
  is_over Greater e = refl

  pub from_parts : (t : List (K × P)) (q : K) → BeginAt t → Ascends cmp key_of (flat t) → from cmp (flat t) q ≡ begun (parts_from cmp t q) q
  from_parts [] q begin up = refl
  from_parts (x ∷ []) q begin up = from_over (f x.1) [] q tt
  from_parts (x ∷ y ∷ t) q begin up = by (from_parts (y ∷ t) q begin.1 (ascends_second (f x.1) (flat (y ∷ t)) up)) (is_gt (cmp y.0 q)) refl
    where
      by : from cmp (flat (y ∷ t)) q ≡ begun (parts_from cmp (y ∷ t) q) q → (b : Bool) → is_gt (cmp y.0 q) ≡ b → from cmp (flat (x ∷ y ∷ t)) q ≡ begun (parts_from cmp (x ∷ y ∷ t) q) q
      by more true g = rw g (from_over (f x.1) (flat (y ∷ t)) q (over y.0 q (f y.1) (flat t) (is_over (cmp y.0 q) g) begin.1.0 (ascends_second (f x.1) (flat (y ∷ t)) up)))
      by more false g = rw g (from_below (f x.1) (flat (y ∷ t)) q (weaken (λ z. cmp z y.0 ≡ Less) (λ z. cmp z q ≡ Less) (f x.1) (λ z l. below_through z y.0 q l g) (before y.0 (f x.1) (flat (y ∷ t)) (head_joined y.0 (f y.1) (flat t) begin.1.0) up)) ∙ more)
