-- Pairs of a key and a value, in lists in the order of the keys.
use Rattle.std.specs.Prelude.{List, [], ◌∷◌, Option, Some, None, if◌then◌else◌}
use Rattle.std.specs.Borrow.{Bor}
use Rattle.std.specs.declared.sync.Arc.{Arc}
use Rattle.std.specs.Arc.{arc_value}
use Rattle.std.specs.declared.cmp.Ordering.{Ordering}
use Rattle.std.specs.Ordering.{is_gt, is_lt, match_ordering}
use Rattle.std.specs.Option.{option_or}

-- the key and the value of an entry, as the value is read
abbrev pub pair_by : {K X C : Type 0} → (C → X) → K × C → K × X
pair_by read e = (e.0, read e.1)

-- the same, of an entry whose value is shared
abbrev pub pair_of : {K X Z : Type 0} → K × Arc X Z → K × X
pair_of e = (e.0, arc_value e.1)

abbrev pub key_of : {K X : Type 0} → K × X → K
key_of e = e.0

abbrev pub value_of : {K X : Type 0} → K × X → X
value_of e = e.1

-- what two references refer to
abbrev pub both : {K X : Type 0} → Bor K × Bor X → K × X
both e = (e.0.now, e.1.now)

abbrev pub first_of : {X : Type 0} → List X → Option X
first_of [] = None
first_of (x ∷ xs) = Some x

-- what is looked up in a part, if there is one
abbrev pub within : {P Y : Type 0} → Option P → (P → Option Y) → Option Y
within None f = None
within (Some p) f = f p

module _ {K X : Type 0} (cmp : K → K → Ordering) where
  -- the value of the last entry whose key is not above q, where keys ascend
  abbrev pub part_at : List (K × X) → K → Option X
  part_at [] q = None
  part_at (x ∷ xs) q = if is_gt (cmp x.0 q) then None else option_or (part_at xs q) (Some x.1)

  -- the first entry whose key is above q
  abbrev pub first_above : List (K × X) → K → Option (K × X)
  first_above [] q = None
  first_above (x ∷ xs) q = if is_gt (cmp x.0 q) then Some x else first_above xs q

  -- the entries before the first whose key is not below q
  abbrev pub front : List (K × X) → K → List (K × X)
  front [] q = []
  front (x ∷ xs) q = if is_lt (cmp x.0 q) then x ∷ front xs q else []

  -- the entries behind those, without one that has the key q
  abbrev pub back : List (K × X) → K → List (K × X)
  back [] q = []
  back (x ∷ xs) q = match_ordering (cmp x.0 q) (back xs q) xs (x ∷ xs)
