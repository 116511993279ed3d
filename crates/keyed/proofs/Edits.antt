-- An edit at the place that a search found is the put or the removal, and keeps the key order.
use Rattle.std.proofs.Common.{◌≡◌, ℕ, List, set, sym, subst}
use Rattle.std.specs.declared.cmp.Ordering.{Ordering}
use Rattle.std.specs.Cmp.{IsTotalOrder}
use Rattle.std.specs.List.{insert, remove}
use Rattle.keyed.specs.Keyed.{Ascends, put, without}
use Rattle.keyed.proofs.Places.{IsAt, IsGap, put_at, put_gap, without_at}
use Rattle.keyed.proofs.Changes.{ascends_put, ascends_without}

module _ {K X : Type 0} (cmp : K → K → Ordering) (key : X → K) (order : IsTotalOrder cmp) (xs : List X) (up : Ascends cmp key xs) where
  -- a write over the element with y's key puts y
  pub set_puts : (y : X) (i : ℕ) → IsAt cmp key xs (key y) i → record { order : Ascends cmp key (set xs i y); list : set xs i y ≡ put cmp key xs y }
  set_puts y i at = let e = put_at cmp key xs y i at in record { order = subst (Ascends cmp key) e (ascends_put cmp key order xs y up); list = sym e }

  -- an insert at the gap for y's key puts y
  pub insert_puts : (y : X) (i : ℕ) → IsGap cmp key xs (key y) i → record { order : Ascends cmp key (insert xs i y); list : insert xs i y ≡ put cmp key xs y }
  insert_puts y i gap = let e = put_gap cmp key xs y i gap in record { order = subst (Ascends cmp key) e (ascends_put cmp key order xs y up); list = sym e }

  -- a removal at the place of the key q takes the element with that key
  pub remove_takes : (q : K) (i : ℕ) → IsAt cmp key xs q i → record { order : Ascends cmp key (remove xs i); list : remove xs i ≡ without cmp key xs q }
  remove_takes q i at = let e = without_at cmp key xs q i at in record { order = subst (Ascends cmp key) e (ascends_without cmp key order xs q up); list = sym e }
