-- Reading one after the other, as a loop does.
use Rattle.std.proofs.Common.{◌≡◌, ℕ, suc, ◌-◌, ◌+◌, ◌<◌, List, [], ◌∷◌, ◌++◌, Option, Some, None, refl, sym, ap, ◌∙◌, append_assoc, arith}
use Rattle.shop_kept.specs.Readers.{Reader, ◌>>=◌, many_at}

-- what was read before, and what is still read
abbrev pub with_front : {A : Type 0} → List A → Option (List A × List ℕ) → Option (List A × List ℕ)
with_front front read = read >>= λ x. Some (front ++ x.0, x.1)

module _ {A : Type 0} (read : Reader A) where
  regroup : (front : List A) (a : A) (others : Option (List A × List ℕ)) → with_front front (others >>= λ x. Some (a ∷ x.0, x.1)) ≡ with_front (front ++ a ∷ []) others
  regroup front a (Some x) = ap (λ (items : List A). Some (items, x.1)) (simp append_assoc)
  regroup front a None = refl

  pub goes_on : (front : List A) (count i : ℕ) (bytes : List ℕ) (a : A) (after : List ℕ) (total : Option (List A × List ℕ)) → i < count → read bytes ≡ Some (a, after)
      → with_front front (many_at read (count - i) bytes) ≡ total → with_front (front ++ a ∷ []) (many_at read (count - (i + 1)) after) ≡ total
  goes_on front count i bytes a after total lt h so_far =
      let k : count - i ≡ suc (count - (i + 1)) = omega arith in
      let one : with_front front (many_at read (count - i) bytes) ≡ with_front (front ++ a ∷ []) (many_at read (count - (i + 1)) after) = rw (k, h) (regroup front a (many_at read (count - (i + 1)) after)) in
      sym one ∙ so_far
