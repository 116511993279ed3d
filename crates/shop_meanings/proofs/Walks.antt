-- Walks up, by their steps.
use Rattle.std.proofs.Common.{◌≡◌, ℕ, zero, suc, ◌+◌, ◌≤◌, ◌<◌, List, [], ◌∷◌, ◌++◌, length, Option, Some, None, refl, sym, ap, ◌∙◌, arith, length-append}
use Rattle.std.specs.Option.{option_map_or}
use Rattle.shop_meanings.specs.Categories.{walk}

module _ (up : ℕ → Option ℕ) where
  -- what a walk of a step more comes to
  abbrev pub one_up : ℕ → Option ℕ → List ℕ
  one_up n above = option_map_or (λ parent. walk up n parent ++ parent ∷ []) above []

  -- a walk from a root
  pub walk_root : (n id : ℕ) → up id ≡ None → walk up n id ≡ []
  walk_root zero id e = refl
  walk_root (suc n) id e = ap (one_up n) e

  -- a walk of a step more
  pub walk_step : (n id parent : ℕ) → up id ≡ Some parent → walk up (suc n) id ≡ walk up n parent ++ parent ∷ []
  walk_step n id parent e = ap (one_up n) e

  one_more : (n parent : ℕ) → length (walk up n parent ++ parent ∷ []) ≡ suc (length (walk up n parent))
  one_more n parent = let e = length-append (walk up n parent) (parent ∷ []) in omega (arith, e)

  -- its length
  pub length_step : (n id parent : ℕ) → up id ≡ Some parent → length (walk up (suc n) id) ≡ suc (length (walk up n parent))
  length_step n id parent e = ap length (walk_step n id parent e) ∙ one_more n parent

  -- a walk has as many steps as it may at most
  pub walk_short : (n id : ℕ) → length (walk up n id) ≤ n
  walk_short zero id = omega arith
  walk_short (suc n) id = by (walk_short n) (up id) refl
    where
      by : ((parent : ℕ) → length (walk up n parent) ≤ n) → (o : Option ℕ) → up id ≡ o → length (walk up (suc n) id) ≤ suc n
      by more None e = let l : length (walk up (suc n) id) ≡ 0 = ap length (walk_root (suc n) id e) in omega (arith, l)
      by more (Some parent) e = let l = length_step n id parent e in let k = more parent in omega (arith, l, k)

  -- a walk that came to its end goes on nowhere, however many steps it may make
  pub walk_enough : (n m id : ℕ) → length (walk up n id) < n → length (walk up n id) ≤ m → walk up m id ≡ walk up n id
  walk_enough zero m id l k = absurd (omega arith)
  walk_enough (suc n) m id l k = by (walk_enough n) (up id) refl m k
    where
      by : ((m id : ℕ) → length (walk up n id) < n → length (walk up n id) ≤ m → walk up m id ≡ walk up n id) → (o : Option ℕ) → up id ≡ o → (m : ℕ) → length (walk up (suc n) id) ≤ m → walk up m id ≡ walk up (suc n) id
      by more None e m k = walk_root m id e ∙ sym (walk_root (suc n) id e)
      by more (Some parent) e zero k = let s = length_step n id parent e in absurd (omega (arith, s, k))
      by more (Some parent) e (suc m) k =
          let s = length_step n id parent e in
          let rest : walk up m parent ≡ walk up n parent = more m parent (omega (arith, s, l)) (omega (arith, s, k)) in
          walk_step m id parent e ∙ (ap (λ (ups : List ℕ). ups ++ parent ∷ []) rest ∙ sym (walk_step n id parent e))

  -- a walk that came to its end begins at a root
  pub walk_from_root : (n id first : ℕ) (rest : List ℕ) → length (walk up n id) < n → walk up n id ≡ first ∷ rest → up first ≡ None
  walk_from_root zero id first rest l e = absurd (omega arith)
  walk_from_root (suc n) id first rest l e = by (walk_from_root n) (up id) refl
    where
      no_first : (first : ℕ) (rest : List ℕ) → [] ≡ first ∷ rest → up first ≡ None
      no_first first rest e = absurd (cc)

      heads : (a first : ℕ) (more rest : List ℕ) → a ∷ more ≡ first ∷ rest → a ≡ first
      heads a first more rest e = cc

      -- nothing stands above where a walk has no step
      ends : (parent : ℕ) → length (walk up n parent) < n → walk up n parent ≡ [] → (o : Option ℕ) → up parent ≡ o → up parent ≡ None
      ends parent k f None g = g
      ends parent k f (Some higher) g = from n k f
        where
          from : (m : ℕ) → length (walk up m parent) < m → walk up m parent ≡ [] → up parent ≡ None
          from zero k f = absurd (omega arith)
          from (suc m) k f = let s = length_step m parent higher g in let t : length (walk up (suc m) parent) ≡ 0 = ap length f in absurd (omega (arith, s, t))

      below : (parent : ℕ) → length (walk up n parent) < n → ((first : ℕ) (rest : List ℕ) → length (walk up n parent) < n → walk up n parent ≡ first ∷ rest → up first ≡ None) → (ups : List ℕ) → walk up n parent ≡ ups → ups ++ parent ∷ [] ≡ first ∷ rest → up first ≡ None
      below parent k more [] f g = ap up (sym (heads parent first [] rest g)) ∙ ends parent k f (up parent) refl
      below parent k more (y ∷ ys) f g = ap up (sym (heads y first (ys ++ parent ∷ []) rest g)) ∙ more y ys k f

      by : ((id first : ℕ) (rest : List ℕ) → length (walk up n id) < n → walk up n id ≡ first ∷ rest → up first ≡ None) → (o : Option ℕ) → up id ≡ o → up first ≡ None
      by more None f = no_first first rest (sym (walk_root (suc n) id f) ∙ e)
      by more (Some parent) f =
          let s = length_step n id parent f in
          let k : length (walk up n parent) < n = omega (arith, s, l) in
          below parent k (more parent) (walk up n parent) refl (sym (walk_step n id parent f) ∙ e)
