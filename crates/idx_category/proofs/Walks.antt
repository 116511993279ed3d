-- Walks up that meet nothing of a list, and what stands below a list.
use Rattle.std.proofs.Common.{◌≡◌, ℕ, zero, suc, Bool, true, false, ◌==◌, ◌||◌, ◌⊎◌, inl, inr, List, [], ◌∷◌, ◌++◌, Option, Some, None, refl, sym, ap, ◌∙◌, true≢false}
use Rattle.std.specs.List.{flat_map}
use Rattle.std.specs.Option.{option_map_or}
use Rattle.std.proofs.lemmas.Bool.{or_parts, eqb-true}
use Rattle.std.proofs.lemmas.List.Folds.{list_any-append}
use Rattle.std.proofs.lemmas.List.Concat.{flat_map-cons}
use Rattle.renewed.specs.Showing.{has_key}
use Rattle.shop_meanings.specs.Categories.{walk}
use Rattle.idx_category.specs.Touching.{meets, layers}

pub or_left : (a b : Bool) → a ≡ true → (a || b) ≡ true
or_left true b e = refl
or_left false b e = absurd (true≢false (sym e))

pub or_right : (a b : Bool) → b ≡ true → (a || b) ≡ true
or_right true b e = refl
or_right false b e = e

pub either : (a b : Bool) → (a || b) ≡ true → (a ≡ true) ⊎ (b ≡ true)
either true b e = inl refl
either false b e = inr e

-- ---- the same way up

module _ (up now : ℕ → Option ℕ) (ids : List ℕ) (same : (id : ℕ) → has_key ids id ≡ false → up id ≡ now id) where
  -- a way up that meets none of the ids is the same, where only they may have another parent
  pub same_walk : (n id : ℕ) → meets now ids n id ≡ false → walk up n id ≡ walk now n id
  same_walk zero id off = refl
  same_walk (suc n) id off =
      let both = or_parts (has_key ids id) (option_map_or (meets now ids n) (now id) false) off in
      ap (λ (o : Option ℕ). option_map_or (λ parent. walk up n parent ++ parent ∷ []) o []) (same id both.0) ∙ by (same_walk n) (now id) both.1
    where
      by : ((parent : ℕ) → meets now ids n parent ≡ false → walk up n parent ≡ walk now n parent) → (o : Option ℕ) → option_map_or (meets now ids n) o false ≡ false → option_map_or (λ parent. walk up n parent ++ parent ∷ []) o [] ≡ option_map_or (λ parent. walk now n parent ++ parent ∷ []) o []
      by more None e = refl
      by more (Some parent) e = ap (λ (ups : List ℕ). ups ++ parent ∷ []) (more parent e)

-- ---- what stands below

-- what the list of one of the ids has, the lists of all have
pub has_flat : (kids : ℕ → List ℕ) (ids : List ℕ) (id kid : ℕ) → has_key ids id ≡ true → has_key (kids id) kid ≡ true → has_key (flat_map kids ids) kid ≡ true
has_flat kids [] id kid e f = absurd (true≢false (sym e))
has_flat kids (x ∷ xs) id kid e f = by (has_flat kids xs id kid) (either (x == id) (has_key xs id) e)
  where
    whole : has_key (flat_map kids (x ∷ xs)) kid ≡ (has_key (kids x) kid || has_key (flat_map kids xs) kid)
    whole = ap (λ (ks : List ℕ). has_key ks kid) (flat_map-cons kids x xs) ∙ list_any-append (λ other. other == kid) (kids x) (flat_map kids xs)

    by : (has_key xs id ≡ true → has_key (kids id) kid ≡ true → has_key (flat_map kids xs) kid ≡ true) → ((x == id) ≡ true) ⊎ (has_key xs id ≡ true) → has_key (flat_map kids (x ∷ xs)) kid ≡ true
    by more (inl s) = whole ∙ or_left _ _ (ap (λ (y : ℕ). has_key (kids y) kid) (eqb-true x id s) ∙ f)
    by more (inr s) = whole ∙ or_right _ _ (more s f)

module _ (up : ℕ → Option ℕ) (kids : ℕ → List ℕ) (knows : (id parent : ℕ) → up id ≡ Some parent → has_key (kids parent) id ≡ true) where
  -- a way that meets the ids one step higher meets their children
  meets_kids : (ids : List ℕ) (n id parent : ℕ) → up id ≡ Some parent → meets up ids n parent ≡ true → meets up (flat_map kids ids) n id ≡ true
  meets_kids ids zero id parent e m = has_flat kids ids parent id m (knows id parent e)
  meets_kids ids (suc n) id parent e m = by (meets_kids ids n) (either (has_key ids parent) (option_map_or (meets up ids n) (up parent) false) m)
    where
      onward : ((low high : ℕ) → up low ≡ Some high → meets up ids n high ≡ true → meets up (flat_map kids ids) n low ≡ true) → (o : Option ℕ) → up parent ≡ o → option_map_or (meets up ids n) o false ≡ true → meets up (flat_map kids ids) n parent ≡ true
      onward more None f g = absurd (true≢false (sym g))
      onward more (Some high) f g = more parent high f g

      by : ((low high : ℕ) → up low ≡ Some high → meets up ids n high ≡ true → meets up (flat_map kids ids) n low ≡ true) → (has_key ids parent ≡ true) ⊎ (option_map_or (meets up ids n) (up parent) false ≡ true) → meets up (flat_map kids ids) (suc n) id ≡ true
      by more (inl s) = or_left _ _ (has_flat kids ids parent id s (knows id parent e))
      by more (inr s) = or_right _ _ (ap (λ (o : Option ℕ). option_map_or (meets up (flat_map kids ids) n) o false) e ∙ onward more (up parent) refl s)

  -- whoever meets the ids on the way up is among them and those below them
  pub meets_layers : (n : ℕ) (ids : List ℕ) (id : ℕ) → meets up ids n id ≡ true → has_key (layers kids n ids) id ≡ true
  meets_layers zero ids id m = m
  meets_layers (suc n) ids id m = list_any-append (λ other. other == id) ids (layers kids n (flat_map kids ids)) ∙ by (meets_layers n (flat_map kids ids) id) (either (has_key ids id) (option_map_or (meets up ids n) (up id) false) m)
    where
      onward : (meets up (flat_map kids ids) n id ≡ true → has_key (layers kids n (flat_map kids ids)) id ≡ true) → (o : Option ℕ) → up id ≡ o → option_map_or (meets up ids n) o false ≡ true → has_key (layers kids n (flat_map kids ids)) id ≡ true
      onward more None f g = absurd (true≢false (sym g))
      onward more (Some parent) f g = more (meets_kids ids n id parent f g)

      by : (meets up (flat_map kids ids) n id ≡ true → has_key (layers kids n (flat_map kids ids)) id ≡ true) → (has_key ids id ≡ true) ⊎ (option_map_or (meets up ids n) (up id) false ≡ true) → (has_key ids id || has_key (layers kids n (flat_map kids ids)) id) ≡ true
      by more (inl s) = or_left _ _ s
      by more (inr s) = or_right _ _ (onward more (up id) refl s)
