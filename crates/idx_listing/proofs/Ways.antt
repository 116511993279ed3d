-- A product that a category lists has a link of its own to the category or to one below it.
use Rattle.std.proofs.Common.{◌≡◌, ℕ, zero, suc, ◌<◌, ◌-◌, true, false, ◌==◌, ◌||◌, ◌⊎◌, inl, inr, List, [], ◌∷◌, ◌++◌, Option, Some, None, refl, sym, ap, ◌∙◌, true≢false}
use Rattle.std.specs.List.{flat_map}
use Rattle.std.specs.Option.{option_map_or}
use Rattle.std.proofs.lemmas.Bool.{eqb-true, eq-eqb}
use Rattle.std.proofs.lemmas.List.Folds.{list_any-append}
use Rattle.std.proofs.lemmas.List.Concat.{flat_map-cons}
use Rattle.std.proofs.lemmas.Grind.{flat_map-append}
use Rattle.shop_defs.specs.declared.row.Row.{Row}
use Rattle.id_sets.specs.Sets.{has}
use Rattle.shop_meanings.specs.Live.{AreOrderly}
use Rattle.shop_meanings.specs.Categories.{above, path, walk, children_of}
use Rattle.product_meanings.specs.Products.{own_links, with_above}
use Rattle.idx_category.specs.Touching.{meets, layers}
use Rattle.idx_category.proofs.Moves.{knows_kids, sub_off}
use Rattle.idx_category.proofs.Steps.{as_path, layers_zero, layers_step}
use Rattle.idx_category.proofs.Walks.{has_flat, meets_layers, or_left, or_right, either}
use Rattle.product_rows.specs.Affecting.{linked_to}
use Rattle.product_rows.proofs.Outside.{linked_has}
use Rattle.idx_listing.specs.Relisting.{belongs, linked_below}
use Rattle.idx_listing.proofs.Relisted.{no_way}

-- ---- level by level

pub linked_zero : (f kids : ℕ → List ℕ) (n : ℕ) (level : List ℕ) → n ≡ 0 → flat_map f (layers kids n level) ≡ flat_map f level
linked_zero f kids n level e = ap (flat_map f) (layers_zero kids n level e)

pub linked_step : (f kids : ℕ → List ℕ) (n : ℕ) (level : List ℕ) → 0 < n → flat_map f (layers kids n level) ≡ flat_map f level ++ flat_map f (layers kids (n - 1) (flat_map kids level))
linked_step f kids n level l = ap (flat_map f) (layers_step kids n level l) ∙ flat_map-append f level (layers kids (n - 1) (flat_map kids level))

-- ---- from a product up

-- what the lists of all have, the list of one has
record IsThrough (f : ℕ → List ℕ) (xs : List ℕ) (id : ℕ) : Type 0 where
  one : ℕ
  there : has xs one ≡ true
  found : has (f one) id ≡ true

through : (f : ℕ → List ℕ) (xs : List ℕ) (id : ℕ) → has (flat_map f xs) id ≡ true → IsThrough f xs id
through f [] id e = absurd (true≢false (sym e))
through f (x ∷ xs) id e = by (through f xs id) (either (has (f x) id) (has (flat_map f xs) id) (sym whole ∙ e))
  where
    whole : has (flat_map f (x ∷ xs)) id ≡ (has (f x) id || has (flat_map f xs) id)
    whole = ap (λ (ks : List ℕ). has ks id) (flat_map-cons f x xs) ∙ list_any-append (λ other. other == id) (f x) (flat_map f xs)

    by : (has (flat_map f xs) id ≡ true → IsThrough f xs id) → (has (f x) id ≡ true) ⊎ (has (flat_map f xs) id ≡ true) → IsThrough f (x ∷ xs) id
    by more (inl s) = record { one = x; there = or_left (x == x) (has xs x) (eq-eqb x x refl); found = s }
    by more (inr s) = let t = more s in record { one = t.one; there = or_right (x == t.one) (has xs t.one) t.there; found = t.found }

-- an id meets itself
meets_itself : (up : ℕ → Option ℕ) (n id at : ℕ) → id ≡ at → meets up (at ∷ []) n id ≡ true
meets_itself up zero id at e = or_left (at == id) false (eq-eqb at id (sym e))
meets_itself up (suc n) id at e = or_left (has (at ∷ []) id) (option_map_or (meets up (at ∷ []) n) (up id) false) (or_left (at == id) false (eq-eqb at id (sym e)))

single : (id at : ℕ) → has (id ∷ []) at ≡ true → id ≡ at
single id at e = by (either (id == at) false e)
  where
    by : ((id == at) ≡ true) ⊎ (false ≡ true) → id ≡ at
    by (inl s) = eqb-true id at s
    by (inr s) = absurd (true≢false (sym s))

-- what a walk up comes by, it meets
walk_meets : (up : ℕ → Option ℕ) (n id at : ℕ) → has (walk up n id) at ≡ true → meets up (at ∷ []) n id ≡ true
walk_meets up zero id at e = absurd (true≢false (sym e))
walk_meets up (suc n) id at e = or_right (has (at ∷ []) id) (option_map_or (meets up (at ∷ []) n) (up id) false) (by (λ parent f. walk_meets up n parent at f) (up id) e)
  where
    onward : ((parent : ℕ) → has (walk up n parent) at ≡ true → meets up (at ∷ []) n parent ≡ true) → (parent : ℕ) → (has (walk up n parent) at ≡ true) ⊎ (has (parent ∷ []) at ≡ true) → meets up (at ∷ []) n parent ≡ true
    onward more parent (inl s) = more parent s
    onward more parent (inr s) = meets_itself up n parent at (single parent at s)

    by : ((parent : ℕ) → has (walk up n parent) at ≡ true → meets up (at ∷ []) n parent ≡ true) → (o : Option ℕ) → has (option_map_or (λ parent. walk up n parent ++ parent ∷ []) o []) at ≡ true → option_map_or (meets up (at ∷ []) n) o false ≡ true
    by more None f = absurd (true≢false (sym f))
    by more (Some parent) f = onward more parent (either (has (walk up n parent) at) (has (parent ∷ []) at) (sym (list_any-append (λ other. other == at) (walk up n parent) (parent ∷ [])) ∙ f))

module _ (rows : List Row) (orderly : AreOrderly rows) where
  -- a category that is a link or above it is met from there
  way_meets : (link category : ℕ) → has (link ∷ path rows link) category ≡ true → meets (above rows) (category ∷ []) 32 link ≡ true
  way_meets link category e = by (either (link == category) (has (path rows link) category) e)
    where
      by : ((link == category) ≡ true) ⊎ (has (path rows link) category ≡ true) → meets (above rows) (category ∷ []) 32 link ≡ true
      by (inl s) = meets_itself (above rows) 32 link category (eqb-true link category s)
      by (inr s) = walk_meets (above rows) 32 link category (ap (λ (ids : List ℕ). has ids category) (as_path rows orderly link (walk (above rows) 32 link) refl) ∙ s)

  linked : (category id : ℕ) → has (with_above rows (own_links rows id)) category ≡ true → has (linked_below rows category) id ≡ true
  linked category id e =
      let t = through (λ link. link ∷ path rows link) (own_links rows id) category e in
      has_flat (linked_to rows) (layers (children_of rows) 32 (category ∷ [])) t.one id
      (meets_layers (above rows) (children_of rows) (knows_kids rows orderly.order) 32 (category ∷ []) t.one (way_meets t.one category t.found))
      (linked_has rows id t.one t.there)

  -- a product without such a link isn't listed
  pub not_linked : (category id : ℕ) → has (linked_below rows category) id ≡ false → belongs rows category id ≡ false
  not_linked category id off = no_way rows category id (sub_off (linked category id) off)
