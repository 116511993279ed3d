-- The law: a product that no change touches is listed at the same price before and after.
use Rattle.std.proofs.Common.{◌≡◌, ℕ, Bool, true, false, ◌==◌, ◌&&◌, ◌⊎◌, inl, inr, List, [], ◌∷◌, ◌++◌, map, filter, Option, Some, None, if◌then◌else◌, refl, sym, ap, subst, ◌∙◌, true≢false}
use Rattle.std.specs.List.{flat_map, filter_map, cons_option}
use Rattle.std.specs.Option.{option_map, option_map_or, option_and_then}
use Rattle.std.proofs.lemmas.Bool.{or_parts, and_parts, eqb-true, eq-eqb}
use Rattle.std.proofs.lemmas.List.Folds.{list_any-append}
use Rattle.closure.specs.Closure.{IsIn}
use Rattle.closure.proofs.Members.{of_filter, of_map, in_filter}
use Rattle.shop_defs.specs.declared.entity.Entity.TheVariants as E
use Rattle.shop_defs.specs.declared.key.Key.{Key}
use Rattle.shop_defs.specs.declared.row.Row.{Row}
use Rattle.shop_defs.specs.declared.table.TheConstants.{REFERENCES}
use Rattle.shop_defs.specs.declared.words.FieldName.TheVariants as N
use Rattle.shop_defs.specs.Joined.{Change}
use Rattle.shop_defs.specs.Rows.{row_at, change_rows}
use Rattle.shop_operations.specs.Parents.{parent_id}
use Rattle.shop_operations.specs.References.{is_entity, is_live, is_id, of_version}
use Rattle.shop_rows.specs.Changing.{StandUnderTheirKeys, HasAscendingKeys}
use Rattle.shop_rows.proofs.Lists.{filter-filter}
use Rattle.shop_rows.proofs.Mentioning.{found_key}
use Rattle.shop_chain.specs.Inheriting.{effective}
use Rattle.row_fields.specs.Fields.{number_of, int_in}
use Rattle.id_sets.specs.Sets.{has}
use Rattle.shop_meanings.specs.Live.{live_key, live_rows, AreOrderly}
use Rattle.product_meanings.specs.Products.{product, variant_ids, is_active, or_else}
use Rattle.product_meanings.specs.Listings.{Offer, offer_of, offer, sold_for, offers, price_of, listing_price}
use Rattle.product_meanings.proofs.Picked.{found_live, product_one}
use Rattle.idx_category.specs.Touching.{parent_ids}
use Rattle.idx_category.proofs.Moves.{IsChanged, changed as changed_or_same, has_flat_map, sub_off}
use Rattle.idx_category.proofs.Walks.{has_flat, or_left}
use Rattle.product_rows.specs.Affecting.{is_live_of, with_variants}
use Rattle.product_rows.proofs.Outside.{variant_has}
use Rattle.product_rows.proofs.Parts.{NonePasses, same_filter, none_passes, second_false}
use Rattle.idx_listing.specs.Repricing.{changed_at, changed, parents_at, parents, repriced}

-- ---- lists that are read alike

filter_map-same : {X Y : Type 0} (f g : X → Option Y) (xs : List X) → ((x : X) → IsIn x xs → f x ≡ g x) → filter_map f xs ≡ filter_map g xs
filter_map-same f g [] same = refl
filter_map-same f g (x ∷ xs) same =
    let first = same x (inl refl) in
    let rest = filter_map-same f g xs (λ y i. same y (inr i)) in
    λ i. cons_option (first i) (rest i)

-- what is offered of a product whose parent is given
abbrev offer_by : Row → Option Row → Option Offer
offer_by row parent = if is_active row then option_map (λ gross. (row.key.id, gross)) (option_and_then int_in (effective row parent (number_of E.Product N.Gross))) else None

-- the row is a live product with that one as its parent
abbrev is_kid : ℕ → Row → Bool
is_kid id row = (row.key.version == 0) && (is_entity E.Product row.key.entity && is_id (parent_id REFERENCES row) id)

and_none : (a b c : Bool) → (a && b) ≡ false → (a && (b && c)) ≡ false
and_none true true c e = absurd (true≢false e)
and_none true false c e = refl
and_none false b c e = refl

-- no kid of the product stands where its id isn't named
no_kid : (id : ℕ) (row : Row) → has (parent_ids (Some row)) id ≡ false → is_kid id row ≡ false
no_kid id row off = second_false (row.key.version == 0) (is_entity E.Product row.key.entity && is_id (parent_id REFERENCES row) id) (second_false (is_entity E.Product row.key.entity) (is_id (parent_id REFERENCES row) id) (by (parent_id REFERENCES row) off))
  where
    by : (o : Option ℕ) → has (option_map_or (λ parent. parent ∷ []) o []) id ≡ false → is_id o id ≡ false
    by None e = refl
    by (Some parent) e = (or_parts (parent == id) false e).0

module _ (before : List Row) (changes : List Change) (was : AreOrderly before) (is : AreOrderly (change_rows before changes)) (own : StandUnderTheirKeys changes) (once : HasAscendingKeys changes) where
  abbrev after : List Row
  after = change_rows before changes

  abbrev Changed : Key → Type 0
  Changed key = IsChanged before changes was is own once key

  changed_has : (id : ℕ) → Changed (live_key E.Product id) → has (changed changes) id ≡ true
  changed_has id c =
      has_flat_map (λ change. changed_at change.0) changes c.one id c.found.is_in
      (ap (λ (k : Key). has (changed_at k) id) c.found.same ∙ or_left _ _ (eq-eqb id id refl))

  parents_has : (key : Key) (id : ℕ) → Changed key → is_live_of E.Product key ≡ true → has (parent_ids (row_at before key) ++ parent_ids (row_at after key)) id ≡ true → has (parents before after changes) id ≡ true
  parents_has key id c live h =
      has_flat_map (λ change. parents_at before after change.0) changes c.one id c.found.is_in
      (ap (λ (k : Key). has (parents_at before after k) id) c.found.same ∙ rw live h)

  same_row : (id : ℕ) → has (changed changes) id ≡ false → product before id ≡ product after id
  same_row id off = by (changed_or_same before changes was is own once (live_key E.Product id))
    where
      by : (row_at before (live_key E.Product id) ≡ row_at after (live_key E.Product id)) ⊎ Changed (live_key E.Product id) → product before id ≡ product after id
      by (inl e) = e
      by (inr c) = absurd (true≢false (sym (changed_has id c) ∙ off))

  -- ---- variants

  named : (key : Key) (id : ℕ) → has (parents before after changes) id ≡ false → Changed key → is_live_of E.Product key ≡ true → (has (parent_ids (row_at before key)) id ≡ false) × (has (parent_ids (row_at after key)) id ≡ false)
  named key id off c live = or_parts _ _ (sym (list_any-append (λ other. other == id) (parent_ids (row_at before key)) (parent_ids (row_at after key))) ∙ sub_off (parents_has key id c live) off)

  kids_by : (rows : List Row) (id : ℕ) → variant_ids rows id ≡ map (λ (row : Row). row.key.id) (filter (is_kid id) rows)
  kids_by rows id = ap (map (λ (row : Row). row.key.id)) (filter-filter (λ row. is_entity E.Product row.key.entity && is_id (parent_id REFERENCES row) id) (λ row. row.key.version == 0) rows)

  same_variants : (id : ℕ) → has (parents before after changes) id ≡ false → variant_ids before id ≡ variant_ids after id
  same_variants id off = kids_by before id ∙ (ap (map (λ (row : Row). row.key.id)) (same_filter (is_kid id) before after was.order is.order at) ∙ sym (kids_by after id))
    where
      fails : (rows : List Row) (key : Key) → (is_live_of E.Product key ≡ true → has (parent_ids (row_at rows key)) id ≡ false) → (row : Row) → row_at rows key ≡ Some row → is_kid id row ≡ false
      fails rows key none row e = by (is_live_of E.Product key) refl
        where
          by : (b : Bool) → is_live_of E.Product key ≡ b → is_kid id row ≡ false
          by true f = no_kid id row (ap (λ (o : Option Row). has (parent_ids o) id) (sym e) ∙ none f)
          by false f = and_none (row.key.version == 0) (is_entity E.Product row.key.entity) (is_id (parent_id REFERENCES row) id) (ap (is_live_of E.Product) (found_key rows key row e) ∙ f)

      at : (key : Key) → (row_at before key ≡ row_at after key) ⊎ (NonePasses (is_kid id) before key × NonePasses (is_kid id) after key)
      at key = by (changed_or_same before changes was is own once key)
        where
          by : (row_at before key ≡ row_at after key) ⊎ Changed key → (row_at before key ≡ row_at after key) ⊎ (NonePasses (is_kid id) before key × NonePasses (is_kid id) after key)
          by (inl e) = inl e
          by (inr c) = inr (none_passes (is_kid id) before key (fails before key (λ f. (named key id off c f).0)), none_passes (is_kid id) after key (fails after key (λ f. (named key id off c f).1)))

  -- ---- offers

  by_parent : (row : Row) → (p : Option ℕ) → parent_id REFERENCES row ≡ p → option_and_then (product before) p ≡ option_and_then (product after) p → offer_of before row ≡ offer_of after row
  by_parent row p e same = ap (offer_by row) (ap (option_and_then (product before)) e ∙ (same ∙ sym (ap (option_and_then (product after)) e)))

  -- the product itself
  own_offer : (id : ℕ) → has (changed changes) id ≡ false → has (flat_map (variant_ids after) (changed changes)) id ≡ false → offer before id ≡ offer after id
  own_offer id off kin_off = ap (option_and_then (offer_of before)) (same_row id off) ∙ by (product after id) refl
    where
      parent_same : (row : Row) → product after id ≡ Some row → (p : Option ℕ) → parent_id REFERENCES row ≡ p → option_and_then (product before) p ≡ option_and_then (product after) p
      parent_same row e None f = refl
      parent_same row e (Some parent) f = same_row parent (sub_off (λ h. has_flat (variant_ids after) (changed changes) parent id h (variant_has after is.order id parent row e f)) kin_off)

      by : (o : Option Row) → product after id ≡ o → option_and_then (offer_of before) o ≡ option_and_then (offer_of after) o
      by None e = refl
      by (Some row) e = by_parent row (parent_id REFERENCES row) refl (parent_same row e (parent_id REFERENCES row) refl)

  -- a variant of a product that isn't changed and isn't named by one that is
  record IsKid (id kid : ℕ) : Type 0 where
    row : Row
    found : product after kid ≡ Some row
    parent : parent_id REFERENCES row ≡ Some id

  named_is : (o : Option ℕ) (id : ℕ) → is_id o id ≡ true → o ≡ Some id
  named_is None id e = absurd (true≢false (sym e))
  named_is (Some other) id e = ap Some (eqb-true other id e)

  kid_is : (id kid : ℕ) → IsIn kid (variant_ids after id) → IsKid id kid
  kid_is id kid i =
      let image = of_map (λ (row : Row). row.key.id) (filter (λ row. is_entity E.Product row.key.entity && is_id (parent_id REFERENCES row) id) (of_version 0 after)) kid i in
      let part = of_filter (λ row. is_entity E.Product row.key.entity && is_id (parent_id REFERENCES row) id) (of_version 0 after) image.one image.is_in in
      let live = of_filter (λ row. row.key.version == 0) after image.one part.is_in in
      let both = and_parts (is_entity E.Product image.one.key.entity) (is_id (parent_id REFERENCES image.one) id) part.passes in
      let among : IsIn image.one (live_rows after E.Product) = in_filter (λ r. is_live r && is_entity E.Product r.key.entity) after image.one live.is_in (ap (λ (b : Bool). b && is_entity E.Product image.one.key.entity) live.passes ∙ both.0) in
      record {
        row = image.one;
        found = subst (λ (n : ℕ). product after n ≡ Some image.one) image.image (found_live after is E.Product product_one image.one among);
        parent = named_is (parent_id REFERENCES image.one) id both.1;
      }

  kid_offer : (id kid : ℕ) → has (changed changes) id ≡ false → has (parents before after changes) id ≡ false → IsIn kid (variant_ids after id) → offer before kid ≡ offer after kid
  kid_offer id kid off parent_off i =
      let k = kid_is id kid i in
      let same : offer_of before k.row ≡ offer_of after k.row = by_parent k.row (Some id) k.parent (same_row id off) in
      ap (option_and_then (offer_of before)) (kid_row k)
      ∙ (ap (option_and_then (offer_of before)) k.found ∙ (same ∙ sym (ap (option_and_then (offer_of after)) k.found)))
    where
      kid_row : IsKid id kid → product before kid ≡ product after kid
      kid_row k = by (changed_or_same before changes was is own once (live_key E.Product kid))
        where
          by : (row_at before (live_key E.Product kid) ≡ row_at after (live_key E.Product kid)) ⊎ Changed (live_key E.Product kid) → product before kid ≡ product after kid
          by (inl e) = e
          by (inr c) =
              let names : has (parent_ids (row_at after (live_key E.Product kid))) id ≡ true = ap (λ (o : Option Row). has (parent_ids o) id) k.found ∙ (ap (λ (o : Option ℕ). has (option_map_or (λ parent. parent ∷ []) o []) id) k.parent ∙ or_left (id == id) false (eq-eqb id id refl)) in
              absurd (true≢false (sym names ∙ (named (live_key E.Product kid) id parent_off c refl).1))

  -- ---- the price

  same_offers : (id : ℕ) → has (changed changes) id ≡ false → has (flat_map (variant_ids after) (changed changes)) id ≡ false → has (parents before after changes) id ≡ false → offers before id ≡ offers after id
  same_offers id off kin_off parent_off =
      ap (λ (ids : List ℕ). filter_map (offer before) (or_else ids (id ∷ []))) (same_variants id parent_off)
      ∙ filter_map-same (offer before) (offer after) (sold_for after id) (λ kid i. each kid (variant_ids after id) refl i)
    where
      each : (kid : ℕ) (kids : List ℕ) → variant_ids after id ≡ kids → IsIn kid (or_else kids (id ∷ [])) → offer before kid ≡ offer after kid
      each kid [] e (inl s) = subst (λ (n : ℕ). offer before n ≡ offer after n) s (own_offer id off kin_off)
      each kid [] e (inr i) = absurd i
      each kid (first ∷ rest) e i = kid_offer id kid off parent_off (subst (λ (ids : List ℕ). IsIn kid ids) (sym e) i)

  pub same_price : (id : ℕ) → has (repriced before after changes) id ≡ false → listing_price before id ≡ listing_price after id
  same_price id off =
      let both = or_parts _ _ (sym (list_any-append (λ other. other == id) (with_variants after (changed changes)) (parents before after changes)) ∙ off) in
      let kin = or_parts _ _ (sym (list_any-append (λ other. other == id) (changed changes) (flat_map (variant_ids after) (changed changes))) ∙ both.0) in
      let row : product before id ≡ product after id = same_row id kin.0 in
      let sold : offers before id ≡ offers after id = same_offers id kin.0 kin.1 both.1 in
      λ i. option_map (λ _. price_of (sold i)) (row i)

-- the same, where the rows after are those that the changes leave
pub same_price_by : (before after : List Row) (changes : List Change) → AreOrderly before → AreOrderly after → after ≡ change_rows before changes → StandUnderTheirKeys changes → HasAscendingKeys changes → (id : ℕ) → has (repriced before after changes) id ≡ false → listing_price before id ≡ listing_price after id
same_price_by before after changes was is leads own once =
    subst (λ (rows : List Row). AreOrderly rows → (id : ℕ) → has (repriced before rows changes) id ≡ false → listing_price before id ≡ listing_price rows id) (sym leads) (λ there. same_price before changes was there own once) is
