-- What no change touches is the same product with the same links of its own.
use Rattle.std.proofs.Common.{◌≡◌, ℕ, Bool, true, false, ◌==◌, ◌&&◌, ◌||◌, ◌⊎◌, inl, inr, List, [], ◌∷◌, ◌++◌, map, filter, Option, Some, None, is_some, if◌then◌else◌, refl, sym, ap, ◌∙◌, true≢false}
use Rattle.std.specs.List.{list_any}
use Rattle.std.specs.Option.{option_map_or, option_and_then}
use Rattle.std.proofs.lemmas.Bool.{or_parts, eqb-true, eq-eqb, and_parts}
use Rattle.std.proofs.lemmas.List.Folds.{list_any-append}
use Rattle.shop_defs.specs.declared.entity.Entity.{Entity}
use Rattle.shop_defs.specs.declared.entity.Entity.TheVariants as E
use Rattle.shop_defs.specs.declared.key.Key.{Key}
use Rattle.shop_defs.specs.declared.row.Row.{Row}
use Rattle.shop_defs.specs.declared.words.FieldName.TheVariants as N
use Rattle.shop_defs.specs.Joined.{Change}
use Rattle.shop_defs.specs.Rows.{row_at, change_rows}
use Rattle.shop_operations.specs.References.{is_entity, is_live, is_id}
use Rattle.shop_rows.specs.Changing.{StandUnderTheirKeys, HasAscendingKeys}
use Rattle.shop_rows.proofs.Lists.{filter-filter}
use Rattle.shop_rows.proofs.Mentioning.{found_key}
use Rattle.row_fields.specs.Fields.{number_of, id_at}
use Rattle.id_sets.specs.Sets.{has}
use Rattle.shop_meanings.specs.Live.{live_key, live_row, live_rows, AreOrderly}
use Rattle.product_meanings.specs.Products.{product, own_links}
use Rattle.product_meanings.specs.Streams.{filters}
use Rattle.idx_category.proofs.Moves.{IsChanged, changed, has_flat_map, sub_off}
use Rattle.idx_category.proofs.Walks.{or_left, or_right}
use Rattle.product_rows.specs.Affecting.{is_live_of, product_at, changed_products}
use Rattle.product_rows.proofs.Parts.{NonePasses, same_filter, none_passes, first_false, second_false}

module _ (before : List Row) (changes : List Change) (was : AreOrderly before) (is : AreOrderly (change_rows before changes)) (own : StandUnderTheirKeys changes) (once : HasAscendingKeys changes) where
  abbrev after : List Row
  after = change_rows before changes

  abbrev Changed : Key → Type 0
  Changed key = IsChanged before changes was is own once key

  -- ---- products and their own links

  product_has : (key : Key) → Changed key → is_live_of E.Product key ≡ true → has (changed_products changes) key.id ≡ true
  product_has key c live =
      has_flat_map (λ change. product_at change.0) changes c.one key.id c.found.is_in
      (ap (λ (k : Key). has (product_at k) key.id) c.found.same ∙ rw live (or_left _ _ (eq-eqb key.id key.id refl)))

  pub same_product : (id : ℕ) → has (changed_products changes) id ≡ false → product before id ≡ product after id
  same_product id off = by (changed before changes was is own once (live_key E.Product id))
    where
      by : (row_at before (live_key E.Product id) ≡ row_at after (live_key E.Product id)) ⊎ Changed (live_key E.Product id) → product before id ≡ product after id
      by (inl e) = e
      by (inr c) = absurd (true≢false (sym (product_has (live_key E.Product id) c refl) ∙ off))

  abbrev of_product : ℕ → Row → Bool
  of_product id row = (is_live row && is_entity E.ProductCategory row.key.entity) && (row.key.id == id)

  link_has : (key : Key) → Changed key → is_live_of E.ProductCategory key ≡ true → has (changed_products changes) key.id ≡ true
  link_has key c live =
      has_flat_map (λ change. product_at change.0) changes c.one key.id c.found.is_in
      (ap (λ (k : Key). has (product_at k) key.id) c.found.same ∙ (by (is_live_of E.Product key)))
    where
      here : has (key.id ∷ []) key.id ≡ true
      here = or_left _ _ (eq-eqb key.id key.id refl)

      by : (b : Bool) → has (if b then key.id ∷ [] else if is_live_of E.ProductCategory key then key.id ∷ [] else []) key.id ≡ true
      by true = here
      by false = rw live here

  pub same_own_links : (id : ℕ) → has (changed_products changes) id ≡ false → own_links before id ≡ own_links after id
  same_own_links id off =
      ap (map (λ (link : Row). link.key.second))
      (filter-filter (λ row. row.key.id == id) (λ row. is_live row && is_entity E.ProductCategory row.key.entity) before
      ∙ (same_filter (of_product id) before after was.order is.order at
      ∙ sym (filter-filter (λ row. row.key.id == id) (λ row. is_live row && is_entity E.ProductCategory row.key.entity) after)))
    where
      key_off : (key : Key) → Changed key → (is_live_of E.ProductCategory key && (key.id == id)) ≡ false
      key_off key c = by (is_live_of E.ProductCategory key) (key.id == id) refl refl
        where
          by : (a b : Bool) → is_live_of E.ProductCategory key ≡ a → (key.id == id) ≡ b → (is_live_of E.ProductCategory key && (key.id == id)) ≡ false
          by false b e f = first_false _ _ e
          by true false e f = second_false _ _ f
          by true true e f = absurd (true≢false (sym (link_has key c e) ∙ (ap (has (changed_products changes)) (eqb-true key.id id f) ∙ off)))

      fails : (rows : List Row) (key : Key) → Changed key → (row : Row) → row_at rows key ≡ Some row → of_product id row ≡ false
      fails rows key c row e = ap (λ (k : Key). is_live_of E.ProductCategory k && (k.id == id)) (found_key rows key row e) ∙ key_off key c

      at : (key : Key) → (row_at before key ≡ row_at after key) ⊎ (NonePasses (of_product id) before key × NonePasses (of_product id) after key)
      at key = by (changed before changes was is own once key)
        where
          by : (row_at before key ≡ row_at after key) ⊎ Changed key → (row_at before key ≡ row_at after key) ⊎ (NonePasses (of_product id) before key × NonePasses (of_product id) after key)
          by (inl e) = inl e
          by (inr c) = inr (none_passes (of_product id) before key (fails before key c), none_passes (of_product id) after key (fails after key c))
