-- The law: outside of the products that a change affects, what counts for a product is the same before and after.
use Rattle.std.proofs.Common.{◌≡◌, ℕ, Bool, true, false, ◌==◌, ◌&&◌, ◌||◌, ◌⊎◌, inl, inr, List, [], ◌∷◌, ◌++◌, map, filter, Option, Some, None, refl, sym, ap, subst, ◌∙◌, true≢false}
use Rattle.std.specs.List.{list_any, flat_map}
use Rattle.std.specs.Option.{option_map_or, option_and_then}
use Rattle.std.proofs.lemmas.Bool.{or_parts, eqb-true, eq-eqb}
use Rattle.std.proofs.lemmas.List.Folds.{list_any-append}
use Rattle.std.proofs.lemmas.List.Concat.{flat_map-cons}
use Rattle.shop_defs.specs.declared.entity.Entity.TheVariants as E
use Rattle.shop_defs.specs.declared.key.Key.{Key}
use Rattle.shop_defs.specs.declared.row.Row.{Row}
use Rattle.shop_defs.specs.declared.table.TheConstants.{REFERENCES}
use Rattle.shop_defs.specs.Joined.{Change}
use Rattle.shop_defs.specs.Rows.{change_rows, IsInKeyOrder}
use Rattle.shop_operations.specs.Parents.{parent_id}
use Rattle.shop_operations.specs.References.{is_entity, is_live, is_id, of_version}
use Rattle.shop_rows.specs.Changing.{StandUnderTheirKeys, HasAscendingKeys}
use Rattle.shop_rows.proofs.Lists.{filter-filter}
use Rattle.shop_rows.proofs.Mentioning.{found_key}
use Rattle.id_sets.specs.Sets.{has}
use Rattle.shop_meanings.specs.Live.{live_key, live_rows, AreOrderly}
use Rattle.shop_meanings.specs.Categories.{above, path, children_of}
use Rattle.product_meanings.specs.Products.{product, parent_of, variant_ids, own_links, links_by, or_else, with_above, categories}
use Rattle.idx_category.specs.Touching.{moved, layers, meets}
use Rattle.idx_category.proofs.Counts.{passing, passing_has}
use Rattle.idx_category.proofs.Moves.{same_path, knows_kids, sub_off, ids_have, ids_by_keys}
use Rattle.idx_category.proofs.Walks.{has_flat, meets_layers, or_left, or_right}
use Rattle.product_rows.specs.Affecting.{changed_products, own_products, products_of, with_variants, linked_to, IsOutside}
use Rattle.product_rows.proofs.Same.{same_product, same_own_links}

-- ---- links and variants from both sides

-- a link of the product to the category is one to the category by the product
crossed : (xs : List Row) (id link : ℕ) → has (map (λ (l : Row). l.key.second) (filter (λ (l : Row). l.key.id == id) xs)) link ≡ true → has (map (λ (l : Row). l.key.id) (filter (λ (l : Row). l.key.second == link) xs)) id ≡ true
crossed [] id link e = e
crossed (x ∷ xs) id link e = by (crossed xs id link) (x.key.id == id) (x.key.second == link) refl refl e
  where
    by : (has (map (λ (l : Row). l.key.second) (filter (λ (l : Row). l.key.id == id) xs)) link ≡ true → has (map (λ (l : Row). l.key.id) (filter (λ (l : Row). l.key.second == link) xs)) id ≡ true) → (a b : Bool) → (x.key.id == id) ≡ a → (x.key.second == link) ≡ b → has (map (λ (l : Row). l.key.second) (filter (λ (l : Row). l.key.id == id) (x ∷ xs))) link ≡ true → has (map (λ (l : Row). l.key.id) (filter (λ (l : Row). l.key.second == link) (x ∷ xs))) id ≡ true
    by more true true f g h = rw g (or_left _ _ f)
    by more true false f g h = let k = rw (f, g) at h in rw g (more k)
    by more false true f g h = let k = rw f at h in rw g (or_right _ _ (more k))
    by more false false f g h = let k = rw f at h in rw g (more k)

pub linked_has : (rows : List Row) (id link : ℕ) → has (own_links rows id) link ≡ true → has (linked_to rows link) id ≡ true
linked_has rows id link e = crossed (live_rows rows E.ProductCategory) id link e

-- the variants of a product's parent have it
pub variant_has : (rows : List Row) → IsInKeyOrder rows → (id parent : ℕ) (row : Row) → product rows id ≡ Some row → parent_id REFERENCES row ≡ Some parent → has (variant_ids rows parent) id ≡ true
variant_has rows order id parent row e f =
    ap (λ (all : List ℕ). has all id) (ap (map (λ (r : Row). r.key.id)) (filter-filter (λ r. is_entity E.Product r.key.entity && is_id (parent_id REFERENCES r) parent) (λ r. r.key.version == 0) rows) ∙ ids_by_keys (filter test rows))
    ∙ ids_have (passing test rows) (live_key E.Product id) (passing_has test rows (live_key E.Product id) order ∙ (ap (λ (o : Option Row). option_map_or test o false) e ∙ pass))
  where
    test : Row → Bool
    test r = (r.key.version == 0) && (is_entity E.Product r.key.entity && is_id (parent_id REFERENCES r) parent)

    pass : test row ≡ true
    pass = ap (λ (k : Key). (k.version == 0) && (is_entity E.Product k.entity && is_id (parent_id REFERENCES row) parent)) (found_key rows (live_key E.Product id) row e) ∙ (ap (λ (o : Option ℕ). is_id o parent) f ∙ eq-eqb parent parent refl)

of_either : (xs ys : List ℕ) (link : ℕ) → has (or_else xs ys) link ≡ true → (has xs link ≡ true) ⊎ (has ys link ≡ true)
of_either [] ys link e = inr e
of_either (x ∷ xs) ys link e = inl e

-- ---- categories with those above them

same_above : (before after : List Row) (ids : List ℕ) → ((id : ℕ) → has ids id ≡ true → path before id ≡ path after id) → with_above before ids ≡ with_above after ids
same_above before after [] on = refl
same_above before after (x ∷ xs) on =
    let first : path before x ≡ path after x = on x (or_left (x == x) (has xs x) (eq-eqb x x refl)) in
    let rest = same_above before after xs (λ id h. on id (or_right (x == id) (has xs id) h)) in
    flat_map-cons (λ id. id ∷ path before id) x xs ∙ ((λ i. (x ∷ first i) ++ rest i) ∙ sym (flat_map-cons (λ id. id ∷ path after id) x xs))

-- ---- the law

module _ (before : List Row) (changes : List Change) (was : AreOrderly before) (is : AreOrderly (change_rows before changes)) (own : StandUnderTheirKeys changes) (once : HasAscendingKeys changes) where
  abbrev after : List Row
  after = change_rows before changes

  abbrev below : List ℕ
  below = layers (children_of after) 32 (moved before after changes)

  abbrev products : List ℕ
  products = own_products before after changes

  record IsOut (id : ℕ) : Type 0 where
    pub unchanged : has (changed_products changes) id ≡ false
    pub unlinked : has (flat_map (linked_to after) below) id ≡ false

  out : (id : ℕ) → has products id ≡ false → IsOut id
  out id off =
      let both = or_parts _ _ (sym (list_any-append (λ other. other == id) (changed_products changes) (flat_map (linked_to after) below)) ∙ off) in
      record { unchanged = both.0; unlinked = both.1 }

  -- a link of a product that is out is to a category whose path stays
  way : (id link : ℕ) → IsOut id → has (own_links after id) link ≡ true → path before link ≡ path after link
  way id link o h =
      let layers_off : has below link ≡ false = sub_off (λ e. has_flat (linked_to after) below link id e (linked_has after id link h)) o.unlinked in
      let no_meets : meets (above after) (moved before after changes) 32 link ≡ false = sub_off (meets_layers (above after) (children_of after) (knows_kids after is.order) 32 (moved before after changes) link) layers_off in
      same_path before changes was is own once link no_meets

  -- the parent of a product that isn't affected is out
  parent_out : (id parent : ℕ) (row : Row) → has (flat_map (variant_ids after) products) id ≡ false → product after id ≡ Some row → parent_id REFERENCES row ≡ Some parent → IsOut parent
  parent_out id parent row off e f = out parent (sub_off (λ h. has_flat (variant_ids after) products parent id h (variant_has after is.order id parent row e f)) off)

  record AreOut (id : ℕ) : Type 0 where
    pub itself : IsOut id
    pub kin : has (flat_map (variant_ids after) products) id ≡ false

  are_out : (id : ℕ) → has (products_of before after changes) id ≡ false → AreOut id
  are_out id off =
      let both = or_parts _ _ (sym (list_any-append (λ other. other == id) products (flat_map (variant_ids after) products)) ∙ off) in
      record { itself = out id both.0; kin = both.1 }

  parent_same : (id : ℕ) (row : Row) → AreOut id → product after id ≡ Some row → (p : Option ℕ) → parent_id REFERENCES row ≡ p → option_and_then (product before) p ≡ option_and_then (product after) p
  parent_same id row o e None f = refl
  parent_same id row o e (Some parent) f = same_product before changes was is own once parent (parent_out id parent row o.kin e f).unchanged

  links_same : (id : ℕ) (row : Row) → AreOut id → product after id ≡ Some row → (p : Option ℕ) → parent_id REFERENCES row ≡ p → links_by before id p ≡ links_by after id p
  links_same id row o e None f = ap (λ (l : List ℕ). or_else l []) (same_own_links before changes was is own once id o.itself.unchanged)
  links_same id row o e (Some parent) f =
      let mine = same_own_links before changes was is own once id o.itself.unchanged in
      let theirs = same_own_links before changes was is own once parent (parent_out id parent row o.kin e f).unchanged in
      λ i. or_else (mine i) (theirs i)

  ways_same : (id : ℕ) (row : Row) → AreOut id → product after id ≡ Some row → (link : ℕ) (p : Option ℕ) → parent_id REFERENCES row ≡ p → has (links_by after id p) link ≡ true → path before link ≡ path after link
  ways_same id row o e link None f h = by (of_either (own_links after id) [] link h)
    where
      by : (has (own_links after id) link ≡ true) ⊎ (has [] link ≡ true) → path before link ≡ path after link
      by (inl k) = way id link o.itself k
      by (inr k) = absurd (true≢false (sym k))
  ways_same id row o e link (Some parent) f h = by (of_either (own_links after id) (own_links after parent) link h)
    where
      by : (has (own_links after id) link ≡ true) ⊎ (has (own_links after parent) link ≡ true) → path before link ≡ path after link
      by (inl k) = way id link o.itself k
      by (inr k) = way parent link (parent_out id parent row o.kin e f) k

  categories_same : (id : ℕ) (row : Row) → AreOut id → product after id ≡ Some row → categories before row ≡ categories after row
  categories_same id row o e =
      let named : row.key.id ≡ id = ap (λ (k : Key). k.id) (found_key after (live_key E.Product id) row e) in
      subst (λ (n : ℕ). with_above before (links_by before n (parent_id REFERENCES row)) ≡ with_above after (links_by after n (parent_id REFERENCES row))) (sym named)
      (ap (with_above before) (links_same id row o e (parent_id REFERENCES row) refl) ∙ same_above before after (links_by after id (parent_id REFERENCES row)) (λ link h. ways_same id row o e link (parent_id REFERENCES row) refl h))

  pub outside : IsOutside before after (products_of before after changes)
  outside = record {
    row = λ id off. same_product before changes was is own once id (are_out id off).itself.unchanged;
    parent = λ id row off e. parent_same id row (are_out id off) e (parent_id REFERENCES row) refl;
    stood_in = λ id row off e. categories_same id row (are_out id off) e;
    own_stood_in = λ id off. let o = (are_out id off).itself in ap (with_above before) (same_own_links before changes was is own once id o.unchanged) ∙ same_above before after (own_links after id) (λ link h. way id link o h);
  }

-- the same, where the rows after are those that the changes leave, and the products are told by what is among them
pub outside_by : (before now : List Row) (changes : List Change) (ids : List ℕ) → AreOrderly before → AreOrderly now → now ≡ change_rows before changes → StandUnderTheirKeys changes → HasAscendingKeys changes → ((id : ℕ) → has ids id ≡ has (products_of before now changes) id) → IsOutside before now ids
outside_by before rows_after changes ids was is leads own once same =
    let law = subst (λ (rows : List Row). AreOrderly rows → IsOutside before rows (products_of before rows changes)) (sym leads) (λ there. outside before changes was there own once) is in
    record {
      row = λ id off. law.row id (sym (same id) ∙ off);
      parent = λ id row off e. law.parent id row (sym (same id) ∙ off) e;
      stood_in = λ id row off e. law.stood_in id row (sym (same id) ∙ off) e;
      own_stood_in = λ id off. law.own_stood_in id (sym (same id) ∙ off);
    }
