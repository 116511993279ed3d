-- The laws: a category that no change touches lists the same products, and what is edited at the affected products is what a category lists.
use Rattle.std.proofs.Common.{◌≡◌, ℕ, Bool, true, false, ◌==◌, ◌&&◌, ◌⊎◌, inl, inr, List, [], Option, Some, None, is_some, if◌then◌else◌, refl, sym, ap, subst, ◌∙◌, true≢false}
use Rattle.std.specs.Prelude.{unwrap_or, is_none}
use Rattle.std.specs.List.{flat_map}
use Rattle.std.specs.Option.{option_map, option_map_or}
use Rattle.std.proofs.lemmas.Bool.{or_parts, eq-eqb}
use Rattle.std.proofs.lemmas.List.Folds.{list_any-append}
use Rattle.shop_defs.specs.declared.entity.Entity.TheVariants as E
use Rattle.shop_defs.specs.declared.key.Key.{Key}
use Rattle.shop_defs.specs.declared.row.Row.{Row}
use Rattle.shop_defs.specs.declared.table.TheConstants.{REFERENCES}
use Rattle.shop_defs.specs.Joined.{Change}
use Rattle.shop_defs.specs.Rows.{row_at, change_rows}
use Rattle.shop_operations.specs.Parents.{parent_id}
use Rattle.shop_rows.specs.Changing.{StandUnderTheirKeys, HasAscendingKeys}
use Rattle.shop_meanings.specs.Live.{live_key, live_row, AreOrderly}
use Rattle.id_sets.specs.Sets.{has, AreAscending}
use Rattle.id_sets.proofs.Sets.{same_ids}
use Rattle.product_meanings.specs.Products.{product, is_active, own_links, with_above, picked}
use Rattle.product_meanings.specs.Listings.{is_listed, listed}
use Rattle.product_meanings.proofs.Picked.{picked_ascend, picked_has, live_id}
use Rattle.idx_category.proofs.Moves.{IsChanged, changed as changed_or_same, has_flat_map, sub_off}
use Rattle.idx_category.proofs.Walks.{has_flat, or_left}
use Rattle.product_rows.specs.Affecting as rows_of
use Rattle.product_rows.proofs.Parts.{second_false}
use Rattle.idx_listing.specs.Relisting.{belongs, category_at, changed_categories, stood_in, relisted, IsOutside, IsEdited, IsRenewed}

-- ---- which lists a product belongs to

-- a product that isn't affected belongs to the same lists
pub same_belongs : (before after : List Row) (products : List ℕ) → rows_of.IsOutside before after products → (category id : ℕ) → has products id ≡ false → belongs before category id ≡ belongs after category id
same_belongs before after products law category id off = ap (λ (o : Option Row). option_map_or (is_listed before category) o false) (law.row id off) ∙ by (product after id) refl
  where
    by : (o : Option Row) → product after id ≡ o → option_map_or (is_listed before category) o false ≡ option_map_or (is_listed after category) o false
    by None e = refl
    by (Some row) e =
        let ways : with_above before (own_links before row.key.id) ≡ with_above after (own_links after row.key.id) = subst (λ (n : ℕ). with_above before (own_links before n) ≡ with_above after (own_links after n)) (sym (live_id after E.Product id row e)) (law.own_stood_in id off) in
        ap (λ (all : List ℕ). is_active row && (is_none (parent_id REFERENCES row) && has all category)) ways

-- and to no list of a category that it has no way to
pub no_way : (rows : List Row) (category id : ℕ) → has (with_above rows (own_links rows id)) category ≡ false → belongs rows category id ≡ false
no_way rows category id off = by (product rows id) refl
  where
    by : (o : Option Row) → product rows id ≡ o → option_map_or (is_listed rows category) o false ≡ false
    by None e = refl
    by (Some row) e =
        second_false (is_active row) (is_none (parent_id REFERENCES row) && has (with_above rows (own_links rows row.key.id)) category)
        (second_false (is_none (parent_id REFERENCES row)) (has (with_above rows (own_links rows row.key.id)) category)
        (ap (λ (n : ℕ). has (with_above rows (own_links rows n)) category) (live_id rows E.Product id row e) ∙ off))

-- ---- lists

-- what the category lists where it is there
listed_there : (rows : List Row) (category : ℕ) → is_some (live_row rows E.Category category) ≡ true → listed rows category ≡ Some (picked (is_listed rows category) rows)
listed_there rows category e = by (live_row rows E.Category category) e
  where
    by : (o : Option Row) → is_some o ≡ true → option_map (λ _. picked (is_listed rows category) rows) o ≡ Some (picked (is_listed rows category) rows)
    by None f = absurd (cc)
    by (Some row) f = refl

listed_gone : (rows : List Row) (category : ℕ) → is_some (live_row rows E.Category category) ≡ false → listed rows category ≡ None
listed_gone rows category e = by (live_row rows E.Category category) e
  where
    by : (o : Option Row) → is_some o ≡ false → option_map (λ _. picked (is_listed rows category) rows) o ≡ None
    by None f = refl
    by (Some row) f = absurd (cc)

-- the ids that belong to a category are those that it lists
are_listed : (rows : List Row) → AreOrderly rows → (category : ℕ) (ids : List ℕ) → is_some (live_row rows E.Category category) ≡ true → AreAscending ids → ((id : ℕ) → has ids id ≡ belongs rows category id) → Some ids ≡ listed rows category
are_listed rows orderly category ids there up same =
    ap Some (same_ids ids (picked (is_listed rows category) rows) up (picked_ascend rows orderly (is_listed rows category)) (λ id. same id ∙ sym (picked_has rows orderly (is_listed rows category) id)))
    ∙ sym (listed_there rows category there)

-- a category that is there as before, and to which the same products belong, lists the same
same_listed : (before after : List Row) → AreOrderly before → AreOrderly after → (category : ℕ) → is_some (live_row before E.Category category) ≡ is_some (live_row after E.Category category) → ((id : ℕ) → belongs before category id ≡ belongs after category id) → listed before category ≡ listed after category
same_listed before after was is category there same = by (is_some (live_row after E.Category category)) refl
  where
    by : (b : Bool) → is_some (live_row after E.Category category) ≡ b → listed before category ≡ listed after category
    by false e = listed_gone before category (there ∙ e) ∙ sym (listed_gone after category e)
    by true e =
        listed_there before category (there ∙ e)
        ∙ are_listed after is category (picked (is_listed before category) before) e (picked_ascend before was (is_listed before category))
        (λ id. picked_has before was (is_listed before category) id ∙ same id)

-- ---- the law

module _ (before : List Row) (changes : List Change) (was : AreOrderly before) (is : AreOrderly (change_rows before changes)) (own : StandUnderTheirKeys changes) (once : HasAscendingKeys changes) where
  abbrev after : List Row
  after = change_rows before changes

  abbrev Changed : Key → Type 0
  Changed key = IsChanged before changes was is own once key

  category_has : (id : ℕ) → Changed (live_key E.Category id) → has (changed_categories changes) id ≡ true
  category_has id c =
      has_flat_map (λ change. category_at change.0) changes c.one id c.found.is_in
      (ap (λ (k : Key). has (category_at k) id) c.found.same ∙ or_left _ _ (eq-eqb id id refl))

  same_category : (id : ℕ) → has (changed_categories changes) id ≡ false → live_row before E.Category id ≡ live_row after E.Category id
  same_category id off = by (changed_or_same before changes was is own once (live_key E.Category id))
    where
      by : (row_at before (live_key E.Category id) ≡ row_at after (live_key E.Category id)) ⊎ Changed (live_key E.Category id) → live_row before E.Category id ≡ live_row after E.Category id
      by (inl e) = e
      by (inr c) = absurd (true≢false (sym (category_has id c) ∙ off))

  -- a category that is none of these lists the same products
  untouched : (products : List ℕ) → rows_of.IsOutside before after products → (category : ℕ) → has (relisted before after changes products) category ≡ false → listed before category ≡ listed after category
  untouched products law category off =
      same_listed before after was is category (ap is_some (same_category category both.0)) (λ id. each id (has products id) refl)
    where
      both : (has (changed_categories changes) category ≡ false) × (has (flat_map (stood_in before after) products) category ≡ false)
      both = or_parts _ _ (sym (list_any-append (λ other. other == category) (changed_categories changes) (flat_map (stood_in before after) products)) ∙ off)

      ways : (id : ℕ) → has products id ≡ true → (has (with_above before (own_links before id)) category ≡ false) × (has (with_above after (own_links after id)) category ≡ false)
      ways id h =
          or_parts _ _ (sym (list_any-append (λ other. other == category) (with_above before (own_links before id)) (with_above after (own_links after id)))
          ∙ sub_off (λ e. has_flat (stood_in before after) products id category h e) both.1)

      each : (id : ℕ) (b : Bool) → has products id ≡ b → belongs before category id ≡ belongs after category id
      each id true h = let w = ways id h in no_way before category id w.0 ∙ sym (no_way after category id w.1)
      each id false h = same_belongs before after products law category id h

-- the same, where the rows after are those that the changes leave, and the categories are told by what is among them
pub outside_both : (before after : List Row) (changes : List Change) (products categories : List ℕ) → AreOrderly before → AreOrderly after → after ≡ change_rows before changes → StandUnderTheirKeys changes → HasAscendingKeys changes → rows_of.IsOutside before after products → ((id : ℕ) → has categories id ≡ has (relisted before after changes products) id) → IsOutside before after products categories
outside_both before rows_after changes products categories was is leads own once law same =
    let lasting : (category : ℕ) → has (relisted before rows_after changes products) category ≡ false → listed before category ≡ listed rows_after category = subst (λ (rows : List Row). AreOrderly rows → rows_of.IsOutside before rows products → (category : ℕ) → has (relisted before rows changes products) category ≡ false → listed before category ≡ listed rows category) (sym leads) (λ there. untouched before changes was there own once products) is law in
    record {
      belonging = λ category id off. same_belongs before rows_after products law category id off;
      lists = λ category off. lasting category (sym (same category) ∙ off);
    }

-- ---- edited lists

-- what a category lists is there only where the category is
there_by : (rows : List Row) (category : ℕ) (ids : List ℕ) → Some ids ≡ listed rows category → ids ≡ picked (is_listed rows category) rows
there_by rows category ids e = by (live_row rows E.Category category) e
  where
    by : (o : Option Row) → Some ids ≡ option_map (λ _. picked (is_listed rows category) rows) o → ids ≡ picked (is_listed rows category) rows
    by None f = absurd (cc)
    by (Some row) f = cc

present : (o : Option Row) → is_none o ≡ false → is_some o ≡ true
present None e = absurd (cc)
present (Some row) e = refl

-- what the category listed before, or lists already, edited at the affected products, is what it lists
pub renewed_list : (before after : List Row) (products categories : List ℕ) → AreOrderly before → AreOrderly after → IsOutside before after products categories → (category : ℕ) → is_none (live_row after E.Category category) ≡ false → (held : Option (List ℕ)) (old : List ℕ) → held ≡ Some old → (held ≡ listed before category) ⊎ (held ≡ listed after category) → (now : Option (List ℕ)) → IsRenewed after category old products now → now ≡ listed after category
renewed_list before after products categories was is law category there held old e which now renewed =
    renewed.left ∙ are_listed after is category (unwrap_or renewed.edited old) (present (live_row after E.Category category) there) renewed.is.ascend (λ id. renewed.is.members id ∙ each id (has products id) refl)
  where
    stood : (id : ℕ) → has products id ≡ false → (held ≡ listed before category) ⊎ (held ≡ listed after category) → has old id ≡ belongs after category id
    stood id out (inl f) = ap (λ (ids : List ℕ). has ids id) (there_by before category old (sym e ∙ f)) ∙ (picked_has before was (is_listed before category) id ∙ law.belonging category id out)
    stood id out (inr f) = ap (λ (ids : List ℕ). has ids id) (there_by after category old (sym e ∙ f)) ∙ picked_has after is (is_listed after category) id

    each : (id : ℕ) (b : Bool) → has products id ≡ b → (if b then belongs after category id else has old id) ≡ belongs after category id
    each id true h = refl
    each id false h = stood id h which

-- what is found among all that may belong to it, from none on, is what the category lists
pub found_list : (rows : List Row) → AreOrderly rows → (category : ℕ) (products : List ℕ) (edited : Option (List ℕ)) (old : List ℕ) → old ≡ [] → is_none (live_row rows E.Category category) ≡ false → ((id : ℕ) → has products id ≡ false → belongs rows category id ≡ false) → IsEdited rows category old products edited → Some (unwrap_or edited old) ≡ listed rows category
found_list rows orderly category products edited old none there all is =
    are_listed rows orderly category (unwrap_or edited old) (present (live_row rows E.Category category) there) is.ascend (λ id. is.members id ∙ each id (has products id) refl)
  where
    each : (id : ℕ) (b : Bool) → has products id ≡ b → (if b then belongs rows category id else has old id) ≡ belongs rows category id
    each id true h = refl
    each id false h = ap (λ (ids : List ℕ). has ids id) none ∙ sym (all id h)

-- a category that isn't there lists nothing
pub listed_none : (rows : List Row) (category : ℕ) → live_row rows E.Category category ≡ None → listed rows category ≡ None
listed_none rows category e = ap (λ (o : Option Row). option_map (λ _. picked (is_listed rows category) rows) o) e
