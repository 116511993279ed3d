-- A category that no change touches stands where it stood.
use Rattle.std.proofs.Common.{◌≡◌, arith, ℕ, zero, suc, Bool, true, false, not, ◌==◌, ◌&&◌, ◌||◌, ◌⊎◌, inl, inr, List, [], ◌∷◌, ◌++◌, ◌+◌, map, filter, Option, Some, None, if◌then◌else◌, refl, sym, ap, subst, ◌∙◌, true≢false}
use Rattle.std.specs.Ordering.{is_eq}
use Rattle.std.specs.List.{flat_map}
use Rattle.std.specs.Option.{option_map, option_map_or, option_and_then}
use Rattle.std.proofs.lemmas.Bool.{or_parts, eqb-true, eq-eqb}
use Rattle.std.proofs.lemmas.List.Folds.{list_any-append}
use Rattle.std.proofs.lemmas.List.Concat.{flat_map-cons}
use Rattle.closure.specs.Closure.{IsIn}
use Rattle.closure.proofs.Members.{any_is, in_filter, in_map}
use Rattle.shop_defs.specs.declared.entity.Entity.TheVariants as E
use Rattle.shop_defs.specs.declared.key.Key.{Key}
use Rattle.shop_defs.specs.declared.row.Row.{Row}
use Rattle.shop_defs.specs.declared.table.TheConstants.{REFERENCES}
use Rattle.shop_defs.specs.Keys.{key_cmp}
use Rattle.shop_defs.specs.Joined.{Change, change_at}
use Rattle.shop_defs.specs.Rows.{row_at, row_key, change_rows, IsInKeyOrder}
use Rattle.shop_operations.specs.Parents.{parent_id}
use Rattle.shop_operations.specs.References.{is_entity, is_id, of_version}
use Rattle.shop_rows.specs.Lookups.{keys_of}
use Rattle.shop_defs.specs.Entities.{entity_number}
use Rattle.shop_rows.specs.Changing.{row_after, StandUnderTheirKeys, HasAscendingKeys}
use Rattle.shop_rows.proofs.ChangedRows.{row_at-change_rows, last_in-ascending}
use Rattle.shop_rows.proofs.Lists.{filter-filter}
use Rattle.shop_rows.proofs.Mentioning.{found_key}
use Rattle.shop_rows.proofs.Same.{key_is, is_equal}
use Rattle.shop_rows.proofs.SameLists.{holds}
use Rattle.shop_defs.proofs.Keys.{key_cmp_total}
use Rattle.renewed.specs.Showing.{has_key}
use Rattle.shop_meanings.specs.Live.{live_key, live_row, AreOrderly}
use Rattle.shop_meanings.specs.Categories.{above, path, children_of, standing, standing_of}
use Rattle.shop_meanings.proofs.Found.{stands_under}
use Rattle.shop_meanings.proofs.Levels.{enough}
use Rattle.idx_category.specs.Touching.{is_category, same_id, same_parent, is_moved, parent_ids, moved, near, layers, meets}
use Rattle.idx_category.proofs.Walks.{same_walk, meets_layers, or_left, or_right, either}
use Rattle.idx_category.proofs.Counts.{passing, passing_has, same_passing}

-- ---- what is found among changes

pub record IsFound (changes : List Change) (key : Key) (change : Change) : Type 0 where
  pub is_in : IsIn change changes
  pub same : change.0 ≡ key

pub change_found : (changes : List Change) (key : Key) (change : Change) → change_at changes key ≡ Some change → IsFound changes key change
change_found [] key change e = absurd (cc)
change_found (first ∷ rest) key change e = by (change_found rest key change) (is_eq (key_cmp first.0 key)) refl
  where
    by : (change_at rest key ≡ Some change → IsFound rest key change) → (b : Bool) → is_eq (key_cmp first.0 key) ≡ b → IsFound (first ∷ rest) key change
    by more true f =
        let g : Some first ≡ Some change = rw f at e in
        let s : first ≡ change = cc in
        record { is_in = inl s; same = ap (λ (c : Change). c.0) (sym s) ∙ key_is first.0 key (is_equal _ f) }
    by more false f =
        let g : change_at rest key ≡ Some change = rw f at e in
        let found = more g in
        record { is_in = inr found.is_in; same = found.same }

-- what the list of one has, the lists of all have
pub has_flat_map : {X : Type 0} (f : X → List ℕ) (xs : List X) (x : X) (id : ℕ) → IsIn x xs → has_key (f x) id ≡ true → has_key (flat_map f xs) id ≡ true
has_flat_map f [] x id i e = absurd i
has_flat_map {X} f (y ∷ ys) x id i e = by (has_flat_map f ys x id) i
  where
    whole : has_key (flat_map f (y ∷ ys)) id ≡ (has_key (f y) id || has_key (flat_map f ys) id)
    whole = ap (λ (ks : List ℕ). has_key ks id) (flat_map-cons f y ys) ∙ list_any-append (λ other. other == id) (f y) (flat_map f ys)

    by : (IsIn x ys → has_key (f x) id ≡ true → has_key (flat_map f ys) id ≡ true) → (y ≡ x) ⊎ IsIn x ys → has_key (flat_map f (y ∷ ys)) id ≡ true
    by more (inl s) = whole ∙ or_left _ _ (ap (λ (z : X). has_key (f z) id) s ∙ e)
    by more (inr s) = whole ∙ or_right _ _ (more s e)

-- ---- the same parent

same_id_is : (a b : Option ℕ) → same_id a b ≡ true → a ≡ b
same_id_is None None e = refl
same_id_is None (Some b) e = absurd (cc)
same_id_is (Some a) None e = absurd (cc)
same_id_is (Some a) (Some b) e = ap Some (eqb-true a b e)

same_id_itself : (a : Option ℕ) → same_id a a ≡ true
same_id_itself None = refl
same_id_itself (Some a) = eq-eqb a a refl

same_parent_itself : (a : Option Row) → same_parent a a ≡ true
same_parent_itself None = refl
same_parent_itself (Some a) = same_id_itself (parent_id REFERENCES a)

same_above : (a b : Option Row) → same_parent a b ≡ true → option_and_then (parent_id REFERENCES) a ≡ option_and_then (parent_id REFERENCES) b
same_above None None e = refl
same_above None (Some b) e = absurd (cc)
same_above (Some a) None e = absurd (cc)
same_above (Some a) (Some b) e = same_id_is _ _ e

same_presence : {X : Type 0} (x : X) (a b : Option Row) → same_parent a b ≡ true → option_map (λ _. x) a ≡ option_map (λ _. x) b
same_presence x None None e = refl
same_presence x None (Some b) e = absurd (cc)
same_presence x (Some a) None e = absurd (cc)
same_presence x (Some a) (Some b) e = refl

-- ---- children

-- the row is live, a category, and a child of the one with that id
abbrev is_kid : ℕ → Row → Bool
is_kid id row = (row.key.version == 0) && (is_entity E.Category row.key.entity && is_id (parent_id REFERENCES row) id)

abbrev kid_by : ℕ → Key → Option ℕ → Bool
kid_by id key parent = (key.version == 0) && (is_entity E.Category key.entity && is_id parent id)

pub ids_by_keys : (rows : List Row) → map (λ (row : Row). row.key.id) rows ≡ map (λ (key : Key). key.id) (map row_key rows)
ids_by_keys [] = refl
ids_by_keys (row ∷ rows) = ap (λ (ids : List ℕ). row.key.id ∷ ids) (ids_by_keys rows)

kids_by_keys : (rows : List Row) (id : ℕ) → children_of rows id ≡ map (λ (key : Key). key.id) (passing (is_kid id) rows)
kids_by_keys rows id =
    ap (map (λ (row : Row). row.key.id)) (filter-filter (λ row. is_entity E.Category row.key.entity && is_id (parent_id REFERENCES row) id) (λ row. row.key.version == 0) rows)
    ∙ ids_by_keys (filter (is_kid id) rows)

-- ids of keys
pub ids_have : (keys : List Key) (key : Key) → holds key_cmp key_cmp_total key_is keys key ≡ true → has_key (map (λ (k : Key). k.id) keys) key.id ≡ true
ids_have [] key e = e
ids_have (first ∷ rest) key e = by (ids_have rest key) (either (is_eq (key_cmp first key)) (holds key_cmp key_cmp_total key_is rest key) e)
  where
    by : (holds key_cmp key_cmp_total key_is rest key ≡ true → has_key (map (λ (k : Key). k.id) rest) key.id ≡ true) → (is_eq (key_cmp first key) ≡ true) ⊎ (holds key_cmp key_cmp_total key_is rest key ≡ true) → has_key (map (λ (k : Key). k.id) (first ∷ rest)) key.id ≡ true
    by more (inl s) = or_left _ _ (eq-eqb _ _ (ap (λ (k : Key). k.id) (key_is first key (is_equal _ s))))
    by more (inr s) = or_right _ _ (more s)

-- the children of a category's parent have it
pub knows_kids : (rows : List Row) → IsInKeyOrder rows → (id parent : ℕ) → above rows id ≡ Some parent → has_key (children_of rows parent) id ≡ true
knows_kids rows order id parent e =
    ap (λ (ids : List ℕ). has_key ids id) (kids_by_keys rows parent)
    ∙ ids_have (passing (is_kid parent) rows) (live_key E.Category id)
    (passing_has (is_kid parent) rows (live_key E.Category id) order ∙ by (live_row rows E.Category id) refl e)
  where
    passes : (row : Row) → row.key ≡ live_key E.Category id → parent_id REFERENCES row ≡ Some parent → is_kid parent row ≡ true
    passes row k p = ap (λ (key : Key). kid_by parent key (parent_id REFERENCES row)) k ∙ (ap (kid_by parent (live_key E.Category id)) p ∙ eq-eqb parent parent refl)

    by : (o : Option Row) → live_row rows E.Category id ≡ o → option_and_then (parent_id REFERENCES) o ≡ Some parent → option_map_or (is_kid parent) o false ≡ true
    by None f g = absurd (cc)
    by (Some row) f g = passes row (found_key rows (live_key E.Category id) row f) g

-- the ids of the keys of the live categories are all that stand somewhere
pub ids_cover : (rows : List Row) (id : ℕ) → has_key (map (λ (key : Key). key.id) (keys_of (of_version 0 rows) E.Category)) id ≡ false → standing rows id ≡ None
ids_cover rows id off = by (live_row rows E.Category id) refl
  where
    here : (row : Row) → live_row rows E.Category id ≡ Some row → has_key (map (λ (key : Key). key.id) (keys_of (of_version 0 rows) E.Category)) id ≡ true
    here row e =
        let stands = stands_under rows (live_key E.Category id) row e in
        let version : (row.key.version == 0) ≡ true = ap (λ (k : Key). k.version == 0) stands.same in
        let entity : is_entity E.Category row.key.entity ≡ true = ap (λ (k : Key). is_entity E.Category k.entity) stands.same ∙ eq-eqb (entity_number E.Category) (entity_number E.Category) refl in
        let among = in_filter (λ r. is_entity E.Category r.key.entity) (of_version 0 rows) row (in_filter (λ r. r.key.version == 0) rows row stands.is_in version) entity in
        let keyed = in_map (λ (r : Row). r.key) (filter (λ r. is_entity E.Category r.key.entity) (of_version 0 rows)) row among in
        let named = in_map (λ (key : Key). key.id) (keys_of (of_version 0 rows) E.Category) row.key keyed in
        any_is (λ other. other == id) (map (λ (key : Key). key.id) (keys_of (of_version 0 rows) E.Category)) row.key.id named (ap (λ (k : Key). k.id == id) stands.same ∙ eq-eqb id id refl)

    by : (o : Option Row) → live_row rows E.Category id ≡ o → option_map (λ (row : Row). standing_of (path rows id) (children_of rows id)) o ≡ None
    by None e = refl
    by (Some row) e = absurd (true≢false (sym (here row e) ∙ off))

-- ---- what changes leave

not_false : (b : Bool) → not b ≡ false → b ≡ true
not_false true e = refl
not_false false e = absurd (true≢false e)

and_false : (a : Bool) → (a && false) ≡ false
and_false true = refl
and_false false = refl

-- what would make the second true isn't there where the second is false
pub sub_off : {a b : Bool} → (a ≡ true → b ≡ true) → b ≡ false → a ≡ false
sub_off {a} {b} f off = by a refl
  where
    by : (c : Bool) → a ≡ c → a ≡ false
    by true e = absurd (true≢false (sym (f e) ∙ off))
    by false e = e

meets_none : (up : ℕ → Option ℕ) (ids : List ℕ) (n id : ℕ) → meets up ids n id ≡ false → has_key ids id ≡ false
meets_none up ids zero id e = e
meets_none up ids (suc n) id e = (or_parts _ _ e).0

-- no child of the category stands where its id isn't named
no_kid : (id : ℕ) (o : Option Row) → has_key (parent_ids o) id ≡ false → option_map_or (is_kid id) o false ≡ false
no_kid id None off = refl
no_kid id (Some row) off = by (parent_id REFERENCES row) refl
  where
    by : (o : Option ℕ) → parent_id REFERENCES row ≡ o → is_kid id row ≡ false
    by None e = rw e (ap (λ (b : Bool). (row.key.version == 0) && b) (and_false _) ∙ and_false _)
    by (Some parent) e =
        let off2 : has_key (parent ∷ []) id ≡ false = ap (λ (o : Option ℕ). has_key (option_map_or (λ x. x ∷ []) o []) id) (sym e) ∙ off in
        let apart : (parent == id) ≡ false = (or_parts _ _ off2).0 in
        rw (e, apart) (ap (λ (b : Bool). (row.key.version == 0) && b) (and_false _) ∙ and_false _)

first_two : (a b c : Bool) → (a && b) ≡ false → (a && (b && c)) ≡ false
first_two true true c e = absurd (true≢false e)
first_two true false c e = refl
first_two false b c e = refl

no_category : (rows : List Row) (id : ℕ) (key : Key) → is_category key ≡ false → option_map_or (is_kid id) (row_at rows key) false ≡ false
no_category rows id key off = by (row_at rows key) refl
  where
    by : (o : Option Row) → row_at rows key ≡ o → option_map_or (is_kid id) o false ≡ false
    by None e = refl
    by (Some row) e = first_two (row.key.version == 0) (is_entity E.Category row.key.entity) (is_id (parent_id REFERENCES row) id) (ap is_category (found_key rows key row e) ∙ off)

kids_alike : (before after : List Row) (id : ℕ) (key : Key) → same_parent (row_at before key) (row_at after key) ≡ true → option_map_or (is_kid id) (row_at before key) false ≡ option_map_or (is_kid id) (row_at after key) false
kids_alike before after id key same = by (row_at before key) (row_at after key) refl refl same
  where
    by : (a b : Option Row) → row_at before key ≡ a → row_at after key ≡ b → same_parent a b ≡ true → option_map_or (is_kid id) a false ≡ option_map_or (is_kid id) b false
    by None None e f s = refl
    by None (Some b) e f s = absurd (cc)
    by (Some a) None e f s = absurd (cc)
    by (Some a) (Some b) e f s =
        let k : a.key ≡ b.key = found_key before key a e ∙ sym (found_key after key b f) in
        let p : parent_id REFERENCES a ≡ parent_id REFERENCES b = same_id_is _ _ s in
        λ i. kid_by id (k i) (p i)

module _ (before : List Row) (changes : List Change) (was : AreOrderly before) (is : AreOrderly (change_rows before changes)) (own : StandUnderTheirKeys changes) (once : HasAscendingKeys changes) where
  abbrev pub after : List Row
  after = change_rows before changes

  order : IsInKeyOrder before
  order = was.order

  now : IsInKeyOrder after
  now = is.order

  left : (key : Key) → row_at after key ≡ row_after (change_at changes key) (row_at before key)
  left key = row_at-change_rows changes before order own key ∙ ap (λ o. row_after o (row_at before key)) (last_in-ascending changes key once)

  pub record IsChanged (key : Key) : Type 0 where
    pub one : Change
    pub found : IsFound changes key one

  -- a key is changed, or has the row that it had
  pub changed : (key : Key) → (row_at before key ≡ row_at after key) ⊎ IsChanged key
  changed key = by (change_at changes key) refl
    where
      by : (o : Option Change) → change_at changes key ≡ o → (row_at before key ≡ row_at after key) ⊎ IsChanged key
      by None e = inl (sym (left key ∙ ap (λ o. row_after o (row_at before key)) e))
      by (Some change) e = inr (record { one = change; found = change_found changes key change e })

  -- a changed key that is moved has its id among the moved, and its parents among those near
  moved_has : (key : Key) → IsChanged key → is_moved before after key ≡ true → has_key (moved before after changes) key.id ≡ true
  moved_has key c m =
      has_flat_map (λ change. if is_moved before after change.0 then change.0.id ∷ [] else []) changes c.one key.id c.found.is_in
      (ap (λ (k : Key). has_key (if is_moved before after k then k.id ∷ [] else []) key.id) c.found.same ∙ rw m (or_left _ _ (eq-eqb key.id key.id refl)))

  near_has : (key : Key) (id : ℕ) → IsChanged key → is_moved before after key ≡ true → has_key (parent_ids (row_at before key) ++ parent_ids (row_at after key)) id ≡ true → has_key (near before after changes) id ≡ true
  near_has key id c m h =
      has_flat_map (λ change. if is_moved before after change.0 then parent_ids (row_at before change.0) ++ parent_ids (row_at after change.0) else []) changes c.one id c.found.is_in
      (ap (λ (k : Key). has_key (if is_moved before after k then parent_ids (row_at before k) ++ parent_ids (row_at after k) else []) id) c.found.same ∙ rw m h)

  -- a category that isn't among the moved is there before and after with the same parent, or in neither
  still : (key : Key) → is_category key ≡ true → has_key (moved before after changes) key.id ≡ false → same_parent (row_at before key) (row_at after key) ≡ true
  still key cat off = by (changed key)
    where
      stays : is_moved before after key ≡ false → same_parent (row_at before key) (row_at after key) ≡ true
      stays m = not_false _ (ap (λ (b : Bool). b && not (same_parent (row_at before key) (row_at after key))) (sym cat) ∙ m)

      each : IsChanged key → (b : Bool) → is_moved before after key ≡ b → same_parent (row_at before key) (row_at after key) ≡ true
      each c true m = absurd (true≢false (sym (moved_has key c m) ∙ off))
      each c false m = stays m

      by : (row_at before key ≡ row_at after key) ⊎ IsChanged key → same_parent (row_at before key) (row_at after key) ≡ true
      by (inl e) = ap (same_parent (row_at before key)) (sym e) ∙ same_parent_itself (row_at before key)
      by (inr c) = each c (is_moved before after key) refl

  -- at each key, before and after, stands a child of the category or none does, where it isn't among those near
  alike : (id : ℕ) → has_key (near before after changes) id ≡ false → (key : Key) → option_map_or (is_kid id) (row_at before key) false ≡ option_map_or (is_kid id) (row_at after key) false
  alike id off key = by (changed key)
    where
      each : IsChanged key → (b c : Bool) → is_moved before after key ≡ b → is_category key ≡ c → option_map_or (is_kid id) (row_at before key) false ≡ option_map_or (is_kid id) (row_at after key) false
      each c true cat m k =
          let near_off = sub_off (near_has key id c m) off in
          let both = or_parts _ _ (sym (list_any-append (λ other. other == id) (parent_ids (row_at before key)) (parent_ids (row_at after key))) ∙ near_off) in
          no_kid id (row_at before key) both.0 ∙ sym (no_kid id (row_at after key) both.1)
      each c false false m k = no_category before id key k ∙ sym (no_category after id key k)
      each c false true m k = kids_alike before after id key (not_false _ (ap (λ (b : Bool). b && not (same_parent (row_at before key) (row_at after key))) (sym k) ∙ m))

      by : (row_at before key ≡ row_at after key) ⊎ IsChanged key → option_map_or (is_kid id) (row_at before key) false ≡ option_map_or (is_kid id) (row_at after key) false
      by (inl e) = ap (λ (o : Option Row). option_map_or (is_kid id) o false) e
      by (inr c) = each c (is_moved before after key) (is_category key) refl refl

  -- a category that wasn't moved and is below none that was has the path that it had
  pub same_path : (id : ℕ) → meets (above after) (moved before after changes) 32 id ≡ false → path before id ≡ path after id
  same_path id off =
      sym (enough before was 32 id (omega arith))
      ∙ (same_walk (above before) (above after) (moved before after changes) (λ at h. same_above _ _ (still (live_key E.Category at) refl h)) 32 id off
      ∙ enough after is 32 id (omega arith))

  -- what no change touches stands where it stood
  untouched : (id : ℕ) → has_key (near before after changes ++ layers (children_of after) 32 (moved before after changes)) id ≡ false → standing before id ≡ standing after id
  untouched id off =
      let both = or_parts _ _ (sym (list_any-append (λ other. other == id) (near before after changes) (layers (children_of after) 32 (moved before after changes))) ∙ off) in
      let no_meets : meets (above after) (moved before after changes) 32 id ≡ false = sub_off (meets_layers (above after) (children_of after) (knows_kids after now) 32 (moved before after changes) id) both.1 in
      let no_move = meets_none (above after) (moved before after changes) 32 id no_meets in
      let p : path before id ≡ path after id = same_path id no_meets in
      let c : children_of before id ≡ children_of after id = kids_by_keys before id ∙ (ap (map (λ (key : Key). key.id)) (same_passing (is_kid id) before after order now (alike id both.0)) ∙ sym (kids_by_keys after id)) in
      let s = still (live_key E.Category id) refl no_move in
      let each : standing before id ≡ option_map (λ _. standing_of (path after id) (children_of after id)) (live_row before E.Category id) = λ i. option_map (λ _. standing_of (p i) (c i)) (live_row before E.Category id) in
      each ∙ same_presence (standing_of (path after id) (children_of after id)) (live_row before E.Category id) (live_row after E.Category id) s

-- the same, where the rows after are those that the changes leave
pub untouched_by : (before after : List Row) (changes : List Change) → AreOrderly before → AreOrderly after → after ≡ change_rows before changes → StandUnderTheirKeys changes → HasAscendingKeys changes → (id : ℕ) → has_key (near before after changes ++ layers (children_of after) 32 (moved before after changes)) id ≡ false → standing before id ≡ standing after id
untouched_by before after changes was is leads own once =
    subst (λ (rows : List Row). AreOrderly rows → (id : ℕ) → has_key (near before rows changes ++ layers (children_of rows) 32 (moved before rows changes)) id ≡ false → standing before id ≡ standing rows id) (sym leads) (λ there. untouched before changes was there own once) is
