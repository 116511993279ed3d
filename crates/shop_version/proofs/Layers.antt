-- What is looked up in the rows that a draft shows.
use Rattle.std.proofs.Common.{◌≡◌, ◌≢◌, ◌+◌, ℕ, suc, Bool, true, false, List, [], ◌∷◌, length, refl, sym, ap, subst, ◌∙◌, Option, Some, None, if◌then◌else◌, not, arith}
use Rattle.std.specs.Prelude.{◌==◌, ◌&&◌, ◌||◌, filter, map, count_by, is_some, is_none}
use Rattle.std.specs.Option.{option_map_or}
use Rattle.std.specs.List.{AllByRecursion, fold}
use Rattle.std.specs.Ordering.{is_eq, nat_cmp}
use Rattle.std.specs.declared.cmp.Ordering.TheVariants.{Less}
use Rattle.std.proofs.lemmas.Cmp.{nat_cmp_total}
use Rattle.std.proofs.lemmas.Bool.{eqb-true, ne_eqb, false≢true}
use Rattle.std.proofs.lemmas.List.Sums.{length-filter}
use Rattle.keyed.specs.Keyed.{Ascends, find}
use Rattle.shop_defs.specs.declared.entity.Entity.{Entity}
use Rattle.shop_defs.specs.declared.key.Key.{Key}
use Rattle.shop_rows.specs.Lookups.{count_rows}
use Rattle.shop_drafts.specs.Aggregates.{is_part}
use Rattle.shop_defs.specs.declared.row.Row.{Row}
use Rattle.shop_defs.specs.Keys.{key_cmp}
use Rattle.shop_defs.specs.Rows.{row_key, row_at, IsInKeyOrder}
use Rattle.shop_defs.proofs.Keys.{key_cmp_total}
use Rattle.shop_operations.specs.References.{is_entity, is_live, live, of_version}
use Rattle.shop_operations.specs.Upserts.{place_cmp, row_in, with_row}
use Rattle.shop_operations.specs.Views.{IsInPlaceOrder}
use Rattle.shop_drafts.specs.Drafts.{is_open, count_unshown, over, draft_view}
use Rattle.shop_drafts.specs.declared.aggregate.Root.{Root}
use Rattle.shop_drafts.proofs.Orders.{filter_none, puts_of_all}
use Rattle.shop_version.specs.Overlays.{Layer, IsLayer, open_rows, layer_rows, layer_view, is_open_at, joined_places, at_version_key, guarded}
use Rattle.shop_write.proofs.InOrder.{itself, found_key, find_as, filter_all, guard, later, weaken, all_filter, all_pass, ascends_filter, find_filter, ascends_puts, find_puts, filter_puts, length_puts, map_puts, ascends_map, all_found}
use Rattle.shop_write.proofs.Growths.{filter_swap}
use Rattle.shop_write.proofs.LiveLooks.{filter_both}
use Rattle.shop_write.proofs.LivePlaces.{live_in_order, row_in-live, stands_is}
use Rattle.shop_write.proofs.Standing.{place_cmp_total}
use Rattle.shop_write.proofs.WrittenRows.{row_in_is}

-- each of the rows is of the version
abbrev pub AllOf : ℕ → List Row → Type 0
AllOf version rows = AllByRecursion (λ row. row.key.version ≡ version) rows

pub all_of : (version : ℕ) (rows : List Row) → AllOf version (of_version version rows)
all_of version rows = weaken (λ row. (row.key.version == version) ≡ true) (λ row. row.key.version ≡ version) (of_version version rows) (λ row h. eqb-true row.key.version version h) (all_pass (λ row. row.key.version == version) rows)

-- keys of one version are ordered as their places
pub as_places : (version : ℕ) (a b : Key) → a.version ≡ version → b.version ≡ version → key_cmp a b ≡ place_cmp a b
as_places version a b v w = rw (v, w, itself nat_cmp (λ n. n) nat_cmp_total version) refl

below_places : (version : ℕ) (key : Key) (rows : List Row) → key.version ≡ version → AllOf version rows → AllByRecursion (λ row. key_cmp key row.key ≡ Less) rows → AllByRecursion (λ row. place_cmp key row.key ≡ Less) rows
below_places version key [] v all below = tt
below_places version key (row ∷ rows) v all below = (sym (as_places version key row.key v all.0) ∙ below.0, below_places version key rows v all.1 below.1)

-- rows of one version in the order of keys are in the order of places
pub in_place_order : (version : ℕ) (rows : List Row) → AllOf version rows → IsInKeyOrder rows → IsInPlaceOrder rows
in_place_order version [] all up = tt
in_place_order version (row ∷ rows) all up = (below_places version row.key rows all.0 all.1 up.0, in_place_order version rows all.1 up.1)

-- the row at a place is the one with that version's key there
pub row_in-version : (version : ℕ) (rows : List Row) (key : Key) → AllOf version rows → row_in rows key ≡ row_at rows (at_version_key version key)
row_in-version version [] key all = refl
row_in-version version (row ∷ rows) key all =
    rw (stands_is key row ∙ ap is_eq (sym (as_places version row.key (at_version_key version key) all.0 refl)), row_in-version version rows key all.1) refl

-- a part by the keys, where a test of keys says what one of elements does
map_filter_on : {K X : Type 0} (key : X → K) (t : K → Bool) (q : X → Bool) (xs : List X) → AllByRecursion (λ x. t (key x) ≡ q x) xs → map key (filter q xs) ≡ filter t (map key xs)
map_filter_on key t q [] all = refl
map_filter_on {K} {X} key t q (x ∷ xs) all = by (map_filter_on key t q xs all.1) (q x) refl
  where
    by : map key (filter q xs) ≡ filter t (map key xs) → (b : Bool) → q x ≡ b → map key (filter q (x ∷ xs)) ≡ filter t (map key (x ∷ xs))
    by more true e = rw (all.0, e) (ap (λ ks. key x ∷ ks) more)
    by more false e = rw (all.0, e) more

-- ---- counts of parts

length-cons : {X : Type 0} (q : X → Bool) (x : X) (xs : List X) → length (filter q (x ∷ xs)) ≡ (if q x then suc (length (filter q xs)) else length (filter q xs))
length-cons q x xs = by (q x) refl
  where
    by : (b : Bool) → q x ≡ b → length (filter q (x ∷ xs)) ≡ (if q x then suc (length (filter q xs)) else length (filter q xs))
    by true e = rw e refl
    by false e = rw e refl

split_one : (m n k l : ℕ) → m ≡ (n + k) + l → (p a b d : Bool) → (a ≡ true → b ≡ false)
    → (if p then suc m else m) ≡ ((if a && p then suc n else n) + (if b && (d && p) then suc k else k)) + (if p && not (a || (b && d)) then suc l else l)
split_one m n k l e false true b d apart = let f = apart refl in rw f (omega (arith, e))
split_one m n k l e true true b d apart = let f = apart refl in rw f (omega (arith, e))
split_one m n k l e false false true true apart = omega (arith, e)
split_one m n k l e false false true false apart = omega (arith, e)
split_one m n k l e false false false d apart = omega (arith, e)
split_one m n k l e true false true true apart = omega (arith, e)
split_one m n k l e true false true false apart = omega (arith, e)
split_one m n k l e true false false d apart = omega (arith, e)

-- of elements that pass a test, those of one kind, those of another with a further test, and the rest
split : {X : Type 0} (p a b d : X → Bool) → ((x : X) → a x ≡ true → b x ≡ false) → (xs : List X)
    → length (filter p xs) ≡ (length (filter (λ x. a x && p x) xs) + length (filter (λ x. b x && (d x && p x)) xs)) + length (filter (λ x. p x && not (a x || (b x && d x))) xs)
split p a b d apart [] = omega arith
split p a b d apart (x ∷ xs) =
    rw (length-cons p x xs, length-cons (λ x. a x && p x) x xs, length-cons (λ x. b x && (d x && p x)) x xs, length-cons (λ x. p x && not (a x || (b x && d x))) x xs)
    (split_one _ _ _ _ (split p a b d apart xs) (p x) (a x) (b x) (d x) (apart x))

module _ (layer : Layer) (is : IsLayer layer) where
  live_up : IsInPlaceOrder (live layer.rows)
  live_up = live_in_order layer.rows is.order

  pub open_up : IsInPlaceOrder (open_rows layer)
  open_up = ascends_filter place_cmp row_key place_cmp_total (is_open layer.root layer.before) (live layer.rows) live_up

  pub own_all : AllOf layer.version layer.own
  own_all = rw (← is.own_is) (all_of layer.version layer.own)

  pub own_up : IsInPlaceOrder layer.own
  own_up = in_place_order layer.version layer.own own_all is.own_order

  free : (key : Key) (row : Row) → find place_cmp row_key layer.own key ≡ Some row → find place_cmp row_key (open_rows layer) key ≡ None
  free key row e = sym (row_in_is (open_rows layer) key) ∙ is.free key row (row_in_is layer.own key ∙ e)

  pub layer_up : IsInPlaceOrder (layer_rows layer)
  unfolding layer_rows
  layer_up = ascends_puts place_cmp row_key place_cmp_total layer.own (open_rows layer) open_up

  -- the row at a place
  pub row_in-layer : (key : Key) → row_in (layer_rows layer) key ≡ later (row_in (open_rows layer) key) (row_in layer.own key)
  unfolding layer_rows
  row_in-layer key =
      row_in_is _ key ∙ (find_puts place_cmp row_key place_cmp_total layer.own (open_rows layer) key own_up
      ∙ (ap (λ (found : Option Row). later found (find place_cmp row_key layer.own key)) (sym (row_in_is (open_rows layer) key))
      ∙ ap (later (row_in (open_rows layer) key)) (sym (row_in_is layer.own key))))

  -- the rows of which a test holds
  pub filter-layer : (p : Row → Bool) → filter p (layer_rows layer) ≡ fold with_row (filter p (open_rows layer)) (filter p layer.own)
  unfolding layer_rows
  filter-layer p = filter_puts place_cmp row_key place_cmp_total p (open_rows layer) layer.own open_up own_up free

  open_test : AllByRecursion (λ row. is_open_at layer row.key ≡ is_open layer.root layer.before row) (live layer.rows)
  open_test =
      all_filter (λ row. is_open_at layer row.key ≡ is_open layer.root layer.before row) is_live layer.rows
      (weaken (λ row. row_at layer.rows row.key ≡ Some row) (λ row. is_open_at layer row.key ≡ is_open layer.root layer.before row) layer.rows
      (λ row e. ap (λ found. option_map_or (is_open layer.root layer.before) found false) e)
      (all_found key_cmp row_key key_cmp_total layer.rows is.order))

  open_keys : (p : Row → Bool) → map row_key (filter p (open_rows layer)) ≡ filter (is_open_at layer) (map row_key (filter p (live layer.rows)))
  open_keys p =
      ap (map row_key) (filter_swap p (is_open layer.root layer.before) (live layer.rows))
      ∙ map_filter_on row_key (is_open_at layer) (is_open layer.root layer.before) (filter p (live layer.rows)) (all_filter _ p (live layer.rows) open_test)

  -- the keys of the rows of which a test holds
  pub keys-layer : (p : Row → Bool) → map row_key (filter p (layer_rows layer)) ≡ joined_places (filter (is_open_at layer) (map row_key (filter p (live layer.rows)))) (map row_key (filter p layer.own))
  keys-layer p =
      ap (map row_key) (filter-layer p)
      ∙ (map_puts place_cmp row_key place_cmp_total (filter p layer.own) (filter p (open_rows layer))
      ∙ ap (λ keys. joined_places keys (map row_key (filter p layer.own))) (open_keys p))

  -- the keys of own rows ascend by place
  pub own_keys_up : (p : Row → Bool) → Ascends place_cmp (λ key. key) (map row_key (filter p layer.own))
  own_keys_up p = ascends_map place_cmp row_key place_cmp_total (filter p layer.own) (ascends_filter place_cmp row_key place_cmp_total p layer.own own_up)

  pub before_all : AllOf layer.version layer.before
  before_all = rw is.before_is (all_of layer.version layer.rows)

  pub row_in-before : (key : Key) → row_in layer.before key ≡ row_at layer.before (at_version_key layer.version key)
  row_in-before key = row_in-version layer.version layer.before key before_all

  pub row_in-own : (key : Key) → row_in layer.own key ≡ row_at layer.own (at_version_key layer.version key)
  row_in-own key = row_in-version layer.version layer.own key own_all

  -- the live row at a place, if it shows
  pub row_in-open : (key : Key) → row_in (open_rows layer) key ≡ guard (is_open layer.root layer.before) (row_at layer.rows (at_version_key 0 key))
  row_in-open key =
      row_in_is (open_rows layer) key
      ∙ (find_filter place_cmp row_key place_cmp_total (is_open layer.root layer.before) (live layer.rows) key live_up
      ∙ ap (guard (is_open layer.root layer.before)) (sym (row_in_is (live layer.rows) key) ∙ row_in-live layer.rows key is.order))

  -- what shows of live is of no draft
  open_others : AllByRecursion (λ row. (row.key.version == layer.version) ≡ false) (open_rows layer)
  open_others =
      all_filter (λ row. (row.key.version == layer.version) ≡ false) (is_open layer.root layer.before) (live layer.rows)
      (weaken (λ row. is_live row ≡ true) (λ row. (row.key.version == layer.version) ≡ false) (live layer.rows)
      (λ row h. ap (λ v. v == layer.version) (eqb-true row.key.version 0 h) ∙ ne_eqb 0 layer.version (λ e. is.is_draft (sym e)))
      (all_pass is_live layer.rows))

  -- the rows of the draft's version that show are its own
  pub of_version-layer : of_version layer.version (layer_rows layer) ≡ layer.own
  of_version-layer =
      filter-layer (λ row. row.key.version == layer.version)
      ∙ (ap (λ opens. fold with_row opens (filter (λ row. row.key.version == layer.version) layer.own)) (filter_none (λ row. row.key.version == layer.version) (open_rows layer) open_others)
      ∙ (ap (fold with_row []) is.own_is ∙ puts_of_all place_cmp row_key place_cmp_total layer.own own_up))

  -- the keys that are looked up among own rows ascend
  pub own_keys_ascend : (p : Row → Bool) (keys : List Key) → keys ≡ map row_key (filter p layer.own) → Ascends place_cmp (λ key. key) keys
  own_keys_ascend p keys e = rw e (own_keys_up p)

  -- what is looked up among live and own rows, made one
  pub merged_is : (p : Row → Bool) (merged keys own : List Key) → merged ≡ joined_places (filter (is_open_at layer) keys) own
      → keys ≡ map row_key (filter p (live layer.rows)) → own ≡ map row_key (filter p layer.own) → merged ≡ map row_key (filter p (layer_rows layer))
  merged_is p merged keys own e f g = e ∙ (rw (f, g) refl ∙ sym (keys-layer p))

  -- the same for the layer that is seen
  pub merged_as : (seen : Layer) → layer ≡ seen → (p : Row → Bool) (merged keys own : List Key) → merged ≡ joined_places (filter (is_open_at seen) keys) own
      → keys ≡ map row_key (filter p (live layer.rows)) → own ≡ map row_key (filter p layer.own) → merged ≡ map row_key (filter p (layer_rows seen))
  merged_as seen same p merged keys own e f g =
      subst (λ (l : Layer). merged ≡ joined_places (filter (is_open_at l) keys) own → merged ≡ map row_key (filter p (layer_rows l))) same (λ h. merged_is p merged keys own h f g) e

  -- ---- counts

  passing : (p : Row → Bool) (row : Row) (found : Option Row) → guard p found ≡ Some row → found ≡ Some row
  passing p row None e = absurd (false≢true (ap is_some e))
  passing p row (Some found) e = by (p found) e
    where
      by : (b : Bool) → (if b then Some found else None) ≡ Some row → Some found ≡ Some row
      by true e = e
      by false e = absurd (false≢true (ap is_some e))

  -- how many of the rows pass a test
  pub count-layer : (p : Row → Bool) → count_by p (layer_rows layer) ≡ count_by p (open_rows layer) + count_by p layer.own
  count-layer p =
      let all = ap length (filter-layer p) in
      let both = length_puts place_cmp row_key place_cmp_total (filter p layer.own) (filter p (open_rows layer)) (ascends_filter place_cmp row_key place_cmp_total p layer.own own_up) free_of in
      omega (arith, length-filter p (layer_rows layer), length-filter p (open_rows layer), length-filter p layer.own)
    where
      free_of : (key : Key) (row : Row) → find place_cmp row_key (filter p layer.own) key ≡ Some row → find place_cmp row_key (filter p (open_rows layer)) key ≡ None
      free_of key row e =
          find_filter place_cmp row_key place_cmp_total p (open_rows layer) key open_up
          ∙ ap (guard p) (free key row (passing p row (find place_cmp row_key layer.own key) (sym (find_filter place_cmp row_key place_cmp_total p layer.own key own_up) ∙ e)))

  -- the rows of an entity are those of the draft, live ones that show, and those that it doesn't show
  pub count-all : (entity : Entity) → count_rows layer.rows entity ≡ (count_rows layer.before entity + count_rows (open_rows layer) entity) + count_unshown layer.rows layer.version layer.root entity
  count-all entity =
      let parts = split of_entity of_draft is_live opens apart layer.rows in
      let own = ap length (filter_both of_draft of_entity layer.rows) in
      let open_part = ap length (filter_both opens of_entity (live layer.rows)) in
      let open_all = ap length (filter_both is_live (λ row. opens row && of_entity row) layer.rows) in
      let same : count_rows layer.before entity ≡ count_rows (of_version layer.version layer.rows) entity = ap (λ rows. count_rows rows entity) is.before_is in
      let hidden : count_unshown layer.rows layer.version layer.root entity ≡ count_by (λ row. of_entity row && not (of_draft row || (is_live row && opens row))) layer.rows = ap (λ own. count_by (λ row. of_entity row && not (of_draft row || (is_live row && is_open layer.root own row))) layer.rows) (sym is.before_is) in
      omega (arith, length-filter of_entity layer.rows, length-filter of_entity (of_version layer.version layer.rows), length-filter of_entity (open_rows layer), length-filter (λ row. of_entity row && not (of_draft row || (is_live row && opens row))) layer.rows)
    where
      of_entity : Row → Bool
      of_entity row = is_entity entity row.key.entity

      of_draft : Row → Bool
      of_draft row = row.key.version == layer.version

      opens : Row → Bool
      opens row = is_open layer.root layer.before row

      apart : (row : Row) → of_draft row ≡ true → is_live row ≡ false
      apart row e = ne_eqb row.key.version 0 (λ z. is.is_draft (sym (eqb-true row.key.version layer.version e) ∙ z))

-- ---- for the layer that is seen

guard_is : (p : Row → Bool) (found : Option Row) → guard p found ≡ guarded p found
guard_is p None = refl
guard_is p (Some row) = refl

module _ (layer : Layer) (is : IsLayer layer) (seen : Layer) (same : layer ≡ seen) where
  pub part_closed : (row : Row) → true ≡ is_part layer.root row → false ≡ is_open seen.root seen.before row
  part_closed row e = subst (λ (l : Layer). false ≡ is_open l.root l.before row) same (rw (← e) refl)

  pub own_closed : (row other : Row) → false ≡ is_part layer.root row → Some other ≡ row_at layer.before (at_version_key layer.version row.key) → false ≡ is_open seen.root seen.before row
  own_closed row other e f = subst (λ (l : Layer). false ≡ is_open l.root l.before row) same (let found : row_in layer.before row.key ≡ Some other = row_in-before layer is row.key ∙ sym f in rw (← e, found) refl)

  pub else_open : (row : Row) → false ≡ is_part layer.root row → None ≡ row_at layer.before (at_version_key layer.version row.key) → true ≡ is_open seen.root seen.before row
  else_open row e f = subst (λ (l : Layer). true ≡ is_open l.root l.before row) same (let found : row_in layer.before row.key ≡ None = row_in-before layer is row.key ∙ sym f in rw (← e, found) refl)

  -- the live row at a place, if it shows
  pub open_is : (key : Key) (found : Option Row) → found ≡ row_at layer.rows (at_version_key 0 key) → guarded (is_open seen.root seen.before) found ≡ row_in (open_rows seen) key
  open_is key found e =
      subst (λ (l : Layer). guarded (is_open l.root l.before) found ≡ row_in (open_rows l) key) same
      (ap (guarded (is_open layer.root layer.before)) e ∙ (sym (guard_is (is_open layer.root layer.before) (row_at layer.rows (at_version_key 0 key))) ∙ sym (row_in-open layer is key)))

  -- an own row shows, and else the live one that may
  pub own_shown : (key : Key) (row : Row) → Some row ≡ row_at layer.own (at_version_key layer.version key) → Some row ≡ row_in (layer_rows seen) key
  own_shown key row e =
      subst (λ (l : Layer). Some row ≡ row_in (layer_rows l) key) same
      (sym (row_in-layer layer is key ∙ ap (later (row_in (open_rows layer) key)) (row_in-own layer is key ∙ sym e)))

  pub open_shown : (key : Key) → None ≡ row_at layer.own (at_version_key layer.version key) → row_in (open_rows seen) key ≡ row_in (layer_rows seen) key
  open_shown key e =
      subst (λ (l : Layer). row_in (open_rows l) key ≡ row_in (layer_rows l) key) same
      (sym (row_in-layer layer is key ∙ (ap (later (row_in (open_rows layer) key)) (row_in-own layer is key ∙ sym e) ∙ unchanged (row_in (open_rows layer) key))))
    where
      unchanged : (found : Option Row) → later found None ≡ found
      unchanged None = refl
      unchanged (Some row) = refl

  pub seen_up : IsInPlaceOrder (layer_rows seen)
  seen_up = subst (λ (l : Layer). IsInPlaceOrder (layer_rows l)) same (layer_up layer is)

  -- how many rows pass a test
  pub counted_as : (p : Row → Bool) (a b : ℕ) → a ≡ count_by p (open_rows seen) → b ≡ count_by p layer.own → a + b ≡ count_by p (layer_rows seen)
  counted_as p a b e f = subst (λ (l : Layer). a ≡ count_by p (open_rows l) → a + b ≡ count_by p (layer_rows l)) same (λ g. let counts = count-layer layer is p in omega (arith, counts, f, g)) e

  pub counts_open : (p : Row → Bool) (rows : List Row) → rows ≡ layer.rows → count_by (λ row. is_live row && (is_open seen.root seen.before row && p row)) rows ≡ count_by p (open_rows seen)
  counts_open p rows e =
      subst (λ (l : Layer). count_by (λ row. is_live row && (is_open l.root l.before row && p row)) rows ≡ count_by p (open_rows l)) same
      (ap (count_by (λ row. is_live row && (opens row && p row))) e ∙ both)
    where
      opens : Row → Bool
      opens row = is_open layer.root layer.before row

      both : count_by (λ row. is_live row && (opens row && p row)) layer.rows ≡ count_by p (open_rows layer)
      both =
          sym (length-filter (λ row. is_live row && (opens row && p row)) layer.rows)
          ∙ (sym (ap length (filter_both is_live (λ row. opens row && p row) layer.rows))
          ∙ (sym (ap length (filter_both opens p (live layer.rows)))
          ∙ length-filter p (open_rows layer)))

-- ---- the layer as it is found

pub layer_found : (rows : List Row) (version : ℕ) (root : Root) → IsInKeyOrder rows → version ≢ 0 → IsLayer (record { rows = rows; version = version; root = root; before = of_version version rows; own = of_version version rows })
layer_found rows version root up n = record {
  order = up;
  before_is = refl;
  before_order = own_up_found;
  own_order = own_up_found;
  own_is = again rows;
  is_draft = n;
  free = λ key row e. row_in_is _ key ∙ (find_filter place_cmp row_key place_cmp_total (is_open root (of_version version rows)) (live rows) key (live_in_order rows up) ∙ shut key row e (find place_cmp row_key (live rows) key) refl);
}
  where
    own_up_found : IsInKeyOrder (of_version version rows)
    own_up_found = ascends_filter key_cmp row_key key_cmp_total (λ row. row.key.version == version) rows up

    again : (rows : List Row) → of_version version (of_version version rows) ≡ of_version version rows
    again rows = filter_all (λ row. row.key.version == version) (of_version version rows) (all_pass (λ row. row.key.version == version) rows)

    at_place : (key : Key) (row other : Row) → row_in (of_version version rows) key ≡ Some row → find place_cmp row_key (live rows) key ≡ Some other → row_in (of_version version rows) other.key ≡ Some row
    at_place key row other e f =
        row_in_is (of_version version rows) other.key
        ∙ (find_as place_cmp row_key place_cmp_total (of_version version rows) other.key key (found_key place_cmp row_key place_cmp_total (live rows) key other f)
        ∙ (sym (row_in_is (of_version version rows) key) ∙ e))

    closed : (b : Bool) (other : Row) (found : Option Row) → row_in (of_version version rows) other.key ≡ found → is_some found ≡ true → (if not b && is_none (row_in (of_version version rows) other.key) then Some other else None) ≡ None
    closed true other found e s = refl
    closed false other (Some row) e s = rw e refl
    closed false other None e s = absurd (false≢true s)

    shut : (key : Key) (row : Row) → row_in (of_version version rows) key ≡ Some row → (found : Option Row) → find place_cmp row_key (live rows) key ≡ found → guard (is_open root (of_version version rows)) found ≡ None
    shut key row e None f = refl
    shut key row e (Some other) f = closed (is_part root other) other (Some row) (at_place key row other e f) refl

pub view_found : (rows : List Row) (version : ℕ) (root : Root) → layer_view (record { rows = rows; version = version; root = root; before = of_version version rows; own = of_version version rows }) ≡ draft_view rows version root
unfolding layer_rows over
view_found rows version root = refl

pub version_in_order : (rows : List Row) (version : ℕ) → IsInKeyOrder rows → IsInKeyOrder (of_version version rows)
version_in_order rows version up = ascends_filter key_cmp row_key key_cmp_total (λ row. row.key.version == version) rows up
