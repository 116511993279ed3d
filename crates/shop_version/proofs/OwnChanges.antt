-- Own rows change: what the draft shows changes at the same places.
use Rattle.std.proofs.Common.{◌≡◌, ℕ, Bool, true, false, List, [], ◌∷◌, refl, sym, ap, subst, ◌∙◌, Option, Some, None, if◌then◌else◌}
use Rattle.std.specs.Prelude.{◌==◌}
use Rattle.std.specs.List.{AllByRecursion, fold}
use Rattle.std.specs.declared.cmp.Ordering.{Ordering}
use Rattle.std.specs.declared.cmp.Ordering.TheVariants.{Less, Equal, Greater}
use Rattle.std.specs.Ordering.{is_eq}
use Rattle.std.proofs.lemmas.Bool.{eq-eqb}
use Rattle.keyed.specs.Keyed.{find, put, without}
use Rattle.keyed.proofs.Changes.{ascends_put, ascends_without, find_put, find_without}
use Rattle.shop_defs.specs.declared.key.Key.{Key}
use Rattle.shop_defs.specs.declared.row.Row.{Row}
use Rattle.shop_defs.specs.Joined.{Change}
use Rattle.shop_defs.specs.Keys.{key_cmp}
use Rattle.shop_defs.specs.Rows.{row_key, change_row, change_rows, IsInKeyOrder}
use Rattle.shop_operations.specs.Upserts.{place_cmp, row_in, with_row}
use Rattle.shop_operations.specs.Views.{IsInPlaceOrder, change_place, change_places}
use Rattle.shop_rows.proofs.ChangedRows.{in_order-change_rows}
use Rattle.shop_version.specs.Overlays.{Layer, IsLayer, open_rows, layer_rows, IsOwnChange}
use Rattle.shop_version.proofs.Layers.{AllOf, as_places, own_all, open_up, in_place_order}
use Rattle.shop_write.proofs.InOrder.{later, same_from_find, ascends_puts, find_puts, find_as, filter_all, weaken}
use Rattle.shop_write.proofs.Standing.{place_cmp_total}
use Rattle.shop_write.proofs.WrittenRows.{row_in_is}

-- among rows of one version a put by key is one by place
put_same : (version : ℕ) (rows : List Row) (row : Row) → AllOf version rows → row.key.version ≡ version → put key_cmp row_key rows row ≡ put place_cmp row_key rows row
put_same version [] row all v = refl
put_same version (x ∷ rows) row all v = rw (as_places version x.key row.key all.0 v, put_same version rows row all.1 v) refl

without_same : (version : ℕ) (rows : List Row) (key : Key) → AllOf version rows → key.version ≡ version → without key_cmp row_key rows key ≡ without place_cmp row_key rows key
without_same version [] key all v = refl
without_same version (x ∷ rows) key all v = rw (as_places version x.key key all.0 v, without_same version rows key all.1 v) refl

all_put : (version : ℕ) (rows : List Row) (row : Row) → AllOf version rows → row.key.version ≡ version → AllOf version (put key_cmp row_key rows row)
all_put version [] row all v = (v, tt)
all_put version (x ∷ rows) row all v = by (all_put version rows row all.1 v) (key_cmp x.key row.key) refl
  where
    by : AllOf version (put key_cmp row_key rows row) → (o : Ordering) → key_cmp x.key row.key ≡ o → AllOf version (put key_cmp row_key (x ∷ rows) row)
    by more Less e = rw e (all.0, more)
    by more Equal e = rw e (v, all.1)
    by more Greater e = rw e (v, all)

all_without : (version : ℕ) (rows : List Row) (key : Key) → AllOf version rows → AllOf version (without key_cmp row_key rows key)
all_without version [] key all = tt
all_without version (x ∷ rows) key all = by (all_without version rows key all.1) (is_eq (key_cmp x.key key)) refl
  where
    by : AllOf version (without key_cmp row_key rows key) → (b : Bool) → is_eq (key_cmp x.key key) ≡ b → AllOf version (without key_cmp row_key (x ∷ rows) key)
    by more true e = rw e all.1
    by more false e = rw e (all.0, more)

module _ (version : ℕ) (opens : List Row) (opens_up : IsInPlaceOrder opens) where
  -- one change
  one : (own : List Row) (change : Change) → AllOf version own → IsInKeyOrder own → IsOwnChange version opens change → fold with_row opens (change_row own change.0 change.1) ≡ change_place (fold with_row opens own) change
  one own (key, Some row) all up is =
      ap (fold with_row opens) (put_same version own row all v)
      ∙ same_from_find place_cmp row_key place_cmp_total _ _
      (ascends_puts place_cmp row_key place_cmp_total (put place_cmp row_key own row) opens opens_up)
      (ascends_put place_cmp row_key place_cmp_total (fold with_row opens own) row (ascends_puts place_cmp row_key place_cmp_total own opens opens_up))
      (λ q. find_puts place_cmp row_key place_cmp_total (put place_cmp row_key own row) opens q (ascends_put place_cmp row_key place_cmp_total own row own_up)
      ∙ (ap (later (find place_cmp row_key opens q)) (find_put place_cmp row_key place_cmp_total own row q)
      ∙ (by q (is_eq (place_cmp row.key q))
      ∙ (ap (λ (found : Option Row). if is_eq (place_cmp row.key q) then Some row else found) (sym (find_puts place_cmp row_key place_cmp_total own opens q own_up))
      ∙ sym (find_put place_cmp row_key place_cmp_total (fold with_row opens own) row q)))))
    where
      v : row.key.version ≡ version
      v = ap (λ (k : Key). k.version) is.stands ∙ is.version

      own_up : IsInPlaceOrder own
      own_up = in_place_order version own all up

      by : (q : Key) (b : Bool) → later (find place_cmp row_key opens q) (if b then Some row else find place_cmp row_key own q) ≡ (if b then Some row else later (find place_cmp row_key opens q) (find place_cmp row_key own q))
      by q true = refl
      by q false = refl
  one own (key, None) all up is =
      ap (fold with_row opens) (without_same version own key all is.version)
      ∙ same_from_find place_cmp row_key place_cmp_total _ _
      (ascends_puts place_cmp row_key place_cmp_total (without place_cmp row_key own key) opens opens_up)
      (ascends_without place_cmp row_key place_cmp_total (fold with_row opens own) key layer_up)
      (λ q. find_puts place_cmp row_key place_cmp_total (without place_cmp row_key own key) opens q (ascends_without place_cmp row_key place_cmp_total own key own_up)
      ∙ (ap (later (find place_cmp row_key opens q)) (find_without place_cmp row_key place_cmp_total own key q own_up)
      ∙ (by q (place_cmp key q) refl
      ∙ (ap (λ (found : Option Row). if is_eq (place_cmp key q) then None else found) (sym (find_puts place_cmp row_key place_cmp_total own opens q own_up))
      ∙ sym (find_without place_cmp row_key place_cmp_total (fold with_row opens own) key q layer_up)))))
    where
      own_up : IsInPlaceOrder own
      own_up = in_place_order version own all up

      layer_up : IsInPlaceOrder (fold with_row opens own)
      layer_up = ascends_puts place_cmp row_key place_cmp_total own opens opens_up

      none_at : (q : Key) → place_cmp key q ≡ Equal → find place_cmp row_key opens q ≡ None
      none_at q e = sym (find_as place_cmp row_key place_cmp_total opens key q e) ∙ (sym (row_in_is opens key) ∙ is.closed)

      by : (q : Key) (o : Ordering) → place_cmp key q ≡ o → later (find place_cmp row_key opens q) (if is_eq (place_cmp key q) then None else find place_cmp row_key own q) ≡ (if is_eq (place_cmp key q) then None else later (find place_cmp row_key opens q) (find place_cmp row_key own q))
      by q Less e = rw e refl
      by q Equal e = rw (e, none_at q e) refl
      by q Greater e = rw e refl

  all_one : (own : List Row) (change : Change) → AllOf version own → IsOwnChange version opens change → AllOf version (change_row own change.0 change.1)
  all_one own (key, Some row) all is = all_put version own row all (ap (λ (k : Key). k.version) is.stands ∙ is.version)
  all_one own (key, None) all is = all_without version own key all

  -- where an own row stands after a change no live row shows
  free_one : (own : List Row) (change : Change) → AllOf version own → IsInKeyOrder own → IsOwnChange version opens change
      → ((key : Key) (row : Row) → row_in own key ≡ Some row → row_in opens key ≡ None)
      → (key : Key) (row : Row) → row_in (change_row own change.0 change.1) key ≡ Some row → row_in opens key ≡ None
  free_one own (at, Some put_row) all up is free key row e = by (place_cmp put_row.key key) refl
    where
      v : put_row.key.version ≡ version
      v = ap (λ (k : Key). k.version) is.stands ∙ is.version

      found : (if is_eq (place_cmp put_row.key key) then Some put_row else find place_cmp row_key own key) ≡ Some row
      found = sym (find_put place_cmp row_key place_cmp_total own put_row key) ∙ (ap (λ rows. find place_cmp row_key rows key) (sym (put_same version own put_row all v)) ∙ (sym (row_in_is (put key_cmp row_key own put_row) key) ∙ e))

      old : is_eq (place_cmp put_row.key key) ≡ false → row_in opens key ≡ None
      old f = free key row (row_in_is own key ∙ (sym (ap (λ (b : Bool). if b then Some put_row else find place_cmp row_key own key) f) ∙ found))

      by : (o : Ordering) → place_cmp put_row.key key ≡ o → row_in opens key ≡ None
      by Less f = old (ap is_eq f)
      by Equal f = row_in_is opens key ∙ (sym (find_as place_cmp row_key place_cmp_total opens put_row.key key f) ∙ (ap (find place_cmp row_key opens) is.stands ∙ (sym (row_in_is opens at) ∙ is.closed)))
      by Greater f = old (ap is_eq f)
  free_one own (at, None) all up is free key row e = by (place_cmp at key) refl
    where
      found : (if is_eq (place_cmp at key) then None else find place_cmp row_key own key) ≡ Some row
      found = sym (find_without place_cmp row_key place_cmp_total own at key (in_place_order version own all up)) ∙ (ap (λ rows. find place_cmp row_key rows key) (sym (without_same version own at all is.version)) ∙ (sym (row_in_is (without key_cmp row_key own at) key) ∙ e))

      old : is_eq (place_cmp at key) ≡ false → row_in opens key ≡ None
      old f = free key row (row_in_is own key ∙ (sym (ap (λ (b : Bool). if b then None else find place_cmp row_key own key) f) ∙ found))

      by : (o : Ordering) → place_cmp at key ≡ o → row_in opens key ≡ None
      by Less f = old (ap is_eq f)
      by Equal f = row_in_is opens key ∙ (sym (find_as place_cmp row_key place_cmp_total opens at key f) ∙ (sym (row_in_is opens at) ∙ is.closed))
      by Greater f = old (ap is_eq f)

  pub record Grown (own : List Row) (changes : List Change) : Type 0 where
    pub rows : fold with_row opens (change_rows own changes) ≡ change_places (fold with_row opens own) changes
    pub all : AllOf version (change_rows own changes)
    pub free : (key : Key) (row : Row) → row_in (change_rows own changes) key ≡ Some row → row_in opens key ≡ None

  -- all changes
  pub grown : (changes : List Change) (own : List Row) → AllOf version own → IsInKeyOrder own → AllByRecursion (IsOwnChange version opens) changes
      → ((key : Key) (row : Row) → row_in own key ≡ Some row → row_in opens key ≡ None) → Grown own changes
  grown [] own all up are free = record { rows = refl; all = all; free = free }
  grown (change ∷ changes) own all up are free =
      let next = change_row own change.0 change.1 in
      let more = grown changes next (all_one own change all are.0) (in_order-change_rows (change ∷ []) own up) are.1 (free_one own change all up are.0 free) in
      record { rows = more.rows ∙ ap (λ rows. change_places rows changes) (one own change all up are.0); all = more.all; free = more.free }

-- the layer after changes of its own rows
abbrev pub next : Layer → List Change → Layer
next layer changes = record layer { own = change_rows layer.own changes }

pub next_is : (layer : Layer) → IsLayer layer → (changes : List Change) → AllByRecursion (IsOwnChange layer.version (open_rows layer)) changes → IsLayer (next layer changes)
next_is layer is changes are =
    let g = grown layer.version (open_rows layer) (open_up layer is) changes layer.own (own_all layer is) is.own_order are is.free in
    record {
      order = is.order;
      before_is = is.before_is;
      before_order = is.before_order;
      own_order = in_order-change_rows changes layer.own is.own_order;
      own_is = filter_all (λ row. row.key.version == layer.version) (change_rows layer.own changes) (weaken (λ row. row.key.version ≡ layer.version) (λ row. (row.key.version == layer.version) ≡ true) (change_rows layer.own changes) (λ row e. eq-eqb row.key.version layer.version e) g.all);
      is_draft = is.is_draft;
      free = g.free;
    }

pub next_rows : (layer : Layer) → IsLayer layer → (changes : List Change) → AllByRecursion (IsOwnChange layer.version (open_rows layer)) changes → layer_rows (next layer changes) ≡ change_places (layer_rows layer) changes
unfolding layer_rows
next_rows layer is changes are = (grown layer.version (open_rows layer) (open_up layer is) changes layer.own (own_all layer is) is.own_order are is.free).rows

-- for the layers that are seen
pub seen_next : (layer : Layer) → IsLayer layer → (seen : Layer) → layer ≡ seen → (changes : List Change) → AllByRecursion (IsOwnChange seen.version (open_rows seen)) changes → (own : List Row) → own ≡ change_rows layer.own changes
    → layer_rows (record layer { own = own }) ≡ change_places (layer_rows seen) changes
seen_next layer is seen same changes are own e =
    let back : AllByRecursion (IsOwnChange layer.version (open_rows layer)) changes = subst (λ (l : Layer). AllByRecursion (IsOwnChange l.version (open_rows l)) changes) (sym same) are in
    ap (λ own. layer_rows (record layer { own = own })) e ∙ (next_rows layer is changes back ∙ ap (λ (l : Layer). change_places (layer_rows l) changes) same)

pub seen_is : (layer : Layer) → IsLayer layer → (seen : Layer) → layer ≡ seen → (changes : List Change) → AllByRecursion (IsOwnChange seen.version (open_rows seen)) changes → (own : List Row) → own ≡ change_rows layer.own changes
    → IsLayer (record layer { own = own })
seen_is layer is seen same changes are own e =
    let back : AllByRecursion (IsOwnChange layer.version (open_rows layer)) changes = subst (λ (l : Layer). AllByRecursion (IsOwnChange l.version (open_rows l)) changes) (sym same) are in
    subst (λ own. IsLayer (record layer { own = own })) (sym e) (next_is layer is changes back)
