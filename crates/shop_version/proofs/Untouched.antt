-- An operation that touches nothing outside what a draft edits leaves the live rows that show.
use Rattle.std.proofs.Common.{◌≡◌, Bool, true, false, not, List, [], ◌∷◌, refl, sym, ap, subst, ◌∙◌, Option, Some, None, if◌then◌else◌}
use Rattle.std.specs.Prelude.{◌&&◌, ◌||◌, filter, find, is_some, Ok}
use Rattle.std.specs.List.{list_any}
use Rattle.std.specs.Option.{option_map, option_map_or}
use Rattle.std.proofs.lemmas.Bool.{and_parts, false≢true, true≢false}
use Rattle.closure.specs.Closure.{IsIn}
use Rattle.closure.proofs.Members.{in_filter, of_filter, in_map}
use Rattle.shop_defs.specs.declared.broken.Broken.{Broken}
use Rattle.shop_defs.specs.declared.key.Key.{Key}
use Rattle.shop_defs.specs.declared.op.Op.{Op}
use Rattle.shop_defs.specs.declared.op.OpKind.{OpKind}
use Rattle.shop_defs.specs.declared.op.OpKind.TheVariants.{Upsert, Delete}
use Rattle.shop_defs.specs.declared.row.Row.{Row}
use Rattle.shop_defs.specs.declared.table.TheConstants.{REFERENCES}
use Rattle.shop_defs.specs.Rows.{row_key}
use Rattle.shop_operations.specs.Deletes.{stands_at, in_use, goes, gone, kept, emptied, deleted, is_emptied, loses_field}
use Rattle.shop_operations.specs.Operations.{place, broken_by, operated, by_kind, unless, removed, in_use_by, shown_key}
use Rattle.shop_operations.specs.Upserts.{place_cmp, row_in, with_row, left}
use Rattle.shop_operations.specs.Views.{IsInPlaceOrder}
use Rattle.shop_soundness.proofs.InOrder.{delete_in_order}
use Rattle.shop_soundness.proofs.Lefts.{left_place}
use Rattle.shop_soundness.proofs.Lists.{finds, no_some}
use Rattle.shop_soundness.proofs.Places.{AtOnePlace, stands_place, place_back, place_on, place_equal}
use Rattle.shop_drafts.specs.Aggregates.{is_part}
use Rattle.shop_drafts.specs.Drafts.{is_open}
use Rattle.shop_drafts.specs.Writing.{outside, touches}
use Rattle.shop_write.proofs.InOrder.{later, find_as}
use Rattle.shop_write.proofs.Standing.{IsStanding, row_found, row_in_found, place_cmp_total}
use Rattle.shop_write.proofs.WrittenRows.{row_in_is, row_in_with}
use Rattle.shop_version.specs.Overlays.{Layer, IsLayer, open_rows, layer_rows, layer_view}
use Rattle.shop_version.proofs.Layers.{row_in-layer, layer_up}

-- what there is without a broken rule
unless_ok : (rows now : List Row) (broken : Option Broken) → unless rows broken ≡ Ok now → rows ≡ now
unless_ok rows now None e = cc
unless_ok rows now (Some broken) e = cc

none_emptied : {X : Type 0} (p : X → Bool) (xs : List X) → list_any p xs ≡ false → filter (λ x. not (p x)) xs ≡ xs
none_emptied p [] e = refl
none_emptied p (x ∷ xs) e = by (none_emptied p xs) (p x) refl e
  where
    by : (list_any p xs ≡ false → filter (λ x. not (p x)) xs ≡ xs) → (b : Bool) → p x ≡ b → (b || list_any p xs) ≡ false → filter (λ x. not (p x)) (x ∷ xs) ≡ x ∷ xs
    by more true f g = absurd (true≢false g)
    by more false f g = rw f (ap (λ ys. x ∷ ys) (more g))

none_found : {X : Type 0} (p : X → Bool) (xs : List X) (y : X) → find p xs ≡ None → IsIn y xs → p y ≡ false
none_found p xs y e i = by (p y) refl
  where
    by : (b : Bool) → p y ≡ b → p y ≡ false
    by true f = let found = finds p xs y i f in absurd (no_some found.one (sym e ∙ found.found))
    by false f = f

no_key : {K X : Type 0} (f : X → K) (found : Option X) → option_map f found ≡ None → found ≡ None
no_key f None e = refl
no_key f (Some x) e = cc

both_hold : {X : Type 0} (a b : Bool) (x : X) → (if a && b then None else Some x) ≡ None → (a ≡ true) × (b ≡ true)
both_hold true true x e = (refl, refl)
both_hold true false x e = cc
both_hold false b x e = cc

or_false : (a b : Bool) → (a || b) ≡ false → (a ≡ false) × (b ≡ false)
or_false true b e = absurd (true≢false e)
or_false false b e = (refl, e)

-- a row that isn't part, of those of which none outside is touched, isn't touched
apart : (t part : Bool) → part ≡ false → (t && not part) ≡ false → t ≡ false
apart true part e f = let g : not part ≡ true = ap not e in absurd (true≢false (sym g ∙ f))
apart false part e f = refl

module _ (layer : Layer) (is : IsLayer layer) where
  -- what shows of live isn't part of what the draft edits
  pub open_apart : (key : Key) (row : Row) → row_in (open_rows layer) key ≡ Some row → is_part layer.root row ≡ false
  open_apart key row e = by (is_part layer.root row) refl ((and_parts _ _ (of_filter (is_open layer.root layer.before) _ row (row_found (open_rows layer) key row e).is_in).passes).0)
    where
      by : (b : Bool) → is_part layer.root row ≡ b → not (is_part layer.root row) ≡ true → is_part layer.root row ≡ false
      by true f g = absurd (false≢true (sym (ap not f) ∙ g))
      by false f g = f

  -- and shows in the draft
  pub open_shows : (key : Key) (row : Row) → row_in (open_rows layer) key ≡ Some row → row_in (layer_rows layer) key ≡ Some row
  open_shows key row e = row_in-layer layer is key ∙ (ap (λ (found : Option Row). later found (row_in layer.own key)) e ∙ by (row_in layer.own key) refl)
    where
      by : (found : Option Row) → row_in layer.own key ≡ found → later (Some row) found ≡ Some row
      by None f = refl
      by (Some own) f = let none : row_in (open_rows layer) key ≡ None = is.free key own f in absurd (true≢false (ap is_some (sym e ∙ none)))

  -- the same at another key of the place
  at_place : (a b : Key) (rows : List Row) → AtOnePlace a b → row_in rows a ≡ row_in rows b
  at_place a b rows s = row_in_is rows a ∙ (find_as place_cmp row_key place_cmp_total rows a b (place_equal a b s) ∙ sym (row_in_is rows b))

  upsert_stays : (op : Op) (now : List Row) → by_kind (layer_view layer) op false Upsert ≡ Ok now → outside layer.root (layer_view layer) op Upsert ≡ None
      → (key : Key) (row : Row) → row_in (open_rows layer) key ≡ Some row → row_in now key ≡ Some row
  upsert_stays op now e o key row f =
      ap (λ rows. row_in rows key) (sym (unless_ok (with_row (layer_rows layer) new) now (broken_by (layer_view layer) op new) e))
      ∙ (row_in_with (layer_rows layer) new key ∙ by (stands_at key new) refl)
    where
      at : Key
      at = place (layer_view layer) op

      new : Row
      new = left (layer_rows layer) at op

      inside : option_map_or (is_part layer.root) (row_in (layer_rows layer) at) true ≡ true
      inside = (both_hold (option_map_or (is_part layer.root) (row_in (layer_rows layer) at) true) (is_part layer.root new) at o).0

      clash : stands_at key new ≡ true → is_part layer.root row ≡ true
      clash s =
          let same : AtOnePlace at key = place_back key at (place_on key new.key at (stands_place key new s) (left_place (layer_rows layer) at op)) in
          sym (ap (λ (found : Option Row). option_map_or (is_part layer.root) found true) (at_place at key (layer_rows layer) same ∙ open_shows key row f)) ∙ inside

      by : (b : Bool) → stands_at key new ≡ b → (if b then Some new else row_in (layer_rows layer) key) ≡ Some row
      by true s = absurd (false≢true (sym (open_apart key row f) ∙ clash s))
      by false s = open_shows key row f

  delete_stays : (op : Op) (now : List Row) → by_kind (layer_view layer) op false Delete ≡ Ok now → outside layer.root (layer_view layer) op Delete ≡ None
      → (key : Key) (row : Row) → row_in (open_rows layer) key ≡ Some row → row_in now key ≡ Some row
  delete_stays op now e o key row f = by (row_in (layer_rows layer) at) refl e
    where
      at : Key
      at = place (layer_view layer) op

      there : IsStanding (layer_rows layer) key row
      there = row_found (layer_rows layer) key row (open_shows key row f)

      untouched : touches (layer_view layer) op row ≡ false
      untouched = apart (touches (layer_view layer) op row) (is_part layer.root row) (open_apart key row f) (none_found (λ other. touches (layer_view layer) op other && not (is_part layer.root other)) (layer_rows layer) row (no_key (shown_key (layer_view layer)) (find (λ other. touches (layer_view layer) op other && not (is_part layer.root other)) (layer_rows layer)) o) there.is_in)

      not_gone : goes REFERENCES (layer_rows layer) at row ≡ false
      not_gone = (or_false (goes REFERENCES (layer_rows layer) at row) (loses_field REFERENCES (layer_rows layer) at row) untouched).0

      whole : emptied REFERENCES (gone REFERENCES (layer_rows layer) at) row ≡ row
      whole = ap (λ fields. record row { fields = fields }) (none_emptied (λ entry. is_emptied REFERENCES (gone REFERENCES (layer_rows layer) at) row entry.0) row.fields (or_false (goes REFERENCES (layer_rows layer) at row) (loses_field REFERENCES (layer_rows layer) at row) untouched).1)

      is_left : IsIn row (deleted REFERENCES (layer_rows layer) at)
      is_left = subst (λ (r : Row). IsIn r (deleted REFERENCES (layer_rows layer) at)) whole
          (in_map (emptied REFERENCES (gone REFERENCES (layer_rows layer) at)) (kept REFERENCES (layer_rows layer) at) row (in_filter (λ other. not (goes REFERENCES (layer_rows layer) at other)) (layer_rows layer) row there.is_in (ap not not_gone)))

      in_order : IsInPlaceOrder (deleted REFERENCES (layer_rows layer) at)
      in_order = delete_in_order (layer_rows layer) at (layer_up layer is)

      by : (found : Option Row) → row_in (layer_rows layer) at ≡ found → removed (layer_view layer) op false found ≡ Ok now → row_in now key ≡ Some row
      by None g h = cc
      by (Some old) g h = ap (λ rows. row_in rows key) (sym (unless_ok (deleted REFERENCES (layer_rows layer) at) now (in_use_by (in_use REFERENCES (layer_rows layer) at)) h)) ∙ row_in_found (deleted REFERENCES (layer_rows layer) at) key row in_order is_left there.stands

  -- what shows of live stays as it is
  pub stays : (op : Op) (now : List Row) → operated (layer_view layer) op false ≡ Ok now → outside layer.root (layer_view layer) op op.kind ≡ None
      → (key : Key) (row : Row) → row_in (open_rows layer) key ≡ Some row → row_in now key ≡ Some row
  unfolding operated
  stays op now e o = by op.kind e o
    where
      by : (kind : OpKind) → by_kind (layer_view layer) op false kind ≡ Ok now → outside layer.root (layer_view layer) op kind ≡ None
          → (key : Key) (row : Row) → row_in (open_rows layer) key ≡ Some row → row_in now key ≡ Some row
      by Upsert f g = upsert_stays op now f g
      by Delete f g = delete_stays op now f g
