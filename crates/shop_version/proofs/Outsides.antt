-- What a delete in a draft touches, found by what it reaches.
use Rattle.std.proofs.Common.{◌≡◌, Bool, true, false, not, inl, inr, List, [], ◌∷◌, refl, sym, ap, subst, ◌∙◌, Option, Some, None}
use Rattle.std.specs.Prelude.{◌&&◌, ◌||◌, filter, map, find}
use Rattle.std.specs.List.{fold}
use Rattle.std.specs.Option.{option_map, option_map_or}
use Rattle.closure.specs.Closure.{IsIn}
use Rattle.keyed.specs.Keyed as keyed
use Rattle.keyed.specs.Keyed.{Ascends, put}
use Rattle.shop_defs.specs.declared.key.Key.{Key}
use Rattle.shop_defs.specs.declared.op.Op.{Op}
use Rattle.shop_defs.specs.declared.op.OpKind.{OpKind}
use Rattle.shop_defs.specs.declared.op.OpKind.TheVariants.{Upsert, Delete}
use Rattle.shop_defs.specs.declared.row.Row.{Row}
use Rattle.shop_defs.specs.declared.table.TheConstants.{REFERENCES}
use Rattle.shop_operations.specs.Deletes.{goes, gone, kept, losing, loses_field}
use Rattle.shop_operations.specs.Operations.{place, row_left, shown_key, keys_gone, keys_emptied}
use Rattle.shop_write.specs.Reaching.{IsReach}
use Rattle.shop_write.specs.declared.effects.Reached.{Reached}
use Rattle.shop_operations.specs.Upserts.{place_cmp}
use Rattle.shop_drafts.specs.Aggregates.{is_part}
use Rattle.shop_drafts.specs.Writing.{outside, touches}
use Rattle.shop_write.proofs.InOrder.{guard, later, ascends_filter, ascends_map, ascends_puts, find_filter, find_puts, map_puts, same_from_find}
use Rattle.shop_write.proofs.Standing.{row_in_found, stands_itself, place_cmp_total}
use Rattle.shop_version.specs.DraftSteps.{is_free_or_inside, upsert_outside}
use Rattle.shop_version.specs.Overlays.{Layer, IsLayer, layer_rows, layer_view, joined_places}
use Rattle.shop_version.proofs.Layers.{layer_up}

-- a search among keys is one among rows, where the tests agree
find_keys : {K X : Type 0} (key : X → K) (t : K → Bool) (q s : X → Bool) (xs : List X) → ((x : X) → IsIn x xs → t (key x) ≡ s x) → find t (map key (filter q xs)) ≡ option_map key (find (λ x. q x && s x) xs)
find_keys key t q s [] same = refl
find_keys {K} {X} key t q s (x ∷ xs) same = by (find_keys key t q s xs (λ y i. same y (inr i))) (q x) refl (s x) refl
  where
    by : find t (map key (filter q xs)) ≡ option_map key (find (λ x. q x && s x) xs) → (b : Bool) → q x ≡ b → (c : Bool) → s x ≡ c → find t (map key (filter q (x ∷ xs))) ≡ option_map key (find (λ x. q x && s x) (x ∷ xs))
    by more true e true f = let g : t (key x) ≡ true = same x (inl refl) ∙ f in rw (e, g, f) refl
    by more true e false f = let g : t (key x) ≡ false = same x (inl refl) ∙ f in rw (e, g, f) more
    by more false e c f = rw e more

-- what an upsert touches, by the row that it would leave
pub upsert_outside_is : (layer : Layer) (op : Op) (row : Option Row) (kind : OpKind) → kind ≡ Upsert → row ≡ row_left (layer_view layer) op kind → upsert_outside layer op row ≡ outside layer.root (layer_view layer) op kind
upsert_outside_is layer op row Upsert k e = ap (upsert_outside layer op) e
upsert_outside_is layer op row Delete k e = cc

module _ (layer : Layer) (is : IsLayer layer) (op : Op) where
  abbrev sk : Row → Key
  sk row = shown_key (layer_view layer) row

  abbrev at : Key
  at = place (layer_view layer) op

  abbrev rows : List Row
  rows = layer_rows layer

  rows_up : Ascends place_cmp sk (layer_rows layer)
  rows_up = layer_up layer is

  gone_up : Ascends place_cmp sk (gone REFERENCES (layer_rows layer) at)
  gone_up = ascends_filter place_cmp sk place_cmp_total (goes REFERENCES (layer_rows layer) at) (layer_rows layer) rows_up

  kept_up : Ascends place_cmp sk (kept REFERENCES (layer_rows layer) at)
  kept_up = ascends_filter place_cmp sk place_cmp_total (λ row. not (goes REFERENCES (layer_rows layer) at row)) (layer_rows layer) rows_up

  losing_up : Ascends place_cmp sk (losing REFERENCES (layer_rows layer) at)
  losing_up = ascends_filter place_cmp sk place_cmp_total (loses_field REFERENCES (layer_rows layer) at) (kept REFERENCES (layer_rows layer) at) kept_up

  pub emptied_up : (keys : List Key) → keys ≡ map sk (losing REFERENCES (layer_rows layer) at) → Ascends place_cmp (λ key. key) keys
  emptied_up keys e = subst (Ascends place_cmp (λ key. key)) (sym e) (ascends_map place_cmp sk place_cmp_total (losing REFERENCES (layer_rows layer) at) losing_up)

  -- what goes and what loses a field, together
  both : fold (put place_cmp sk) (gone REFERENCES (layer_rows layer) at) (losing REFERENCES (layer_rows layer) at) ≡ filter (touches (layer_view layer) op) (layer_rows layer)
  both =
      same_from_find place_cmp sk place_cmp_total _ _ (ascends_puts place_cmp sk place_cmp_total (losing REFERENCES (layer_rows layer) at) (gone REFERENCES (layer_rows layer) at) gone_up)
      (ascends_filter place_cmp sk place_cmp_total (touches (layer_view layer) op) (layer_rows layer) rows_up)
      (λ key. find_puts place_cmp sk place_cmp_total (losing REFERENCES (layer_rows layer) at) (gone REFERENCES (layer_rows layer) at) key losing_up
      ∙ (ap (λ (found : Option Row). later found (keyed.find place_cmp sk (losing REFERENCES (layer_rows layer) at) key)) (find_filter place_cmp sk place_cmp_total (goes REFERENCES (layer_rows layer) at) (layer_rows layer) key rows_up)
      ∙ (ap (later (guard (goes REFERENCES (layer_rows layer) at) (keyed.find place_cmp sk (layer_rows layer) key)))
      (find_filter place_cmp sk place_cmp_total (loses_field REFERENCES (layer_rows layer) at) (kept REFERENCES (layer_rows layer) at) key kept_up
      ∙ ap (guard (loses_field REFERENCES (layer_rows layer) at)) (find_filter place_cmp sk place_cmp_total (λ row. not (goes REFERENCES (layer_rows layer) at row)) (layer_rows layer) key rows_up))
      ∙ (guards (goes REFERENCES (layer_rows layer) at) (loses_field REFERENCES (layer_rows layer) at) (keyed.find place_cmp sk (layer_rows layer) key)
      ∙ sym (find_filter place_cmp sk place_cmp_total (touches (layer_view layer) op) (layer_rows layer) key rows_up)))))
    where
      guards : (p q : Row → Bool) (found : Option Row) → later (guard p found) (guard q (guard (λ row. not (p row)) found)) ≡ guard (λ row. p row || q row) found
      guards p q None = refl
      guards p q (Some row) = by (p row) refl (q row) refl
        where
          by : (b : Bool) → p row ≡ b → (c : Bool) → q row ≡ c → later (guard p (Some row)) (guard q (guard (λ row. not (p row)) (Some row))) ≡ guard (λ row. p row || q row) (Some row)
          by true e c f = rw e refl
          by false e true f = rw (e, f) refl
          by false e false f = rw (e, f) refl

  -- the keys of what is touched
  pub touched_keys : (gone_keys emptied_keys : List Key) → gone_keys ≡ map sk (gone REFERENCES (layer_rows layer) at) → emptied_keys ≡ map sk (losing REFERENCES (layer_rows layer) at)
      → joined_places gone_keys emptied_keys ≡ map sk (filter (touches (layer_view layer) op) (layer_rows layer))
  touched_keys gone_keys emptied_keys e f =
      rw (e, f) (sym (map_puts place_cmp sk place_cmp_total (losing REFERENCES (layer_rows layer) at) (gone REFERENCES (layer_rows layer) at)) ∙ ap (map sk) both)

  -- the row that a key shows
  shown_at : (row : Row) → IsIn row (layer_rows layer) → is_free_or_inside layer.root (layer_rows layer) (sk row) ≡ is_part layer.root row
  shown_at row i = ap (λ (found : Option Row). option_map_or (is_part layer.root) found true) (row_in_found (layer_rows layer) (sk row) row (layer_up layer is) i (stands_itself row))

  -- the first of it that isn't part of what the draft edits
  pub first_outside_is : (gone_keys emptied_keys : List Key) → gone_keys ≡ map sk (gone REFERENCES (layer_rows layer) at) → emptied_keys ≡ map sk (losing REFERENCES (layer_rows layer) at)
      → find (λ key. not (is_free_or_inside layer.root (layer_rows layer) key)) (joined_places gone_keys emptied_keys) ≡ outside layer.root (layer_view layer) op Delete
  first_outside_is gone_keys emptied_keys e f =
      ap (find (λ key. not (is_free_or_inside layer.root (layer_rows layer) key))) (touched_keys gone_keys emptied_keys e f)
      ∙ find_keys sk (λ key. not (is_free_or_inside layer.root (layer_rows layer) key)) (touches (layer_view layer) op) (λ row. not (is_part layer.root row)) (layer_rows layer) (λ row i. ap not (shown_at row i))

  -- by what a delete reaches
  pub gone_is : (reached : Reached) → op.kind ≡ Delete → IsReach (layer_view layer) op reached → reached.gone ≡ map sk (gone REFERENCES (layer_rows layer) at)
  gone_is reached kind is_reach = is_reach.gone ∙ ap (keys_gone (layer_view layer) op) kind

  pub emptied_is : (reached : Reached) → op.kind ≡ Delete → IsReach (layer_view layer) op reached → reached.emptied ≡ map sk (losing REFERENCES (layer_rows layer) at)
  emptied_is reached kind is_reach = is_reach.emptied ∙ ap (keys_emptied (layer_view layer) op) kind
