-- What a search that has ended says of what a delete takes out and empties.
use Rattle.std.proofs.Common.{◌≡◌, ℕ, Bool, true, false, ◌&&◌, inl, inr, List, [], ◌∷◌, None, refl, sym, ap, ◌∙◌}
use Rattle.std.specs.Prelude.{not, cond, filter, map}
use Rattle.std.specs.List.{list_any}
use Rattle.std.proofs.lemmas.Bool.{and_right, false≢true, false_from_ne_true}
use Rattle.closure.specs.Closure.{IsIn}
use Rattle.closure.specs.Least.{IsClosed}
use Rattle.closure.proofs.Laws.{reached_least, filter_agree_on}
use Rattle.closure.proofs.Members.{of_filter}
use Rattle.shop_defs.specs.declared.key.Key.{Key}
use Rattle.shop_defs.specs.declared.op.Op.{Op}
use Rattle.shop_defs.specs.declared.op.OpKind.TheVariants.{Delete}
use Rattle.shop_defs.specs.declared.row.Row.{Row}
use Rattle.shop_defs.specs.declared.table.Reference.{Reference}
use Rattle.shop_defs.specs.declared.table.TheConstants.{REFERENCES}
use Rattle.shop_operations.specs.References.{falls_with, sets_null}
use Rattle.shop_operations.specs.Deletes.{stands_at, goes, gone, kept, is_field, is_emptied, loses_field, losing}
use Rattle.shop_operations.specs.Operations.{place, row_left, shown_key, keys_gone, keys_emptied}
use Rattle.shop_operations.specs.Upserts.{row_in}
use Rattle.shop_operations.specs.Views.{View, IsInPlaceOrder}
use Rattle.shop_write.specs.declared.effects.Reached.{Reached}
use Rattle.shop_write.specs.declared.place.Place.{Place}
use Rattle.shop_write.specs.declared.worklist.Affected.{Affected}
use Rattle.shop_write.specs.Places.{row_place, key_at, stands_among}
use Rattle.shop_write.specs.Searching.{IsTouched}
use Rattle.shop_write.specs.Deleting.{loses, is_losing, is_losing_at}
use Rattle.shop_write.specs.Reaching.{IsReach, IsRemoval}
use Rattle.shop_write.proofs.Standing.{row_in_found, row_missing, stands_itself}
use Rattle.shop_write.proofs.Touching.{losing_near}

map_map : {X Y Z : Type 0} (f : Y → Z) (g : X → Y) (xs : List X) → map f (map g xs) ≡ map (λ x. f (g x)) xs
map_map f g [] = refl
map_map f g (x ∷ xs) = ap (λ ys. f (g x) ∷ ys) (map_map f g xs)

filter_of_map : {X Y : Type 0} (p : Y → Bool) (g : X → Y) (xs : List X) → filter p (map g xs) ≡ map g (filter (λ x. p (g x)) xs)
filter_of_map p g [] = refl
filter_of_map {X} {Y} p g (x ∷ xs) = by (filter_of_map p g xs) (p (g x))
  where
    by : filter p (map g xs) ≡ map g (filter (λ y. p (g y)) xs) → (b : Bool) → cond b (g x ∷ filter p (map g xs)) (filter p (map g xs)) ≡ map g (cond b (x ∷ filter (λ y. p (g y)) xs) (filter (λ y. p (g y)) xs))
    by more true = ap (λ ys. g x ∷ ys) more
    by more false = more

-- the keys at the places of the rows that go
pub keys_gone_is : (table : List Reference) (view : View) (key : Key) (search : Affected) → IsTouched table view.rows key search → map (key_at view.version) search.lost ≡ map (shown_key view) (gone table view.rows key)
keys_gone_is table view key search t = ap (map (key_at view.version)) t.lost ∙ map_map (key_at view.version) row_place (gone table view.rows key)

-- the keys at the near places of rows that stay and lose a field
pub keys_emptied_is : (table : List Reference) (view : View) (key : Key) (search : Affected) → IsInPlaceOrder view.rows → IsTouched table view.rows key search → map (key_at view.version) (filter (is_losing_at table view.rows view.version search.lost) search.near) ≡ map (shown_key view) (losing table view.rows key)
keys_emptied_is table view key search up t =
    ap (λ (places : List Place). map (key_at view.version) (filter (is_losing_at table view.rows view.version search.lost) places)) t.near
    ∙ (ap (map (key_at view.version)) (filter_of_map (is_losing_at table view.rows view.version search.lost) row_place (filter (stands_among search.near) view.rows))
    ∙ (map_map (key_at view.version) row_place _
    ∙ ap (map (shown_key view)) (filter_agree_on (λ row. is_losing_at table view.rows view.version search.lost (row_place row)) (λ row. not (stands_among search.lost row) && loses table search.lost row) (filter (stands_among search.near) view.rows) (λ row i. looked row (of_filter (stands_among search.near) view.rows row i).is_in)
    ∙ losing_near table view.rows key search up t)))
  where
    looked : (row : Row) → IsIn row view.rows → is_losing_at table view.rows view.version search.lost (row_place row) ≡ (not (stands_among search.lost row) && loses table search.lost row)
    looked row i = ap (is_losing table search.lost) (row_in_found view.rows (key_at view.version (row_place row)) row up i (stands_itself row))

-- ---- a delete at a place where no row stands

filter_nothing : {X : Type 0} (p : X → Bool) (xs : List X) → ((x : X) → IsIn x xs → p x ≡ false) → filter p xs ≡ []
filter_nothing p [] h = refl
filter_nothing p (x ∷ xs) h = rw (h x (inl refl)) (filter_nothing p xs (λ y i. h y (inr i)))

any_nothing : {X : Type 0} (p : X → Bool) (xs : List X) → ((x : X) → IsIn x xs → p x ≡ false) → list_any p xs ≡ false
any_nothing p [] h = refl
any_nothing p (x ∷ xs) h = rw (h x (inl refl)) (any_nothing p xs (λ y i. h y (inr i)))

pub gone_nothing : (table : List Reference) (rows : List Row) (key : Key) → row_in rows key ≡ None → gone table rows key ≡ []
gone_nothing table rows key none = filter_nothing (goes table rows key) rows (λ row i. false_from_ne_true (goes table rows key row) (λ h. false≢true (reached_least (falls_with table) rows (stands_at key) (λ row. false) closed row i h)))
  where
    closed : IsClosed (falls_with table) rows (stands_at key) (λ row. false)
    closed = record { has_start = λ row i h. absurd (row_missing rows key row none i h); has_next = λ row other i j h f. absurd (false≢true h) }

emptied_nothing : (table : List Reference) (row : Row) (number : ℕ) → is_emptied table [] row number ≡ false
unfolding is_emptied
emptied_nothing table row number = any_nothing (λ reference. sets_null reference.on_delete && is_field reference.part number && false) table (λ reference i. and_right (sets_null reference.on_delete && is_field reference.part number) false refl)

pub losing_nothing : (table : List Reference) (rows : List Row) (key : Key) → row_in rows key ≡ None → losing table rows key ≡ []
losing_nothing table rows key none = filter_nothing (loses_field table rows key) (kept table rows key) (λ row i. any_nothing (λ entry. is_emptied table (gone table rows key) row entry.0) row.fields (λ entry j. ap (λ (lost : List Row). is_emptied table lost row entry.0) (gone_nothing table rows key none) ∙ emptied_nothing table row entry.0))

-- ---- the reach of a delete

pub reach_removal : (view : View) (op : Op) (key : Key) (reach : Reached) → op.kind ≡ Delete → key ≡ place view op → IsRemoval REFERENCES view key reach → IsReach view op reach
reach_removal view op key reach kind at r = record {
  left = r.left ∙ sym (ap (row_left view op) kind);
  gone = r.gone ∙ (ap (λ (k : Key). map (shown_key view) (gone REFERENCES view.rows k)) at ∙ sym (ap (keys_gone view op) kind));
  emptied = r.emptied ∙ (ap (λ (k : Key). map (shown_key view) (losing REFERENCES view.rows k)) at ∙ sym (ap (keys_emptied view op) kind));
}

pub removes_nothing : (view : View) (key : Key) (reach : Reached) → row_in view.rows key ≡ None → reach.left ≡ None → reach.gone ≡ [] → reach.emptied ≡ [] → IsRemoval REFERENCES view key reach
removes_nothing view key reach none l g e = record {
  left = l;
  gone = g ∙ sym (ap (map (shown_key view)) (gone_nothing REFERENCES view.rows key none));
  emptied = e ∙ sym (ap (map (shown_key view)) (losing_nothing REFERENCES view.rows key none));
}
