-- The search for the rows that a delete touches, from its beginning to its end.
use Rattle.std.proofs.Common.{◌≡◌, ℕ, true, false, ◌⊎◌, inl, inr, List, [], ◌∷◌, ◌++◌, refl, sym, ap, subst, ◌∙◌, Some, Result, Ok, Err}
use Rattle.std.specs.Prelude.{map, IfOk}
use Rattle.std.proofs.lemmas.Bool.{both_ways}
use Rattle.closure.specs.Closure.{IsIn}
use Rattle.closure.specs.Least.{IsClosed}
use Rattle.closure.proofs.Laws.{reached_closed, reached_start, reached_is, Agree, filter_agree_on}
use Rattle.closure.proofs.Members.{of_map, in_map, Image}
use Rattle.shop_defs.specs.declared.key.Key.{Key}
use Rattle.shop_defs.specs.declared.row.Row.{Row}
use Rattle.shop_defs.specs.declared.table.Reference.{Reference}
use Rattle.shop_defs.specs.Entities.{entity_number}
use Rattle.shop_operations.specs.References.{falls_with}
use Rattle.shop_operations.specs.Deletes.{stands_at, goes}
use Rattle.shop_operations.specs.Upserts.{row_in}
use Rattle.shop_operations.specs.Views.{IsInPlaceOrder}
use Rattle.shop_write.specs.declared.place.Place.{Place}
use Rattle.shop_write.specs.declared.worklist.Search.{Search}
use Rattle.shop_write.specs.declared.worklist.Affected.{Affected}
use Rattle.shop_write.specs.Places.{row_place, key_at, is_at, stands_among}
use Rattle.shop_write.specs.Searching.{falls_to, refers_to, Begins, IsNoted, AreOf, AreInOrder, IsSpread, IsFound, IsTouched}
use Rattle.shop_write.proofs.Standing.{IsStanding, row_found, same_place, stands_itself, stands_too, same_row}
use Rattle.shop_write.proofs.Among.{push_old, push_new, push_cases, one_among, none_stands, places_are}
use Rattle.shop_write.proofs.Spreads.{falls_refers, noted_on, in_front, in_back}

-- what goes with or refers to a key does so to the row that stands there
falls_same : (table : List Reference) (key : Key) (row other : Row) → stands_at key other ≡ true → falls_to table key row ≡ falls_to table other.key row
falls_same table key row other h = let s = same_place key other h in rw (s.entity, s.id) refl

refers_same : (table : List Reference) (key : Key) (row other : Row) → stands_at key other ≡ true → refers_to table key row ≡ refers_to table other.key row
refers_same table key row other h = let s = same_place key other h in rw (s.entity, s.id) refl

-- the search begins
pub found_first : (table : List Reference) (rows : List Row) (start : Key) (row : Row) (search : Search) → IsInPlaceOrder rows → row_in rows start ≡ Some row → Begins row search → IsFound table rows start search
found_first table rows start row search up look b = record {
  has_start = λ r i h. subst (λ (places : List Place). stands_among places r ≡ true) (sym b.lost) (one_among row r ∙ subst (λ (x : Row). stands_at row.key x ≡ true) (same_row rows start row r up look i h) (stands_itself row));
  under = λ r i h. starts r i (sym (one_among row r) ∙ subst (λ (places : List Place). stands_among places r ≡ true) b.lost h);
  under_pending = λ r i h. starts r i (sym (one_among row r) ∙ subst (λ (places : List Place). stands_among places r ≡ true) b.pending h);
  next = λ r other i j h g. inr (subst (λ (places : List Place). stands_among places other ≡ true) (b.lost ∙ sym b.pending) h);
  in_order = subst (AreInOrder rows) (sym b.lost) (record { rise = (tt, tt); of_rows = of_one });
  in_order_near = subst (AreInOrder rows) (sym b.near) (record { rise = tt; of_rows = λ place i. absurd i });
  of_rows = subst (AreOf rows) (sym b.pending) of_one;
}
  where
    found : IsStanding rows start row
    found = row_found rows start row look

    starts : (r : Row) → IsIn r rows → stands_at row.key r ≡ true → goes table rows start r ≡ true
    starts r i h = reached_start (falls_with table) rows (stands_at start) r (stands_too start row r found.stands h)

    of_one : AreOf rows (row_place row ∷ [])
    of_one place (inl e) = subst (λ (p : Place). IsIn p (map row_place rows)) e (in_map row_place rows row found.is_in)
    of_one place (inr i) = absurd i

-- all that refers to the next row was noted
pub found_more : (table : List Reference) (rows : List Row) (start : Key) (version : ℕ) (next : Place) (rest : List Place) (before after : Search) → before.pending ≡ rest ++ next ∷ [] → IsFound table rows start before → IsSpread table rows (key_at version next) (record before { pending = rest }) after → ((row : Row) → IsIn row rows → refers_to table (key_at version next) row ≡ true → IsNoted table (key_at version next) after row) → IsFound table rows start after
found_more table rows start version next rest before after popped f s all = record {
  has_start = λ row i h. s.keeps row (f.has_start row i h);
  under = λ row i h. by row i (f.under row i) (s.falls row i h);
  under_pending = λ row i h. by row i (λ k. f.under_pending row i (waits row k)) (s.falls_pending row i h);
  next = λ row other i j h g. onward row other i j g (s.queued other h);
  in_order = s.in_order f.in_order;
  in_order_near = s.in_order_near f.in_order_near;
  of_rows = s.of_rows (λ place i. f.of_rows place (subst (IsIn place) (sym popped) (in_front place rest (next ∷ []) i)));
}
  where
    waits : (row : Row) → stands_among rest row ≡ true → stands_among before.pending row ≡ true
    waits row h = subst (λ (places : List Place). stands_among places row ≡ true) (sym popped) (push_old rest next row h)

    at : Image row_place rows next
    at = of_map row_place rows next (f.of_rows next (subst (IsIn next) (sym popped) (in_back next rest)))

    at_stands : is_at at.one next ≡ true
    at_stands = subst (λ (p : Place). is_at at.one p ≡ true) at.image (stands_itself at.one)

    at_goes : goes table rows start at.one ≡ true
    at_goes = f.under_pending at.one at.is_in (subst (λ (places : List Place). stands_among places at.one ≡ true) (sym popped) (push_new rest next at.one at_stands))

    falls_too : (row : Row) → IsIn row rows → falls_to table (key_at version next) row ≡ true → goes table rows start row ≡ true
    falls_too row i h = reached_closed (falls_with table) rows (stands_at start) row at.one i at.is_in at_goes (sym (falls_same table (key_at version next) row at.one at_stands) ∙ h)

    by : {P : Type 0} (row : Row) → IsIn row rows → (P → goes table rows start row ≡ true) → P ⊎ (falls_to table (key_at version next) row ≡ true) → goes table rows start row ≡ true
    by row i u (inl h) = u h
    by row i u (inr h) = falls_too row i h

    turned_noted : (row other : Row) → stands_at (key_at version next) other ≡ true → IsNoted table (key_at version next) after row → IsNoted table other.key after row
    turned_noted row other h (inl k) = inl k
    turned_noted row other h (inr k) = inr (sym (falls_same table (key_at version next) row other h) ∙ k.0, k.1)

    last : (row other : Row) → IsIn row rows → IsIn other rows → refers_to table other.key row ≡ true → (stands_among rest other ≡ true) ⊎ (is_at other next ≡ true) → IsNoted table other.key after row ⊎ (stands_among after.pending other ≡ true)
    last row other i j g (inl h) = inr (s.keeps_pending other h)
    last row other i j g (inr h) = inl (turned_noted row other h (all row i (refers_same table (key_at version next) row other h ∙ g)))

    earlier : (row other : Row) → IsIn row rows → IsIn other rows → refers_to table other.key row ≡ true → IsNoted table other.key before row ⊎ (stands_among before.pending other ≡ true) → IsNoted table other.key after row ⊎ (stands_among after.pending other ≡ true)
    earlier row other i j g (inl h) = inl (noted_on table rows other.key (key_at version next) (record before { pending = rest }) after row s h)
    earlier row other i j g (inr h) = last row other i j g (push_cases rest next other (subst (λ (places : List Place). stands_among places other ≡ true) popped h))

    onward : (row other : Row) → IsIn row rows → IsIn other rows → refers_to table other.key row ≡ true → (stands_among before.lost other ≡ true) ⊎ (stands_among after.pending other ≡ true) → IsNoted table other.key after row ⊎ (stands_among after.pending other ≡ true)
    onward row other i j g (inl h) = earlier row other i j g (f.next row other i j h g)
    onward row other i j g (inr h) = inr h

-- where nothing waits, all that goes is found, and all that refers to it
pub found_all : (table : List Reference) (rows : List Row) (start : Key) (search : Search) → IsInPlaceOrder rows → search.pending ≡ [] → IsFound table rows start search → IsTouched table rows start (record { lost = search.lost; near = search.near })
found_all table rows start search up done f = record {
  lost = places_are rows search.lost up f.in_order.rise f.in_order.of_rows ∙ ap (map row_place) (sym (filter_agree_on (goes table rows start) (stands_among search.lost) rows same));
  near = places_are rows search.near up f.in_order_near.rise f.in_order_near.of_rows;
  covers = λ row other i j stays leaves g. settled row other i stays (f.next row other i j (sym (same other j) ∙ leaves) g);
}
  where
    none_waits : (row : Row) → stands_among search.pending row ≡ true → ⊥
    none_waits row h = none_stands row (subst (λ (places : List Place). stands_among places row ≡ true) done h)

    reaches : (row other : Row) → falls_with table row other ≡ true → IsNoted table other.key search row ⊎ (stands_among search.pending other ≡ true) → stands_among search.lost row ≡ true
    reaches row other g (inl (inl h)) = h
    reaches row other g (inl (inr h)) = absurd (both_ways (falls_with table row other) h.0 g)
    reaches row other g (inr h) = absurd (none_waits other h)

    closed : IsClosed (falls_with table) rows (stands_at start) (stands_among search.lost)
    closed = record { has_start = f.has_start; has_next = λ row other i j h g. reaches row other g (f.next row other i j h (falls_refers table row (entity_number other.key.entity) other.key.id g)) }

    same : Agree (goes table rows start) (stands_among search.lost) rows
    same = reached_is (falls_with table) rows (stands_at start) (stands_among search.lost) closed f.under

    settled : (row other : Row) → IsIn row rows → goes table rows start row ≡ false → IsNoted table other.key search row ⊎ (stands_among search.pending other ≡ true) → stands_among search.near row ≡ true
    settled row other i stays (inl (inl h)) = absurd (both_ways (goes table rows start row) stays (same row i ∙ h))
    settled row other i stays (inl (inr h)) = h.1
    settled row other i stays (inr h) = absurd (none_waits other h)

-- what holds of what was found holds of the answer that is it
pub touched_is : {E : Type 0} (table : List Reference) (rows : List Row) (start : Key) (found : Affected) (result : Result Affected E) → IfOk result (λ touched. touched ≡ found) → IsTouched table rows start found → IfOk result (IsTouched table rows start)
touched_is table rows start found (Ok touched) e t = rw e t
touched_is table rows start found (Err fault) e t = tt
