-- Steps of the search for the rows that a delete touches.
use Rattle.std.proofs.Common.{◌≡◌, ℕ, ◌+◌, ◌<◌, Bool, true, false, ◌&&◌, ◌⊎◌, inl, inr, List, [], ◌∷◌, ◌++◌, length, get_or, take, refl, sym, ap, subst, ◌∙◌, arith}
use Rattle.std.specs.Prelude.{not, filter, map, ◌==◌}
use Rattle.std.specs.List.{list_any}
use Rattle.std.proofs.lemmas.Bool.{and_from, and_parts, false≢true, both_ways, not-true}
use Rattle.std.proofs.lemmas.List.{length_push, take_more}
use Rattle.keyed.specs.Keyed.{put}
use Rattle.keyed.proofs.Changes.{ascends_put}
use Rattle.closure.specs.Closure.{IsIn}
use Rattle.closure.proofs.Laws.{Agree, grown}
use Rattle.closure.proofs.Members.{Found, any_of, any_is, in_map, in_filter}
use Rattle.shop_defs.specs.declared.key.Key.{Key}
use Rattle.shop_defs.specs.declared.row.Row.{Row}
use Rattle.shop_defs.specs.declared.table.Reference.{Reference}
use Rattle.shop_defs.specs.declared.table.OnDelete.{OnDelete}
use Rattle.shop_defs.specs.declared.table.OnDelete.TheVariants as O
use Rattle.shop_defs.specs.Entities.{entity_number}
use Rattle.shop_defs.specs.References.{acts_on_delete, may_go}
use Rattle.shop_operations.specs.References.{falls_at, refers_at, referrers, cascades, named, is_id}
use Rattle.shop_operations.specs.Views.{IsInPlaceOrder}
use Rattle.shop_write.specs.declared.place.Place.{Place}
use Rattle.shop_write.specs.declared.worklist.Search.{Search}
use Rattle.shop_write.specs.Places.{order, itself, row_place, is_at, stands_among}
use Rattle.shop_write.specs.Searching.{falls_to, refers_to, unlisted, IsNoted, Notes, stays, known, fresh, AreOf, AreInOrder, IsSpread}
use Rattle.shop_write.proofs.PlaceLists.{order_total}
use Rattle.shop_write.proofs.Standing.{stands_itself, apart}
use Rattle.shop_write.proofs.Among.{put_old, put_new, put_cases, in_put, push_old, push_new, push_cases}

-- ---- one row is noted

over : (a b : List Place) (row : Row) → a ≡ b → stands_among b row ≡ true → stands_among a row ≡ true
over a b row e h = subst (λ (places : List Place). stands_among places row ≡ true) (sym e) h

under : (a b : List Place) (row : Row) → a ≡ b → stands_among a row ≡ true → stands_among b row ≡ true
under a b row e h = subst (λ (places : List Place). stands_among places row ≡ true) e h

pub in_order_put : (rows : List Row) (places : List Place) (row : Row) → IsIn row rows → AreInOrder rows places → AreInOrder rows (put order itself places (row_place row))
in_order_put rows places row i a = record {
  rise = ascends_put order itself order_total places (row_place row) a.rise;
  of_rows = λ place j. by place (in_put places (row_place row) place j);
}
  where
    by : (place : Place) → (row_place row ≡ place) ⊎ IsIn place places → IsIn place (map row_place rows)
    by place (inl e) = subst (λ (p : Place). IsIn p (map row_place rows)) e (in_map row_place rows row i)
    by place (inr j) = a.of_rows place j

pub in_append : {X : Type 0} (x : X) (xs ys : List X) → IsIn x (xs ++ ys) → IsIn x xs ⊎ IsIn x ys
in_append x [] ys i = inr i
in_append x (y ∷ xs) ys (inl e) = inl (inl e)
in_append {X} x (y ∷ xs) ys (inr i) = by (in_append x xs ys i)
  where
    by : IsIn x xs ⊎ IsIn x ys → IsIn x (y ∷ xs) ⊎ IsIn x ys
    by (inl j) = inl (inr j)
    by (inr j) = inr j

pub in_front : {X : Type 0} (x : X) (xs ys : List X) → IsIn x xs → IsIn x (xs ++ ys)
in_front x [] ys i = absurd i
in_front x (y ∷ xs) ys (inl e) = inl e
in_front x (y ∷ xs) ys (inr i) = inr (in_front x xs ys i)

pub in_back : {X : Type 0} (x : X) (xs : List X) → IsIn x (xs ++ x ∷ [])
in_back x [] = inl refl
in_back x (y ∷ xs) = inr (in_back x xs)

pub of_rows_push : (rows : List Row) (places : List Place) (row : Row) → IsIn row rows → AreOf rows places → AreOf rows (places ++ row_place row ∷ [])
of_rows_push rows places row i a place j = by (in_append place places (row_place row ∷ []) j)
  where
    by : IsIn place places ⊎ ((row_place row ≡ place) ⊎ ⊥) → IsIn place (map row_place rows)
    by (inl k) = a place k
    by (inr (inl e)) = subst (λ (p : Place). IsIn p (map row_place rows)) e (in_map row_place rows row i)
    by (inr (inr k)) = absurd k

-- a new place makes the number of the others less
fewer_unlisted : (rows : List Row) (lost : List Place) (row : Row) → IsIn row rows → stands_among lost row ≡ false → unlisted rows (put order itself lost (row_place row)) < unlisted rows lost
unfolding unlisted
fewer_unlisted rows lost row i new = fewer (grown (λ r. not (stands_among (put order itself lost (row_place row)) r)) (λ r. not (stands_among lost r)) rows weaker)
  where
    weaker : (r : Row) → IsIn r rows → not (stands_among (put order itself lost (row_place row)) r) ≡ true → not (stands_among lost r) ≡ true
    weaker r i h = still (stands_among lost r) refl
      where
        still : (b : Bool) → stands_among lost r ≡ b → not b ≡ true
        still false e = refl
        still true e = absurd (both_ways (stands_among (put order itself lost (row_place row)) r) (not-true _ h) (put_old lost (row_place row) r e))

    fewer : Agree (λ r. not (stands_among (put order itself lost (row_place row)) r)) (λ r. not (stands_among lost r)) rows ⊎ (length (filter (λ r. not (stands_among (put order itself lost (row_place row)) r)) rows) < length (filter (λ r. not (stands_among lost r)) rows)) → length (filter (λ r. not (stands_among (put order itself lost (row_place row)) r)) rows) < length (filter (λ r. not (stands_among lost r)) rows)
    fewer (inl a) = absurd (false≢true (sym (ap not (put_new lost (row_place row) row (stands_itself row))) ∙ (a row i ∙ ap not new)))
    fewer (inr l) = l

pub spread_noted : (table : List Reference) (rows : List Row) (key : Key) (row : Row) (before after : Search) → IsInPlaceOrder rows → IsIn row rows → Notes table row key before after → IsSpread table rows key before after
spread_noted table rows key row before after up i (stays f l n p) = record {
  keeps = λ r h. over after.lost before.lost r l h;
  keeps_near = λ r h. over after.near _ r n (put_old before.near (row_place row) r h);
  keeps_pending = λ r h. over after.pending before.pending r p h;
  falls = λ r j h. inl (under after.lost before.lost r l h);
  falls_pending = λ r j h. inl (under after.pending before.pending r p h);
  queued = λ r h. inl (under after.lost before.lost r l h);
  in_order = λ a. subst (AreInOrder rows) (sym l) a;
  in_order_near = λ a. subst (AreInOrder rows) (sym n) (in_order_put rows before.near row i a);
  of_rows = λ a. subst (AreOf rows) (sym p) a;
  smaller = rw (l, p) (omega arith);
}
spread_noted table rows key row before after up i (known f l n p) = record {
  keeps = λ r h. over after.lost before.lost r l h;
  keeps_near = λ r h. over after.near before.near r n h;
  keeps_pending = λ r h. over after.pending before.pending r p h;
  falls = λ r j h. inl (under after.lost before.lost r l h);
  falls_pending = λ r j h. inl (under after.pending before.pending r p h);
  queued = λ r h. inl (under after.lost before.lost r l h);
  in_order = λ a. subst (AreInOrder rows) (sym l) a;
  in_order_near = λ a. subst (AreInOrder rows) (sym n) a;
  of_rows = λ a. subst (AreOf rows) (sym p) a;
  smaller = rw (l, p) (omega arith);
}
spread_noted table rows key row before after up i (fresh f new l n p) = record {
  keeps = λ r h. over after.lost _ r l (put_old before.lost (row_place row) r h);
  keeps_near = λ r h. over after.near before.near r n h;
  keeps_pending = λ r h. over after.pending _ r p (push_old before.pending (row_place row) r h);
  falls = λ r j h. by r j before.lost (put_cases before.lost (row_place row) r (under after.lost _ r l h));
  falls_pending = λ r j h. by r j before.pending (push_cases before.pending (row_place row) r (under after.pending _ r p h));
  queued = λ r h. wait r (put_cases before.lost (row_place row) r (under after.lost _ r l h));
  in_order = λ a. subst (AreInOrder rows) (sym l) (in_order_put rows before.lost row i a);
  in_order_near = λ a. subst (AreInOrder rows) (sym n) a;
  of_rows = λ a. subst (AreOf rows) (sym p) (of_rows_push rows before.pending row i a);
  smaller = rw (l, p) (omega (arith, fewer_unlisted rows before.lost row i new, length_push before.pending (row_place row)));
}
  where
    by : (r : Row) → IsIn r rows → (places : List Place) → (stands_among places r ≡ true) ⊎ (is_at r (row_place row) ≡ true) → (stands_among places r ≡ true) ⊎ (falls_to table key r ≡ true)
    by r j places (inl h) = inl h
    by r j places (inr h) = inr (subst (λ (x : Row). falls_to table key x ≡ true) (apart rows row r up i j h) f)

    wait : (r : Row) → (stands_among before.lost r ≡ true) ⊎ (is_at r (row_place row) ≡ true) → (stands_among before.lost r ≡ true) ⊎ (stands_among after.pending r ≡ true)
    wait r (inl h) = inl h
    wait r (inr h) = inr (over after.pending _ r p (push_new before.pending (row_place row) r h))

-- the row is noted afterwards
pub noted : (table : List Reference) (key : Key) (row : Row) (before after : Search) → Notes table row key before after → IsNoted table key after row
noted table key row before after (stays f l n p) = inr (f, over after.near _ row n (put_new before.near (row_place row) row (stands_itself row)))
noted table key row before after (known f l n p) = inl (over after.lost before.lost row l f)
noted table key row before after (fresh f new l n p) = inl (over after.lost _ row l (put_new before.lost (row_place row) row (stands_itself row)))

-- ---- all that refers to a row is noted

pub spread_itself : (table : List Reference) (rows : List Row) (key : Key) (search : Search) → IsSpread table rows key search search
spread_itself table rows key search = record {
  keeps = λ row h. h;
  keeps_near = λ row h. h;
  keeps_pending = λ row h. h;
  falls = λ row i h. inl h;
  falls_pending = λ row i h. inl h;
  queued = λ row h. inl h;
  in_order = λ a. a;
  in_order_near = λ a. a;
  of_rows = λ a. a;
  smaller = omega arith;
}

pub spread_on : (table : List Reference) (rows : List Row) (key : Key) (a b c : Search) → IsSpread table rows key a b → IsSpread table rows key b c → IsSpread table rows key a c
spread_on table rows key a b c s t = record {
  keeps = λ row h. t.keeps row (s.keeps row h);
  keeps_near = λ row h. t.keeps_near row (s.keeps_near row h);
  keeps_pending = λ row h. t.keeps_pending row (s.keeps_pending row h);
  falls = λ row i h. first row (s.falls row i) (t.falls row i h);
  falls_pending = λ row i h. first_pending row (s.falls_pending row i) (t.falls_pending row i h);
  queued = λ row h. first_queued row (s.queued row) (t.keeps_pending row) (t.queued row h);
  in_order = λ x. t.in_order (s.in_order x);
  in_order_near = λ x. t.in_order_near (s.in_order_near x);
  of_rows = λ x. t.of_rows (s.of_rows x);
  smaller = omega (arith, s.smaller, t.smaller);
}
  where
    first : (row : Row) → (stands_among b.lost row ≡ true → (stands_among a.lost row ≡ true) ⊎ (falls_to table key row ≡ true)) → (stands_among b.lost row ≡ true) ⊎ (falls_to table key row ≡ true) → (stands_among a.lost row ≡ true) ⊎ (falls_to table key row ≡ true)
    first row f (inl h) = f h
    first row f (inr h) = inr h

    first_pending : (row : Row) → (stands_among b.pending row ≡ true → (stands_among a.pending row ≡ true) ⊎ (falls_to table key row ≡ true)) → (stands_among b.pending row ≡ true) ⊎ (falls_to table key row ≡ true) → (stands_among a.pending row ≡ true) ⊎ (falls_to table key row ≡ true)
    first_pending row f (inl h) = f h
    first_pending row f (inr h) = inr h

    onward : (row : Row) → (stands_among b.pending row ≡ true → stands_among c.pending row ≡ true) → (stands_among a.lost row ≡ true) ⊎ (stands_among b.pending row ≡ true) → (stands_among a.lost row ≡ true) ⊎ (stands_among c.pending row ≡ true)
    onward row g (inl k) = inl k
    onward row g (inr k) = inr (g k)

    first_queued : (row : Row) → (stands_among b.lost row ≡ true → (stands_among a.lost row ≡ true) ⊎ (stands_among b.pending row ≡ true)) → (stands_among b.pending row ≡ true → stands_among c.pending row ≡ true) → (stands_among b.lost row ≡ true) ⊎ (stands_among c.pending row ≡ true) → (stands_among a.lost row ≡ true) ⊎ (stands_among c.pending row ≡ true)
    first_queued row f g (inl h) = onward row g (f h)
    first_queued row f g (inr h) = inr h

-- what is noted stays so
pub noted_on : (table : List Reference) (rows : List Row) (key other : Key) (before after : Search) (row : Row) → IsSpread table rows other before after → IsNoted table key before row → IsNoted table key after row
noted_on table rows key other before after row s (inl h) = inl (s.keeps row h)
noted_on table rows key other before after row s (inr h) = inr (h.0, s.keeps_near row h.1)

-- one more of the keys was looked at
pub visited_more : (rows : List Row) (part : Row → Type 0) (done done' : Row → Type 0) (keys : List Key) (n : ℕ) (at : Key) → n < length keys → get_or keys n at ≡ at → ((row : Row) → done row → done' row) → ((row : Row) → IsIn row rows → IsIn row.key (take n keys) → part row → done row) → ((row : Row) → IsIn row rows → row.key ≡ at → done' row) → (row : Row) → IsIn row rows → IsIn row.key (take (n + 1) keys) → part row → done' row
visited_more rows part done done' keys n at l e keeps before now row i j p = by (in_append row.key (take n keys) (get_or keys n at ∷ []) (subst (IsIn row.key) (take_more keys n at l) j))
  where
    last : (get_or keys n at ≡ row.key) ⊎ ⊥ → done' row
    last (inl f) = now row i (sym f ∙ e)
    last (inr f) = absurd f

    by : IsIn row.key (take n keys) ⊎ ((get_or keys n at ≡ row.key) ⊎ ⊥) → done' row
    by (inl k) = keeps row (before row i k p)
    by (inr k) = last k

cascade_acts : (on_delete : OnDelete) → cascades on_delete ≡ true → may_go on_delete ≡ true
cascade_acts O.Cascade h = refl
cascade_acts O.Restrict h = cc
cascade_acts O.SetNull h = cc
cascade_acts O.NeverDeleted h = cc

-- what goes with a key refers to it
pub falls_refers : (table : List Reference) (row : Row) (number id : ℕ) → falls_at table row number id ≡ true → refers_at table row number id ≡ true
unfolding falls_at refers_at
falls_refers table row number id h = by (any_of (λ r. cascades r.on_delete && ((entity_number r.of == number) && is_id (named r row) id)) table h)
  where
    by : Found (λ r. cascades r.on_delete && ((entity_number r.of == number) && is_id (named r row) id)) table → list_any (λ r. acts_on_delete r && ((entity_number r.of == number) && is_id (named r row) id)) table ≡ true
    by f =
        let parts = and_parts (cascades f.one.on_delete) ((entity_number f.one.of == number) && is_id (named f.one row) id) f.passes in
        any_is (λ r. acts_on_delete r && ((entity_number r.of == number) && is_id (named r row) id)) table f.one f.is_in (and_from (acts_on_delete f.one) _ (cascade_acts f.one.on_delete parts.0) parts.1)

-- what refers to a key is among its referrers
pub is_referrer : (table : List Reference) (rows : List Row) (key : Key) (row : Row) → IsIn row rows → refers_to table key row ≡ true → IsIn row.key (referrers table rows (entity_number key.entity) key.id)
is_referrer table rows key row i h = in_map (λ (r : Row). r.key) (filter (λ r. refers_at table r (entity_number key.entity) key.id) rows) row (in_filter (λ r. refers_at table r (entity_number key.entity) key.id) rows row i h)
