-- A batch in a draft leaves what the draft shows beside its own rows, and no more rows of an entity than there may be.
use Rattle.std.proofs.Common.{◌≡◌, ℕ, suc, Bool, true, false, not, ◌&&◌, ◌||◌, ◌==◌, inl, inr, List, [], ◌∷◌, filter, find, cond, refl, sym, ap, subst, ◌∙◌, Option, Some, None, Result, Ok, Err, if◌then◌else◌, option_map, IsNone}
use Rattle.std.specs.Option.{option_map_or}
use Rattle.std.specs.Ordering.{match_ordering}
use Rattle.std.specs.declared.cmp.Ordering.{Ordering}
use Rattle.std.specs.declared.cmp.Ordering.TheVariants.{Less, Equal, Greater}
use Rattle.std.proofs.lemmas.Bool.{and_parts, eqb-true, eq-eqb, false≢true, not-true, or_parts}
use Rattle.closure.specs.Closure.{IsIn}
use Rattle.closure.proofs.Members.{none_passes}
use Rattle.keyed.specs.Keyed.{put}
use Rattle.shop_defs.specs.declared.broken.Broken.{Broken}
use Rattle.shop_defs.specs.declared.entity.Entity.{Entity}
use Rattle.shop_defs.specs.declared.key.Key.{Key}
use Rattle.shop_defs.specs.declared.op.Op.{Op}
use Rattle.shop_defs.specs.declared.op.OpKind.{OpKind}
use Rattle.shop_defs.specs.declared.op.OpKind.TheVariants.{Upsert, Delete}
use Rattle.shop_defs.specs.declared.row.Row.{Row}
use Rattle.shop_defs.specs.declared.table.TheConstants.{REFERENCES}
use Rattle.shop_defs.specs.Rows.{row_key}
use Rattle.shop_requests.specs.declared.raw.RawOp.{RawOp}
use Rattle.shop_requests.specs.Operations.{reading}
use Rattle.shop_operations.specs.Deletes.{deleted, emptied, goes, gone, in_use, loses_field, stands_at}
use Rattle.shop_operations.specs.Operations.{by_kind, in_use_by, operated, place, removed, shown_key, upserted}
use Rattle.shop_operations.specs.Upserts.{left, place_cmp, row_in, with_row}
use Rattle.shop_operations.specs.Views.{View, IsInPlaceOrder}
use Rattle.shop_soundness.specs.Batches.{numbered}
use Rattle.shop_soundness.proofs.Accepted.{accepted, same_rows}
use Rattle.shop_soundness.proofs.Few.{AreBounded, delete_bounded, upsert_bounded}
use Rattle.shop_soundness.proofs.InOrder.{delete_in_order, upsert_in_order}
use Rattle.shop_soundness.proofs.Lefts.{left_place, was_there}
use Rattle.shop_soundness.proofs.Lists.{finds, kept_filter, put_has}
use Rattle.shop_soundness.proofs.Places.{at_one_place, place_back, place_cmp_total, place_on, place_stands, same_row}
use Rattle.shop_drafts.specs.Aggregates.{is_part}
use Rattle.shop_drafts.specs.Laws.{Agree}
use Rattle.shop_drafts.specs.Writing.{touches, outside, not_versioned, unless_outside, unless_not_versioned, if_read_in, done_in, batch_in}
use Rattle.shop_drafts.specs.declared.aggregate.Root.{Root}
use Rattle.shop_drafts.proofs.OwnParts.{operated_agrees, untouched_whole}

-- a row put among others leaves those that pass, where neither it nor the one that it replaces passes
put_filter_in : {K X : Type 0} (cmp : K → K → Ordering) (key : X → K) (p : X → Bool) (xs : List X) (y : X) → p y ≡ false → ((x : X) → IsIn x xs → cmp (key x) (key y) ≡ Equal → p x ≡ false) → filter p (put cmp key xs y) ≡ filter p xs
put_filter_in cmp key p [] y h g = rw h refl
put_filter_in {K} {X} cmp key p (x ∷ xs) y h g = by (put_filter_in cmp key p xs y h (λ z i. g z (inr i))) (cmp (key x) (key y)) refl
  where
    by : filter p (put cmp key xs y) ≡ filter p xs → (o : Ordering) → cmp (key x) (key y) ≡ o → filter p (match_ordering o (x ∷ put cmp key xs y) (y ∷ xs) (y ∷ x ∷ xs)) ≡ filter p (x ∷ xs)
    by more Less e = ap (cond (p x) (x ∷ filter p (put cmp key xs y))) more ∙ ap (λ ys. cond (p x) (x ∷ ys) (filter p xs)) more
    by more Equal e = rw (h, g x (inl refl) e) refl
    by more Greater e = rw h refl

-- the row is of another version
abbrev pub is_beside : ℕ → Row → Bool
is_beside version row = not (row.key.version == version)

-- rows that a view has after a batch: those of other versions are as they were, and there aren't too many of an entity
pub record StaysBeside (view : View) (rows : List Row) : Type 0 where
  pub in_order : IsInPlaceOrder rows
  pub same : filter (is_beside view.version) rows ≡ filter (is_beside view.version) view.rows
  pub bounded : AreBounded view.hidden rows

-- ---- one operation

module _ (root : Root) (view : View) (op : Op) (agree : Agree root view.version view.rows) (up : IsInPlaceOrder view.rows) (bounded : AreBounded view.hidden view.rows) where
  edited : (row : Row) → IsIn row view.rows → is_part root row ≡ true → is_beside view.version row ≡ false
  edited row i part = ap not (agree row i ∙ part)

  upsert_beside : (rows : List Row) → outside root view op Upsert ≡ None → upserted view op ≡ Ok rows → Agree root view.version rows → StaysBeside view rows
  upsert_beside rows inside e after =
      let acc = accepted view op rows e in
      subst (StaysBeside view) acc.rows_are (record {
        in_order = upsert_in_order view.rows (left view.rows (place view op) op) up;
        same = put_filter_in place_cmp row_key (is_beside view.version) view.rows (left view.rows (place view op) op) (new_edited acc.rows_are) old_edited;
        bounded = upsert_bounded view.hidden view.rows (left view.rows (place view op) op) bounded acc.unbroken.few;
      })
    where
      both : (b : Bool) → (if b then None else Some (place view op)) ≡ None → b ≡ true
      both true f = refl
      both false f = cc

      parts : (option_map_or (is_part root) (row_in view.rows (place view op)) true ≡ true) × (is_part root (left view.rows (place view op) op) ≡ true)
      parts = and_parts _ _ (both (option_map_or (is_part root) (row_in view.rows (place view op)) true && is_part root (left view.rows (place view op) op)) inside)

      new_edited : with_row view.rows (left view.rows (place view op) op) ≡ rows → is_beside view.version (left view.rows (place view op) op) ≡ false
      new_edited same = ap not (after (left view.rows (place view op) op) (subst (IsIn (left view.rows (place view op) op)) same (put_has place_cmp row_key view.rows (left view.rows (place view op) op))) ∙ parts.1)

      old_edited : (row : Row) → IsIn row view.rows → place_cmp row.key (left view.rows (place view op) op).key ≡ Equal → is_beside view.version row ≡ false
      old_edited row i e =
          let at_place = place_back row.key (place view op) (place_on row.key (left view.rows (place view op) op).key (place view op) (at_one_place row.key (left view.rows (place view op) op).key e) (left_place view.rows (place view op) op)) in
          let found = finds (stands_at (place view op)) view.rows row i (place_stands (place view op) row at_place) in
          let was = was_there view.rows (place view op) found.one found.found in
          let one : found.one ≡ row = same_row view.rows found.one row up was.is_in i (place_on found.one.key (place view op) row.key was.place at_place) in
          let part : is_part root found.one ≡ true = sym (ap (λ (o : Option Row). option_map_or (is_part root) o true) found.found) ∙ parts.0 in
          edited row i (subst (λ (r : Row). is_part root r ≡ true) one part)

  delete_beside : (rows : List Row) → outside root view op Delete ≡ None → deleted REFERENCES view.rows (place view op) ≡ rows → StaysBeside view rows
  delete_beside rows inside e = subst (StaysBeside view) e (record {
    in_order = delete_in_order view.rows (place view op) up;
    same = kept_filter (is_beside view.version) (λ row. not (goes REFERENCES view.rows (place view op) row)) (emptied REFERENCES (gone REFERENCES view.rows (place view op))) view.rows (λ row. refl) stays;
    bounded = delete_bounded view.hidden view.rows (place view op) bounded;
  })
    where
      none : (found : Option Row) → option_map (shown_key view) found ≡ None → IsNone found
      none None f = refl
      none (Some row) f = cc

      nothing : IsNone (find (λ row. touches view op row && not (is_part root row)) view.rows)
      nothing = none (find (λ row. touches view op row && not (is_part root row)) view.rows) inside

      either : (t p : Bool) → p ≡ false → (t && not p) ≡ false → t ≡ false
      either true true f g = let h : true ≡ false = f in h
      either true false f g = g
      either false p f g = refl

      stays : (row : Row) → IsIn row view.rows → is_beside view.version row ≡ true → (not (goes REFERENCES view.rows (place view op) row) ≡ true) × (emptied REFERENCES (gone REFERENCES view.rows (place view op)) row ≡ row)
      stays row i p =
          let other : is_part root row ≡ false = sym (agree row i) ∙ not-true (row.key.version == view.version) p in
          let untouched : (touches view op row && not (is_part root row)) ≡ false = none_passes (λ row. touches view op row && not (is_part root row)) view.rows row nothing i in
          let free = or_parts (goes REFERENCES view.rows (place view op) row) (loses_field REFERENCES view.rows (place view op) row) (either (touches view op row) (is_part root row) other untouched) in
          (ap not free.0, untouched_whole view.rows (place view op) row free.1)

  removed_beside : (rows : List Row) (found : Option Row) → outside root view op Delete ≡ None → removed view op false found ≡ Ok rows → StaysBeside view rows
  removed_beside rows None inside e = cc
  removed_beside rows (Some row) inside e = delete_beside rows inside (same_rows (deleted REFERENCES view.rows (place view op)) rows (in_use_by (in_use REFERENCES view.rows (place view op))) e).1

  operated_beside : (rows : List Row) → outside root view op op.kind ≡ None → operated view op false ≡ Ok rows → Agree root view.version rows → StaysBeside view rows
  unfolding operated
  operated_beside rows inside e after = by op.kind inside e
    where
      by : (kind : OpKind) → outside root view op kind ≡ None → by_kind view op false kind ≡ Ok rows → StaysBeside view rows
      by Upsert inside e = upsert_beside rows inside e after
      by Delete inside e = removed_beside rows (row_in view.rows (place view op)) inside e

-- and what the draft shows of its version is still what it edits
record StepsBeside (root : Root) (view : View) (rows : List Row) : Type 0 where
  agree : Agree root view.version rows
  beside : StaysBeside view rows

done_beside : (root : Root) (view : View) (op : RawOp) (rows : List Row) → Agree root view.version view.rows → IsInPlaceOrder view.rows → AreBounded view.hidden view.rows → done_in root view op ≡ Ok rows → StepsBeside root view rows
done_beside root view op rows agree up bounded e = by (reading op) e
  where
    inside : (read : Op) (key : Option Key) → outside root view read read.kind ≡ key → unless_outside view read key ≡ Ok rows → StepsBeside root view rows
    inside read None f g = let after = operated_agrees root view read agree rows f g in record { agree = after; beside = operated_beside root view read agree up bounded rows f g after }
    inside read (Some key) f g = cc

    versioned : (read : Op) (broken : Option Broken) → unless_not_versioned root view read broken ≡ Ok rows → StepsBeside root view rows
    versioned read None f = inside read (outside root view read read.kind) refl f
    versioned read (Some broken) f = cc

    by : (result : Result Op Broken) → if_read_in root view result ≡ Ok rows → StepsBeside root view rows
    by (Err broken) f = cc
    by (Ok read) f = versioned read (not_versioned read) f

-- ---- a batch

pub batch_beside : (root : Root) (view : View) (number : ℕ) (ops : List RawOp) (rows : List Row) → Agree root view.version view.rows → IsInPlaceOrder view.rows → AreBounded view.hidden view.rows → batch_in root view number ops ≡ Ok rows → StaysBeside view rows
batch_beside root view number [] rows agree up bounded e = let same : view.rows ≡ rows = cc in subst (StaysBeside view) same (record { in_order = up; same = refl; bounded = bounded })
batch_beside root view number (op ∷ rest) rows agree up bounded e =
    by (λ next a u b f. batch_beside root (record view { rows = next }) (suc number) rest rows a u b f) (done_in root view op) refl e
  where
    by : ((next : List Row) → Agree root view.version next → IsInPlaceOrder next → AreBounded view.hidden next → batch_in root (record view { rows = next }) (suc number) rest ≡ Ok rows → StaysBeside (record view { rows = next }) rows)
        → (result : Result (List Row) Broken) → done_in root view op ≡ result → numbered number result (λ next. batch_in root (record view { rows = next }) (suc number) rest) ≡ Ok rows → StaysBeside view rows
    by more (Err broken) f g = cc
    by more (Ok next) f g =
        let step = done_beside root view op next agree up bounded f in
        let left = more next step.agree step.beside.in_order step.beside.bounded g in
        record { in_order = left.in_order; same = left.same ∙ step.beside.same; bounded = left.bounded }
