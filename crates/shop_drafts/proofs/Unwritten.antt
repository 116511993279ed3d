-- An operation leaves the rows that operations may not write.
use Rattle.std.proofs.Common.{◌≡◌, ℕ, Bool, true, false, not, ◌&&◌, ◌||◌, List, [], ◌∷◌, refl, sym, ap, subst, ◌∙◌, Option, Some, None, Result, Ok, Err}
use Rattle.std.specs.List.{list_any, list_all}
use Rattle.std.proofs.lemmas.Bool.{both_ways, and_parts, not-true, false_from_ne_true}
use Rattle.closure.specs.Closure.{IsIn}
use Rattle.closure.proofs.Members.{Found, any_of, all_at}
use Rattle.shop_defs.specs.declared.broken.Broken.{Broken}
use Rattle.shop_defs.specs.declared.entity.Entity.{Entity}
use Rattle.shop_defs.specs.declared.key.Key.{Key}
use Rattle.shop_defs.specs.declared.op.Op.{Op}
use Rattle.shop_defs.specs.declared.op.OpKind.{OpKind}
use Rattle.shop_defs.specs.declared.op.OpKind.TheVariants.{Upsert, Delete}
use Rattle.shop_defs.specs.declared.row.Row.{Row}
use Rattle.shop_defs.specs.declared.table.TheConstants.{REFERENCES}
use Rattle.shop_defs.specs.Fitting.{is_writable}
use Rattle.shop_defs.specs.Rows.{row_key}
use Rattle.shop_defs.proofs.EachLine.{same_entity}
use Rattle.shop_operations.specs.Deletes.{goes, gone, is_field, is_emptied, emptied, deleted, in_use}
use Rattle.shop_operations.specs.Operations.{place, upserted, in_use_by, removed, by_kind, operated}
use Rattle.shop_operations.specs.References.{sets_null, ties}
use Rattle.shop_operations.specs.Upserts.{place_cmp, row_in, with_row, left}
use Rattle.shop_operations.specs.Views.{View}
use Rattle.shop_soundness.specs.WellFormed.{AreWellFormed, KeepsRows, unwritten}
use Rattle.shop_soundness.proofs.Accepted.{accepted, same_rows}
use Rattle.shop_soundness.proofs.Emptied.{are_tied}
use Rattle.shop_soundness.proofs.Grounded.{goes_writable}
use Rattle.shop_soundness.proofs.Lefts.{left_place}
use Rattle.shop_soundness.proofs.Lists.{filter_all, put_filter, kept_filter}
use Rattle.shop_soundness.proofs.Places.{at_one_place}
use Rattle.shop_soundness.proofs.Tables.{emptied_are_written}
use Rattle.shop_drafts.specs.Merging.{Logged, replayed, named_by}
use Rattle.shop_drafts.specs.Soundness.{is_change}
use Rattle.shop_drafts.proofs.HeldOps.{change_written, change_fits, fit_for}
use Rattle.shop_soundness.proofs.Kept.{operations_keep_rows}
use Rattle.shop_soundness.proofs.Sound.{operations_keep_coherence}
use Rattle.shop_drafts.specs.Laws.{ReplaysKeepRows, AreHeld}
use Rattle.shop_operations.specs.Soundness.{IsCoherent}

-- they lose no field
unwritten_whole : (lost : List Row) (row : Row) → is_writable row.key.entity ≡ false → emptied REFERENCES lost row ≡ row
unfolding is_emptied
unwritten_whole lost row unwritten = ap (λ fields. record row { fields = fields }) (filter_all (λ entry. not (is_emptied REFERENCES lost row entry.0)) row.fields (λ entry i. ap not (stays entry.0)))
  where
    by : (number : ℕ) → Found (λ reference. sets_null reference.on_delete && is_field reference.part number && list_any (ties reference row) lost) REFERENCES → ⊥
    by number f =
        let parts = and_parts (sets_null f.one.on_delete && is_field f.one.part number) (list_any (ties f.one row) lost) f.passes in
        let sets = (and_parts (sets_null f.one.on_delete) (is_field f.one.part number) parts.0).0 in
        let tied = any_of (ties f.one row) lost parts.1 in
        let entity = (are_tied f.one row tied.one tied.passes).entity in
        let rule : (not (sets_null f.one.on_delete) || is_writable f.one.entity) ≡ true = all_at (λ r. not (sets_null r.on_delete) || is_writable r.entity) REFERENCES f.one emptied_are_written f.is_in in
        let written : is_writable f.one.entity ≡ true = rw sets at rule in
        both_ways (is_writable row.key.entity) unwritten (subst (λ (e : Entity). is_writable e ≡ true) entity written)

    stays : (number : ℕ) → is_emptied REFERENCES lost row number ≡ false
    stays number = false_from_ne_true _ (λ e. by number (any_of (λ reference. sets_null reference.on_delete && is_field reference.part number && list_any (ties reference row) lost) REFERENCES e))

-- a delete of a row that may be written leaves them
delete_others : (rows : List Row) (key : Key) → is_writable key.entity ≡ true → unwritten (deleted REFERENCES rows key) ≡ unwritten rows
delete_others rows key writable = kept_filter (λ row. not (is_writable row.key.entity)) (λ row. not (goes REFERENCES rows key row)) (emptied REFERENCES (gone REFERENCES rows key)) rows (λ row. refl)
    (λ row i not_written.
    let other : is_writable row.key.entity ≡ false = not-true (is_writable row.key.entity) not_written in
    let stays : goes REFERENCES rows key row ≡ false = false_from_ne_true (goes REFERENCES rows key row) (λ e. both_ways (is_writable row.key.entity) other (goes_writable rows key row writable i e)) in
    (ap not stays, unwritten_whole (gone REFERENCES rows key) row other))

-- so does an upsert of one
upsert_others : (rows : List Row) (new : Row) → is_writable new.key.entity ≡ true → unwritten (with_row rows new) ≡ unwritten rows
upsert_others rows new writable = put_filter place_cmp row_key (λ row. not (is_writable row.key.entity)) rows new (ap not writable)
    (λ row e. ap not (subst (λ (entity : Entity). is_writable entity ≡ true) (sym (same_entity row.key.entity new.key.entity (at_one_place row.key new.key e).entity)) writable))

-- the row that is left is of the operation's entity
left_entity : (view : View) (op : Op) → (left view.rows (place view op) op).key.entity ≡ op.entity
left_entity view op = same_entity (left view.rows (place view op) op).key.entity op.entity (left_place view.rows (place view op) op).entity

upsert_leaves : (view : View) (op : Op) (rows : List Row) → is_writable op.entity ≡ true → upserted view op ≡ Ok rows → unwritten rows ≡ unwritten view.rows
upsert_leaves view op rows writable e =
    let acc = accepted view op rows e in
    let new = left view.rows (place view op) op in
    let written : is_writable new.key.entity ≡ true = subst (λ (entity : Entity). is_writable entity ≡ true) (sym (left_entity view op)) writable in
    subst (λ (after : List Row). unwritten after ≡ unwritten view.rows) acc.rows_are (upsert_others view.rows new written)

removed_leaves : (view : View) (op : Op) (replay : Bool) (row : Option Row) (rows : List Row) → is_writable op.entity ≡ true → removed view op replay row ≡ Ok rows → unwritten rows ≡ unwritten view.rows
removed_leaves view op true None rows writable e = let same : view.rows ≡ rows = cc in ap unwritten (sym same)
removed_leaves view op false None rows writable e = cc
removed_leaves view op replay (Some row) rows writable e =
    let same = same_rows (deleted REFERENCES view.rows (place view op)) rows (in_use_by (in_use REFERENCES view.rows (place view op))) e in
    subst (λ (after : List Row). unwritten after ≡ unwritten view.rows) same.1 (delete_others view.rows (place view op) writable)

operation_leaves : (view : View) (op : Op) (replay : Bool) (rows : List Row) → is_writable op.entity ≡ true → operated view op replay ≡ Ok rows → unwritten rows ≡ unwritten view.rows
unfolding operated
operation_leaves view op replay rows writable e = by op.kind e
  where
    by : (kind : OpKind) → by_kind view op replay kind ≡ Ok rows → unwritten rows ≡ unwritten view.rows
    by Upsert e = upsert_leaves view op rows writable e
    by Delete e = removed_leaves view op replay (row_in view.rows (place view op)) rows writable e

-- ---- so does a replay of what commits may hold

pub replay_leaves : (view : View) (entries : List Logged) (now : List Row) → AreHeld entries → replayed view entries ≡ Ok now → unwritten now ≡ unwritten view.rows
replay_leaves view [] now all e = let same : view.rows ≡ now = cc in ap unwritten (sym same)
replay_leaves view (entry ∷ rest) now all e = by (λ rows. replay_leaves (record view { rows = rows }) rest now (and_parts (is_change entry.op) (list_all (λ (entry : Logged). is_change entry.op) rest) all).1) (operated view entry.op true) refl e
  where
    by : ((rows : List Row) → replayed (record view { rows = rows }) rest ≡ Ok now → unwritten now ≡ unwritten rows) → (result : Result (List Row) Broken) → operated view entry.op true ≡ result
        → named_by entry result (λ rows. replayed (record view { rows = rows }) rest) ≡ Ok now → unwritten now ≡ unwritten view.rows
    by more (Err broken) f g = cc
    by more (Ok rows) f g = more rows g ∙ operation_leaves view entry.op true rows (change_written entry.op (and_parts (is_change entry.op) (list_all (λ (entry : Logged). is_change entry.op) rest) all).0) f

-- it keeps rows coherent
pub replay_coherent : (view : View) (entries : List Logged) (now : List Row) → IsCoherent view → AreHeld entries → replayed view entries ≡ Ok now → IsCoherent (record view { rows = now })
replay_coherent view [] now coherent all e = let same : view.rows ≡ now = cc in subst (λ rows. IsCoherent (record view { rows = rows })) same coherent
replay_coherent view (entry ∷ rest) now coherent all e = by (λ rows c. replay_coherent (record view { rows = rows }) rest now c (and_parts (is_change entry.op) (list_all (λ (entry : Logged). is_change entry.op) rest) all).1) (operated view entry.op true) refl e
  where
    by : ((rows : List Row) → IsCoherent (record view { rows = rows }) → replayed (record view { rows = rows }) rest ≡ Ok now → IsCoherent (record view { rows = now })) → (result : Result (List Row) Broken) → operated view entry.op true ≡ result
        → named_by entry result (λ rows. replayed (record view { rows = rows }) rest) ≡ Ok now → IsCoherent (record view { rows = now })
    by more (Err broken) f g = cc
    by more (Ok rows) f g = more rows (operations_keep_coherence view entry.op true rows coherent (fit_for entry.op (and_parts (is_change entry.op) (list_all (λ (entry : Logged). is_change entry.op) rest) all).0) f) g

-- and well formed
pub replay_formed : (view : View) (entries : List Logged) (now : List Row) → AreWellFormed view.rows → AreHeld entries → replayed view entries ≡ Ok now → AreWellFormed now
replay_formed view [] now formed all e = let same : view.rows ≡ now = cc in subst AreWellFormed same formed
replay_formed view (entry ∷ rest) now formed all e = by (λ rows c. replay_formed (record view { rows = rows }) rest now c (and_parts (is_change entry.op) (list_all (λ (entry : Logged). is_change entry.op) rest) all).1) (operated view entry.op true) refl e
  where
    held : is_change entry.op ≡ true
    held = (and_parts (is_change entry.op) (list_all (λ (entry : Logged). is_change entry.op) rest) all).0

    by : ((rows : List Row) → AreWellFormed rows → replayed (record view { rows = rows }) rest ≡ Ok now → AreWellFormed now) → (result : Result (List Row) Broken) → operated view entry.op true ≡ result
        → named_by entry result (λ rows. replayed (record view { rows = rows }) rest) ≡ Ok now → AreWellFormed now
    by more (Err broken) f g = cc
    by more (Ok rows) f g = more rows (operations_keep_rows view entry.op true rows formed (record { fits = change_fits entry.op held; writable = change_written entry.op held }) f).formed g

pub replays_keep_rows : ReplaysKeepRows
replays_keep_rows = record { coherent = replay_coherent; formed = replay_formed; others = replay_leaves }
