-- An accepted operation, and an accepted batch, keep rows well formed.
use Rattle.std.proofs.Common.{◌≡◌, ◌≢◌, ℕ, suc, Bool, true, false, ◌&&◌, ◌||◌, ◌⊎◌, inl, inr, List, [], ◌∷◌, refl, sym, ap, subst, ◌∙◌, Option, Some, None}
use Rattle.std.specs.Prelude.{not, Result, Ok, Err}
use Rattle.std.specs.List.{list_any, list_all, AllByRecursion}
use Rattle.std.proofs.lemmas.Bool.{both_ways, and_from, and_parts, not-true, false_from_ne_true}
use Rattle.closure.specs.Closure.{IsIn}
use Rattle.closure.proofs.Members.{Found, any_of, all_at}
use Rattle.shop_defs.specs.declared.broken.Broken.{Broken}
use Rattle.shop_defs.specs.declared.entity.Entity.{Entity}
use Rattle.shop_defs.specs.declared.key.Key.{Key}
use Rattle.shop_defs.specs.declared.op.Op.{Op}
use Rattle.shop_defs.specs.declared.op.OpKind.{OpKind}
use Rattle.shop_defs.specs.declared.op.OpKind.TheVariants.{Upsert, Delete}
use Rattle.shop_requests.specs.declared.raw.RawOp.{RawOp}
use Rattle.shop_defs.specs.declared.row.Row.{Row}
use Rattle.shop_defs.specs.declared.table.EntityInfo.{EntityInfo}
use Rattle.shop_defs.specs.declared.table.TheConstants.{REFERENCES}
use Rattle.shop_defs.specs.Fitting.{given_fits, is_writable, parts_fit}
use Rattle.shop_requests.specs.Operations.{reading, reading_as, refusal, read, if_writable, unless_refused}
use Rattle.shop_defs.specs.Rows.{row_key}
use Rattle.shop_defs.specs.Tables.{info_named}
use Rattle.shop_defs.proofs.EachLine.{same_entity}
use Rattle.shop_requests.proofs.ReadFits.{read_fits, read_key_fits, read_is_writable}
use Rattle.shop_soundness.specs.Batches.{if_read, done, numbered, batch}
use Rattle.shop_operations.specs.Deletes.{goes, gone, is_field, is_emptied, emptied, deleted, in_use}
use Rattle.shop_operations.specs.Operations.{place, upserted, in_use_by, removed, by_kind, operated}
use Rattle.shop_operations.specs.References.{sets_null, ties}
use Rattle.shop_operations.specs.Upserts.{place_cmp, row_in, with_row, left, missing_required}
use Rattle.shop_operations.specs.Views.{View}
use Rattle.shop_soundness.specs.WellFormed.{IsWellFormed, AreWellFormed, unwritten, IsReadOp, KeepsRows, OperationsKeepRows, BatchesKeepRows}
use Rattle.shop_soundness.proofs.Accepted.{accepted, same_rows}
use Rattle.shop_soundness.proofs.Emptied.{are_tied, IsLeft, of_deleted}
use Rattle.shop_soundness.proofs.Formed.{left_well_formed, emptied_well_formed}
use Rattle.shop_soundness.proofs.Grounded.{goes_writable}
use Rattle.shop_soundness.proofs.Lefts.{left_key, row_before, left_place}
use Rattle.shop_soundness.proofs.Lists.{filter_all, put_filter, kept_filter, put_of}
use Rattle.shop_soundness.proofs.Places.{at_one_place}
use Rattle.shop_soundness.proofs.Tables.{emptied_are_written}

-- ---- rows that operations may not write

-- they lose no field
unwritten_whole : (lost : List Row) (row : Row) → is_writable row.key.entity ≡ false → emptied REFERENCES lost row ≡ row
unfolding is_emptied
unwritten_whole lost row unwritten = ap (λ fields. record row { fields = fields }) (filter_all (λ entry. not (is_emptied REFERENCES lost row entry.0)) row.fields (λ entry i. ap not (stays entry.0)))
  where
    by : (number : ℕ) → Found (λ reference. sets_null reference.on_delete && is_field reference.part number && list_any (ties reference row) lost) REFERENCES → ⊥
    by number f =
        let parts = and_parts (sets_null f.one.on_delete && is_field f.one.part number) (list_any (ties f.one row) lost) f.passes in
        let sets = (and_parts (sets_null f.one.on_delete) (is_field f.one.part number) parts.0).0 in
        let tied = any_of (ties f.one row) lost parts.1 in
        let entity = (are_tied f.one row tied.one tied.passes).entity in
        let rule : (not (sets_null f.one.on_delete) || is_writable f.one.entity) ≡ true = all_at (λ r. not (sets_null r.on_delete) || is_writable r.entity) REFERENCES f.one emptied_are_written f.is_in in
        let written : is_writable f.one.entity ≡ true = rw sets at rule in
        both_ways (is_writable row.key.entity) unwritten (subst (λ (e : Entity). is_writable e ≡ true) entity written)

    stays : (number : ℕ) → is_emptied REFERENCES lost row number ≡ false
    stays number = false_from_ne_true _ (λ e. by number (any_of (λ reference. sets_null reference.on_delete && is_field reference.part number && list_any (ties reference row) lost) REFERENCES e))

-- a delete of a row that may be written leaves them
delete_others : (rows : List Row) (key : Key) → is_writable key.entity ≡ true → unwritten (deleted REFERENCES rows key) ≡ unwritten rows
delete_others rows key writable = kept_filter (λ row. not (is_writable row.key.entity)) (λ row. not (goes REFERENCES rows key row)) (emptied REFERENCES (gone REFERENCES rows key)) rows (λ row. refl)
    (λ row i not_written.
    let other : is_writable row.key.entity ≡ false = not-true (is_writable row.key.entity) not_written in
    let stays : goes REFERENCES rows key row ≡ false = false_from_ne_true (goes REFERENCES rows key row) (λ e. both_ways (is_writable row.key.entity) other (goes_writable rows key row writable i e)) in
    (ap not stays, unwritten_whole (gone REFERENCES rows key) row other))

-- so does an upsert of one
upsert_others : (rows : List Row) (new : Row) → is_writable new.key.entity ≡ true → unwritten (with_row rows new) ≡ unwritten rows
upsert_others rows new writable = put_filter place_cmp row_key (λ row. not (is_writable row.key.entity)) rows new (ap not writable)
    (λ row e. ap not (subst (λ (entity : Entity). is_writable entity ≡ true) (sym (same_entity row.key.entity new.key.entity (at_one_place row.key new.key e).entity)) writable))

-- ---- one operation

-- the row that is left is of the operation's entity
left_entity : (view : View) (op : Op) → (left view.rows (place view op) op).key.entity ≡ op.entity
left_entity view op = same_entity (left view.rows (place view op) op).key.entity op.entity (left_place view.rows (place view op) op).entity

-- and as its entity has it
left_formed : (view : View) (op : Op) → AreWellFormed view.rows → IsReadOp op → missing_required (left view.rows (place view op) op) ≡ None → IsWellFormed (left view.rows (place view op) op)
left_formed view op formed is checked =
    let parts = and_parts (parts_fit op.entity op.id op.second) (list_all (given_fits op.entity) op.fields) is.fits in
    let same : op.entity ≡ (row_before view.rows (place view op)).key.entity = sym (left_entity view op) ∙ ap (λ (k : Key). k.entity) (left_key view.rows (place view op) op) in
    let given : list_all (given_fits (row_before view.rows (place view op)).key.entity) op.fields ≡ true = subst (λ (entity : Entity). list_all (given_fits entity) op.fields ≡ true) same parts.1 in
    left_well_formed view.rows (place view op) op formed is.writable parts.0 given checked

upsert_keeps : (view : View) (op : Op) (rows : List Row) → AreWellFormed view.rows → IsReadOp op → upserted view op ≡ Ok rows → KeepsRows view.rows rows
upsert_keeps view op rows formed is e =
    let acc = accepted view op rows e in
    let new = left view.rows (place view op) op in
    let writable : is_writable new.key.entity ≡ true = subst (λ (entity : Entity). is_writable entity ≡ true) (sym (left_entity view op)) is.writable in
    subst (KeepsRows view.rows) acc.rows_are (record {
      formed = λ row i written. by (left_formed view op formed is acc.unbroken.required) row (put_of place_cmp row_key view.rows new row i) written;
      others = upsert_others view.rows new writable;
    })
  where
    by : IsWellFormed (left view.rows (place view op) op) → (row : Row) → (left view.rows (place view op) op ≡ row) ⊎ IsIn row view.rows → is_writable row.key.entity ≡ true → IsWellFormed row
    by new row (inl f) written = subst (λ (r : Row). IsWellFormed r) f new
    by new row (inr i) written = formed row i written

delete_keeps : (rows : List Row) (key : Key) → AreWellFormed rows → is_writable key.entity ≡ true → KeepsRows rows (deleted REFERENCES rows key)
delete_keeps rows key formed writable = record {
  formed = λ row i written. by row written (of_deleted REFERENCES rows key row i);
  others = delete_others rows key writable;
}
  where
    by : (row : Row) → is_writable row.key.entity ≡ true → IsLeft REFERENCES rows key row → IsWellFormed row
    by row written was =
        let before : is_writable was.one.key.entity ≡ true = subst (λ (r : Row). is_writable r.key.entity ≡ true) (sym was.image) written in
        subst (λ (r : Row). IsWellFormed r) was.image (emptied_well_formed (gone REFERENCES rows key) was.one (formed was.one was.is_in before))

stays : (rows : List Row) → AreWellFormed rows → KeepsRows rows rows
stays rows formed = record { formed = formed; others = refl }

removed_keeps : (view : View) (op : Op) (replay : Bool) (row : Option Row) (rows : List Row) → AreWellFormed view.rows → IsReadOp op → removed view op replay row ≡ Ok rows → KeepsRows view.rows rows
removed_keeps view op true None rows formed is e = let same : view.rows ≡ rows = cc in subst (KeepsRows view.rows) same (stays view.rows formed)
removed_keeps view op false None rows formed is e = cc
removed_keeps view op replay (Some row) rows formed is e =
    let same = same_rows (deleted REFERENCES view.rows (place view op)) rows (in_use_by (in_use REFERENCES view.rows (place view op))) e in
    subst (KeepsRows view.rows) same.1 (delete_keeps view.rows (place view op) formed is.writable)

pub operations_keep_rows : OperationsKeepRows
unfolding operated
operations_keep_rows view op replay rows formed is e = by op.kind e
  where
    by : (kind : OpKind) → by_kind view op replay kind ≡ Ok rows → KeepsRows view.rows rows
    by Upsert e = upsert_keeps view op rows formed is e
    by Delete e = removed_keeps view op replay (row_in view.rows (place view op)) rows formed is e

-- ---- a batch

reading_is_read : (op : RawOp) (done : Op) → op.id ≢ 0 → reading op ≡ Ok done → IsReadOp done
unfolding reading read
reading_is_read op done there e = by_line (if_writable (info_named op.entity)) refl e
  where
    by_rule : (info : EntityInfo) → if_writable (info_named op.entity) ≡ Some info → (rule : Option Broken) → refusal info op ≡ rule → unless_refused rule (read info op) ≡ Ok done → IsReadOp done
    by_rule info named (Some broken) none f = cc
    by_rule info named None none f =
        let is : IsReadOp (read info op) = record { fits = and_from _ _ (read_key_fits op.entity info op named none there) (read_fits info op none); writable = read_is_writable op.entity info named } in
        let same : read info op ≡ done = cc in
        subst (λ (o : Op). IsReadOp o) same is

    by_line : (line : Option EntityInfo) → if_writable (info_named op.entity) ≡ line → reading_as line op ≡ Ok done → IsReadOp done
    by_line None named f = cc
    by_line (Some info) named f = by_rule info named (refusal info op) refl f

done_keeps : (view : View) (op : RawOp) (rows : List Row) → AreWellFormed view.rows → op.id ≢ 0 → done view op ≡ Ok rows → KeepsRows view.rows rows
done_keeps view op rows formed there e = by (reading op) refl e
  where
    by : (read : Result Op Broken) → reading op ≡ read → if_read view read ≡ Ok rows → KeepsRows view.rows rows
    by (Err broken) f g = cc
    by (Ok read) f g = operations_keep_rows view read false rows formed (reading_is_read op read there f) g

onward : (one two three : List Row) → KeepsRows one two → KeepsRows two three → KeepsRows one three
onward one two three k l = record { formed = l.formed; others = l.others ∙ k.others }

batch_keeps : (ops : List RawOp) (view : View) (number : ℕ) (rows : List Row) → AreWellFormed view.rows → AllByRecursion (λ op. op.id ≢ 0) ops → batch view number ops ≡ Ok rows → KeepsRows view.rows rows
batch_keeps [] view number rows formed there e = let same : view.rows ≡ rows = cc in subst (KeepsRows view.rows) same (stays view.rows formed)
batch_keeps (op ∷ rest) view number rows formed there e = by (λ r f. batch_keeps rest (record view { rows = r }) (suc number) rows f there.1) (done view op) refl e
  where
    by : ((r : List Row) → AreWellFormed r → batch (record view { rows = r }) (suc number) rest ≡ Ok rows → KeepsRows r rows) → (result : Result (List Row) Broken) → done view op ≡ result → numbered number result (λ r. batch (record view { rows = r }) (suc number) rest) ≡ Ok rows → KeepsRows view.rows rows
    by more (Err broken) f g = cc
    by more (Ok r) f g = let one = done_keeps view op r formed there.0 f in onward view.rows r rows one (more r one.formed g)

pub batches_keep_rows : BatchesKeepRows
batches_keep_rows view number ops rows formed there e = batch_keeps ops view number rows formed there e
