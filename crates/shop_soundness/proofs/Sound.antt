-- An accepted operation, and an accepted batch, keep the rows of a view coherent.
use Rattle.std.proofs.Common.{◌≡◌, ◌≢◌, ℕ, suc, Bool, true, false, List, [], ◌∷◌, refl, subst, Option, Some, None, arith}
use Rattle.std.specs.Prelude.{Result, Ok, Err, is_some}
use Rattle.std.specs.List.{AllByRecursion}
use Rattle.shop_defs.specs.declared.broken.Broken.{Broken}
use Rattle.shop_defs.specs.declared.key.Key.{Key}
use Rattle.shop_defs.specs.declared.op.Op.{Op}
use Rattle.shop_defs.specs.declared.op.OpKind.{OpKind}
use Rattle.shop_defs.specs.declared.op.OpKind.TheVariants.{Upsert, Delete}
use Rattle.shop_requests.specs.declared.raw.RawOp.{RawOp}
use Rattle.shop_defs.specs.declared.row.Row.{Row}
use Rattle.shop_defs.specs.declared.table.EntityInfo.{EntityInfo}
use Rattle.shop_defs.specs.declared.table.TheConstants.{REFERENCES}
use Rattle.shop_defs.specs.Fitting.{is_writable, parts_fit}
use Rattle.shop_requests.specs.Operations.{reading, reading_as, refusal, read, if_writable, unless_refused}
use Rattle.shop_defs.specs.Tables.{info_named}
use Rattle.shop_requests.proofs.ReadFits.{read_key_fits, read_is_writable}
use Rattle.shop_soundness.specs.Batches.{if_read, done, numbered, batch}
use Rattle.shop_operations.specs.Deletes.{in_use, deleted}
use Rattle.shop_operations.specs.Operations.{place, upserted, in_use_by, removed, by_kind, operated}
use Rattle.shop_operations.specs.References.{are_grounded}
use Rattle.shop_operations.specs.Soundness.{IsCoherent}
use Rattle.shop_operations.specs.Upserts.{row_in, with_row, left}
use Rattle.shop_operations.specs.Views.{View}
use Rattle.shop_soundness.specs.Coherence.{NoRowsAreCoherent, IsFitFor, OperationsKeepCoherence, BatchesKeepCoherence}
use Rattle.shop_soundness.proofs.Accepted.{IsUnbroken, accepted, same_rows}
use Rattle.shop_soundness.proofs.Few.{upsert_bounded, delete_bounded, upsert_few, delete_few}
use Rattle.shop_soundness.proofs.Grounded.{upsert_grounded, delete_grounded}
use Rattle.shop_soundness.proofs.InOrder.{upsert_in_order, delete_in_order, left_fits, upsert_formed, delete_formed}
use Rattle.shop_soundness.proofs.Lefts.{left_place}
use Rattle.shop_soundness.proofs.OneTree.{upsert_of_one_tree, delete_of_one_tree}
use Rattle.shop_soundness.proofs.Shallow.{upsert_shallow, delete_shallow}
use Rattle.shop_soundness.proofs.Single.{upsert_single, delete_single}

-- ---- no rows

pub no_rows_are_coherent : NoRowsAreCoherent
unfolding are_grounded
no_rows_are_coherent = record {
  in_order = tt;
  formed = refl;
  grounded = refl;
  of_one_tree = refl;
  single = refl;
  shallow = refl;
  bounded = λ entity. omega arith;
  few = refl;
}

-- ---- one operation

upsert_sound : (view : View) (op : Op) → IsCoherent view → parts_fit op.entity op.id op.second ≡ true → IsUnbroken view op (left view.rows (place view op) op)
    → IsCoherent (record view { rows = with_row view.rows (left view.rows (place view op) op) })
upsert_sound view op sound fit kept =
    let rows = view.rows in
    let key = place view op in
    let new = left view.rows (place view op) op in
    let fits = left_fits rows key op sound.formed fit in
    let at = left_place rows key op in
    record {
      in_order = upsert_in_order rows new sound.in_order;
      formed = upsert_formed rows new sound.formed fits;
      grounded = upsert_grounded rows key op sound.grounded kept.referring;
      of_one_tree = upsert_of_one_tree rows key op sound.in_order sound.formed sound.grounded sound.of_one_tree fits at kept.fixed kept.referring;
      single = upsert_single rows new sound.single kept.single;
      shallow = upsert_shallow rows key op sound.in_order sound.formed sound.grounded sound.shallow fits at refl kept.shallow;
      bounded = upsert_bounded view.hidden rows new sound.bounded kept.few;
      few = upsert_few view.hidden rows new sound.few kept.few;
    }

upserted_sound : (view : View) (op : Op) (rows : List Row) → IsCoherent view → parts_fit op.entity op.id op.second ≡ true → upserted view op ≡ Ok rows → IsCoherent (record view { rows = rows })
upserted_sound view op rows sound fit e =
    let is = accepted view op rows e in
    subst (λ (r : List Row). IsCoherent (record view { rows = r })) is.rows_are (upsert_sound view op sound fit is.unbroken)

nobody : (row : Option Row) → in_use_by row ≡ None → is_some row ≡ false
nobody None e = refl
nobody (Some row) e = cc

delete_sound : (view : View) (key : Key) → IsCoherent view → is_writable key.entity ≡ true → in_use_by (in_use REFERENCES view.rows key) ≡ None → IsCoherent (record view { rows = deleted REFERENCES view.rows key })
delete_sound view key sound writable free =
    let rows = view.rows in
    record {
      in_order = delete_in_order rows key sound.in_order;
      formed = delete_formed rows key sound.formed;
      grounded = delete_grounded rows key sound.grounded writable (nobody (in_use REFERENCES rows key) free);
      of_one_tree = delete_of_one_tree rows key sound.of_one_tree;
      single = delete_single rows key sound.single;
      shallow = delete_shallow rows key sound.in_order sound.formed sound.grounded sound.shallow;
      bounded = delete_bounded view.hidden rows key sound.bounded;
      few = delete_few rows key sound.few;
    }

removed_sound : (view : View) (op : Op) (replay : Bool) (row : Option Row) (rows : List Row) → IsCoherent view → is_writable op.entity ≡ true → removed view op replay row ≡ Ok rows → IsCoherent (record view { rows = rows })
removed_sound view op true None rows sound writable e =
    let same : view.rows ≡ rows = cc in
    subst (λ (r : List Row). IsCoherent (record view { rows = r })) same sound
removed_sound view op false None rows sound writable e = cc
removed_sound view op replay (Some row) rows sound writable e =
    let same = same_rows (deleted REFERENCES view.rows (place view op)) rows (in_use_by (in_use REFERENCES view.rows (place view op))) e in
    subst (λ (r : List Row). IsCoherent (record view { rows = r })) same.1 (delete_sound view (place view op) sound writable same.0)

pub operations_keep_coherence : OperationsKeepCoherence
unfolding operated
operations_keep_coherence view op replay rows sound fit e = by op.kind fit e
  where
    by : (kind : OpKind) → IsFitFor kind op → by_kind view op replay kind ≡ Ok rows → IsCoherent (record view { rows = rows })
    by Upsert fit e = upserted_sound view op rows sound fit e
    by Delete fit e = removed_sound view op replay (row_in view.rows (place view op)) rows sound fit e

-- ---- a batch

-- an operation that is read is fit
reading_fits : (op : RawOp) (done : Op) → op.id ≢ 0 → reading op ≡ Ok done → IsFitFor done.kind done
unfolding reading read
reading_fits op done there e = by_line (if_writable (info_named op.entity)) refl e
  where
    by_kind_of : (info : EntityInfo) → parts_fit info.entity op.id op.second ≡ true → is_writable info.entity ≡ true → (kind : OpKind) → IsFitFor kind (read info op)
    by_kind_of info fits writable Upsert = fits
    by_kind_of info fits writable Delete = writable

    by_rule : (info : EntityInfo) → if_writable (info_named op.entity) ≡ Some info → (rule : Option Broken) → refusal info op ≡ rule → unless_refused rule (read info op) ≡ Ok done → IsFitFor done.kind done
    by_rule info named (Some broken) none f = cc
    by_rule info named None none f =
        let fit : IsFitFor (read info op).kind (read info op) = by_kind_of info (read_key_fits op.entity info op named none there) (read_is_writable op.entity info named) op.kind in
        let same : read info op ≡ done = cc in
        subst (λ (o : Op). IsFitFor o.kind o) same fit

    by_line : (line : Option EntityInfo) → if_writable (info_named op.entity) ≡ line → reading_as line op ≡ Ok done → IsFitFor done.kind done
    by_line None named f = cc
    by_line (Some info) named f = by_rule info named (refusal info op) refl f

done_sound : (view : View) (op : RawOp) (rows : List Row) → IsCoherent view → op.id ≢ 0 → done view op ≡ Ok rows → IsCoherent (record view { rows = rows })
done_sound view op rows sound there e = by (reading op) refl e
  where
    by : (read : Result Op Broken) → reading op ≡ read → if_read view read ≡ Ok rows → IsCoherent (record view { rows = rows })
    by (Err broken) f g = cc
    by (Ok read) f g = operations_keep_coherence view read false rows sound (reading_fits op read there f) g

batch_sound : (ops : List RawOp) (view : View) (number : ℕ) (rows : List Row) → IsCoherent view → AllByRecursion (λ op. op.id ≢ 0) ops → batch view number ops ≡ Ok rows → IsCoherent (record view { rows = rows })
batch_sound [] view number rows sound there e =
    let same : view.rows ≡ rows = cc in
    subst (λ (r : List Row). IsCoherent (record view { rows = r })) same sound
batch_sound (op ∷ rest) view number rows sound there e = by (λ r s. batch_sound rest (record view { rows = r }) (suc number) rows s there.1) (done view op) refl e
  where
    by : ((r : List Row) → IsCoherent (record view { rows = r }) → batch (record view { rows = r }) (suc number) rest ≡ Ok rows → IsCoherent (record view { rows = rows })) → (result : Result (List Row) Broken) → done view op ≡ result → numbered number result (λ r. batch (record view { rows = r }) (suc number) rest) ≡ Ok rows → IsCoherent (record view { rows = rows })
    by more (Err broken) f g = cc
    by more (Ok r) f g = more r (done_sound view op r sound there.0 f) g

pub batches_keep_coherence : BatchesKeepCoherence
batches_keep_coherence view number ops rows sound there e = batch_sound ops view number rows sound there e
