-- An accepted operation, and an accepted batch, make up no row and no value.
use Rattle.std.proofs.Common.{◌≡◌, ℕ, suc, Bool, true, false, ◌⊎◌, inl, inr, List, [], ◌∷◌, refl, sym, subst, ◌∙◌, Option, Some, None}
use Rattle.std.specs.Prelude.{not, unwrap_or, Result, Ok, Err}
use Rattle.std.specs.List.{fold}
use Rattle.closure.specs.Closure.{IsIn}
use Rattle.closure.proofs.Members.{of_filter}
use Rattle.shop_defs.specs.declared.broken.Broken.{Broken}
use Rattle.shop_defs.specs.declared.key.Key.{Key}
use Rattle.shop_defs.specs.declared.op.Op.{Op}
use Rattle.shop_defs.specs.declared.op.OpKind.{OpKind}
use Rattle.shop_defs.specs.declared.op.OpKind.TheVariants.{Upsert, Delete}
use Rattle.shop_requests.specs.declared.raw.RawOp.{RawOp}
use Rattle.shop_defs.specs.declared.row.Row.{Row}
use Rattle.shop_defs.specs.declared.table.TheConstants.{REFERENCES}
use Rattle.shop_defs.specs.declared.value.Value.{Value}
use Rattle.shop_requests.specs.Operations.{reading}
use Rattle.shop_defs.specs.Rows.{row_key}
use Rattle.shop_defs.specs.Tables.{fields_of}
use Rattle.shop_defs.proofs.EachLine.{same_entity}
use Rattle.shop_soundness.specs.Batches.{if_read, done, numbered, batch}
use Rattle.shop_operations.specs.Deletes.{gone, in_use, is_emptied, deleted}
use Rattle.shop_operations.specs.Operations.{place, upserted, in_use_by, removed, by_kind, operated}
use Rattle.shop_operations.specs.Upserts.{place_cmp, row_in, left, bare_row, give}
use Rattle.shop_operations.specs.Views.{View}
use Rattle.shop_soundness.specs.Origins.{HadRow, HadField, IsGiven, IsGivenIn, IsPreset, ComesFrom, OperationsMakeUpNothing, BatchesMakeUpNothing}
use Rattle.shop_soundness.proofs.Accepted.{accepted, same_rows}
use Rattle.shop_soundness.proofs.Emptied.{IsLeft, of_deleted}
use Rattle.shop_soundness.proofs.Gives.{as_given, given_of, IsPresetOf, filled_of}
use Rattle.shop_soundness.proofs.Lefts.{row_before, was_there, left_place}
use Rattle.shop_soundness.proofs.Lists.{put_of}
use Rattle.shop_soundness.proofs.Places.{AtOnePlace}

-- a row that was there
old_row : (rows : List Row) (row : Row) → IsIn row rows → HadRow rows row.key
old_row rows row i = record { row = row; is_in = i; same = refl }

old_field : (rows : List Row) (row : Row) (field : ℕ × Value) → IsIn row rows → IsIn field row.fields → HadField rows row.key field
old_field rows row field i j = record { row = row; is_in = i; same = refl; has = j }

-- rows that stay
stay : (view : View) (Gives : Key → ℕ × Value → Type 0) → ComesFrom view Gives view.rows
stay view Gives = record { keys = λ row i. inl (old_row view.rows row i); fields = λ row field i j. inl (old_field view.rows row field i j) }

-- ---- upserts

-- where a field of a row comes from
abbrev IsFrom : List Row → Op → Key → ℕ × Value → Type 0
IsFrom rows op key field = HadField rows key field ⊎ (IsGiven op key field ⊎ IsPreset key field)

was_before : (rows : List Row) (key : Key) (field : ℕ × Value) → IsIn field (row_before rows key).fields → HadField rows (row_before rows key).key field
was_before rows key field i = by (row_in rows key) refl i
  where
    by : (row : Option Row) → row_in rows key ≡ row → IsIn field (unwrap_or row (bare_row key)).fields → HadField rows (unwrap_or row (bare_row key)).key field
    by None e j = absurd j
    by (Some row) e j = old_field rows row field (was_there rows key row e).is_in j

on_key : (op : Op) (key own : Key) (field : ℕ × Value) → AtOnePlace own key → op.entity ≡ key.entity → op.id ≡ key.id → op.second ≡ key.second → IsIn (as_given field) op.fields → IsGiven op own field
on_key op key own field at entity id second gives = record { entity = entity ∙ sym (same_entity own.entity key.entity at.entity); id = id ∙ sym at.id; second = second ∙ sym at.second; gives = gives }

left_fields : (view : View) (op : Op) (field : ℕ × Value) → IsIn field (left view.rows (place view op) op).fields → IsFrom view.rows op (left view.rows (place view op) op).key field
unfolding left
left_fields view op field i = by (filled_of (fields_of (row_before view.rows (place view op)).key.entity) (fold give (row_before view.rows (place view op)).fields op.fields) field i)
  where
    by_given : IsIn field (row_before view.rows (place view op)).fields ⊎ IsIn (as_given field) op.fields → IsFrom view.rows op (left view.rows (place view op) op).key field
    by_given (inl j) = inl (was_before view.rows (place view op) field j)
    by_given (inr j) = inr (inl (on_key op (place view op) (left view.rows (place view op) op).key field (left_place view.rows (place view op) op) refl refl refl j))

    by : IsIn field (fold give (row_before view.rows (place view op)).fields op.fields) ⊎ IsPresetOf (fields_of (row_before view.rows (place view op)).key.entity) field → IsFrom view.rows op (left view.rows (place view op) op).key field
    by (inl j) = by_given (given_of op.fields (row_before view.rows (place view op)).fields field j)
    by (inr p) = inr (inr (record { info = p.info; is_in = p.is_in; number = p.number; value = p.value }))

left_is_row : (view : View) (op : Op) → HadRow view.rows (left view.rows (place view op) op).key ⊎ ((left view.rows (place view op) op).key.version ≡ view.version)
unfolding left
left_is_row view op = by (row_in view.rows (place view op)) refl
  where
    by : (row : Option Row) → row_in view.rows (place view op) ≡ row → HadRow view.rows (unwrap_or row (bare_row (place view op))).key ⊎ ((unwrap_or row (bare_row (place view op))).key.version ≡ view.version)
    by None e = inr refl
    by (Some row) e = inl (old_row view.rows row (was_there view.rows (place view op) row e).is_in)

upsert_makes : (view : View) (op : Op) (rows : List Row) → upserted view op ≡ Ok rows → ComesFrom view (IsGiven op) rows
upsert_makes view op rows e =
    let acc = accepted view op rows e in
    subst (ComesFrom view (IsGiven op)) acc.rows_are (record {
      keys = λ row i. by_key row (put_of place_cmp row_key view.rows (left view.rows (place view op) op) row i);
      fields = λ row field i j. by_field row field (put_of place_cmp row_key view.rows (left view.rows (place view op) op) row i) j;
    })
  where
    by_key : (row : Row) → (left view.rows (place view op) op ≡ row) ⊎ IsIn row view.rows → HadRow view.rows row.key ⊎ (row.key.version ≡ view.version)
    by_key row (inl f) = subst (λ (r : Row). HadRow view.rows r.key ⊎ (r.key.version ≡ view.version)) f (left_is_row view op)
    by_key row (inr i) = inl (old_row view.rows row i)

    by_field : (row : Row) (field : ℕ × Value) → (left view.rows (place view op) op ≡ row) ⊎ IsIn row view.rows → IsIn field row.fields → IsFrom view.rows op row.key field
    by_field row field (inl f) j = subst (λ (r : Row). IsFrom view.rows op r.key field) f (left_fields view op field (subst (λ (r : Row). IsIn field r.fields) (sym f) j))
    by_field row field (inr i) j = inl (old_field view.rows row field i j)

-- ---- deletes

delete_makes : (view : View) (key : Key) (Gives : Key → ℕ × Value → Type 0) → ComesFrom view Gives (deleted REFERENCES view.rows key)
delete_makes view key Gives = record {
  keys = λ row i. inl (by_key row (of_deleted REFERENCES view.rows key row i));
  fields = λ row field i j. inl (by_field row field (of_deleted REFERENCES view.rows key row i) j);
}
  where
    by_key : (row : Row) → IsLeft REFERENCES view.rows key row → HadRow view.rows row.key
    by_key row was = subst (λ (r : Row). HadRow view.rows r.key) was.image (old_row view.rows was.one was.is_in)

    by_field : (row : Row) (field : ℕ × Value) → IsLeft REFERENCES view.rows key row → IsIn field row.fields → HadField view.rows row.key field
    by_field row field was j =
        let had = of_filter (λ entry. not (is_emptied REFERENCES (gone REFERENCES view.rows key) was.one entry.0)) was.one.fields field (subst (λ (r : Row). IsIn field r.fields) (sym was.image) j) in
        subst (λ (r : Row). HadField view.rows r.key field) was.image (old_field view.rows was.one field was.is_in had.is_in)

removed_makes : (view : View) (op : Op) (replay : Bool) (row : Option Row) (rows : List Row) → removed view op replay row ≡ Ok rows → ComesFrom view (IsGiven op) rows
removed_makes view op true None rows e = let same : view.rows ≡ rows = cc in subst (ComesFrom view (IsGiven op)) same (stay view (IsGiven op))
removed_makes view op false None rows e = cc
removed_makes view op replay (Some row) rows e =
    let same = same_rows (deleted REFERENCES view.rows (place view op)) rows (in_use_by (in_use REFERENCES view.rows (place view op))) e in
    subst (ComesFrom view (IsGiven op)) same.1 (delete_makes view (place view op) (IsGiven op))

pub operations_make_up_nothing : OperationsMakeUpNothing
unfolding operated
operations_make_up_nothing view op replay rows e = by op.kind e
  where
    by : (kind : OpKind) → by_kind view op replay kind ≡ Ok rows → ComesFrom view (IsGiven op) rows
    by Upsert e = upsert_makes view op rows e
    by Delete e = removed_makes view op replay (row_in view.rows (place view op)) rows e

-- ---- a batch

done_makes : (view : View) (op : RawOp) (rest : List RawOp) (rows : List Row) → done view op ≡ Ok rows → ComesFrom view (IsGivenIn (op ∷ rest)) rows
done_makes view op rest rows e = by (reading op) refl e
  where
    given : (read : Op) → reading op ≡ Ok read → (key : Key) (field : ℕ × Value) → HadField view.rows key field ⊎ (IsGiven read key field ⊎ IsPreset key field) → HadField view.rows key field ⊎ (IsGivenIn (op ∷ rest) key field ⊎ IsPreset key field)
    given read r key field (inl h) = inl h
    given read r key field (inr (inl g)) = inr (inl (record { raw = op; is_in = inl refl; op = read; read = r; given = g }))
    given read r key field (inr (inr p)) = inr (inr p)

    by : (read : Result Op Broken) → reading op ≡ read → if_read view read ≡ Ok rows → ComesFrom view (IsGivenIn (op ∷ rest)) rows
    by (Err broken) f g = cc
    by (Ok read) f g = let from = operations_make_up_nothing view read false rows g in record { keys = from.keys; fields = λ row field i j. given read f row.key field (from.fields row field i j) }

-- what comes from rows that come from others comes from those
onward : (view : View) (op : RawOp) (rest : List RawOp) (between after : List Row) → ComesFrom view (IsGivenIn (op ∷ rest)) between → ComesFrom (record view { rows = between }) (IsGivenIn rest) after → ComesFrom view (IsGivenIn (op ∷ rest)) after
onward view op rest between after one two = record {
  keys = λ row i. by_key row (two.keys row i);
  fields = λ row field i j. by_field row field (two.fields row field i j);
}
  where
    by_key : (row : Row) → HadRow between row.key ⊎ (row.key.version ≡ view.version) → HadRow view.rows row.key ⊎ (row.key.version ≡ view.version)
    by_key row (inl h) = subst (λ (key : Key). HadRow view.rows key ⊎ (key.version ≡ view.version)) h.same (one.keys h.row h.is_in)
    by_key row (inr e) = inr e

    by_field : (row : Row) (field : ℕ × Value) → HadField between row.key field ⊎ (IsGivenIn rest row.key field ⊎ IsPreset row.key field) → HadField view.rows row.key field ⊎ (IsGivenIn (op ∷ rest) row.key field ⊎ IsPreset row.key field)
    by_field row field (inl h) = subst (λ (key : Key). HadField view.rows key field ⊎ (IsGivenIn (op ∷ rest) key field ⊎ IsPreset key field)) h.same (one.fields h.row field h.is_in h.has)
    by_field row field (inr (inl g)) = inr (inl (record { raw = g.raw; is_in = inr g.is_in; op = g.op; read = g.read; given = g.given }))
    by_field row field (inr (inr p)) = inr (inr p)

batch_makes : (ops : List RawOp) (view : View) (number : ℕ) (rows : List Row) → batch view number ops ≡ Ok rows → ComesFrom view (IsGivenIn ops) rows
batch_makes [] view number rows e = let same : view.rows ≡ rows = cc in subst (ComesFrom view (IsGivenIn [])) same (stay view (IsGivenIn []))
batch_makes (op ∷ rest) view number rows e = by (λ between. batch_makes rest (record view { rows = between }) (suc number) rows) (done view op) refl e
  where
    by : ((between : List Row) → batch (record view { rows = between }) (suc number) rest ≡ Ok rows → ComesFrom (record view { rows = between }) (IsGivenIn rest) rows) → (result : Result (List Row) Broken) → done view op ≡ result → numbered number result (λ between. batch (record view { rows = between }) (suc number) rest) ≡ Ok rows → ComesFrom view (IsGivenIn (op ∷ rest)) rows
    by more (Err broken) f g = cc
    by more (Ok between) f g = onward view op rest between rows (done_makes view op rest between f) (more between g)

pub batches_make_up_nothing : BatchesMakeUpNothing
batches_make_up_nothing view number ops rows e = batch_makes ops view number rows e
