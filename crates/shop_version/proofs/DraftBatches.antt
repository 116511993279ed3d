-- A batch in a draft, operation by operation.
use Rattle.std.proofs.Common.{◌≡◌, ◌≢◌, ◌<◌, ◌+◌, ◌⊎◌, ℕ, suc, Bool, true, false, not, List, [], ◌∷◌, ◌++◌, length, get_or, drop, drop-cons, add-one, append_assoc, refl, sym, ap, subst, ◌∙◌, Option, Some, None, if◌then◌else◌, Result, Ok, Err}
use Rattle.std.specs.Prelude.{map, ◌==◌}
use Rattle.std.specs.List.{AllByRecursion}
use Rattle.std.specs.Option.{option_and_then}
use Rattle.closure.specs.Closure.{IsIn}
use Rattle.shop_defs.specs.declared.broken.Broken.{Broken}
use Rattle.shop_defs.specs.declared.delta.Delta.{Delta}
use Rattle.shop_defs.specs.declared.key.Key.{Key}
use Rattle.shop_defs.specs.declared.op.Op.{Op}
use Rattle.shop_defs.specs.declared.op.OpKind.{OpKind}
use Rattle.shop_defs.specs.declared.op.OpKind.TheVariants.{Upsert, Delete}
use Rattle.shop_defs.specs.declared.refused.PlanFault.{PlanFault}
use Rattle.shop_defs.specs.declared.refused.PlanFault.TheVariants as F
use Rattle.shop_defs.specs.declared.refused.Refused.{Refused}
use Rattle.shop_defs.specs.declared.row.Row.{Row}
use Rattle.shop_defs.specs.Fitting.{op_fits}
use Rattle.shop_defs.specs.Joined.{Change, joined, all_changes}
use Rattle.shop_defs.specs.Keys.{key_cmp}
use Rattle.shop_defs.specs.Rows.{row_key, row_at, change_rows, IsInKeyOrder}
use Rattle.shop_requests.specs.declared.raw.RawOp.{RawOp}
use Rattle.shop_requests.specs.Operations.{reading, IsFaultOf}
use Rattle.shop_defs.specs.declared.table.TheConstants.{REFERENCES}
use Rattle.shop_operations.specs.Deletes.{deleted, in_use}
use Rattle.shop_operations.specs.Operations.{place, broken_by, in_use_by, operated, by_kind, removed, unless}
use Rattle.shop_operations.specs.References.{of_version}
use Rattle.shop_operations.specs.Upserts.{row_in, with_row, left}
use Rattle.shop_operations.specs.Views.{View, change_places}
use Rattle.shop_rows.specs.Changing.{StandUnderTheirKeys, HasAscendingKeys}
use Rattle.shop_soundness.proofs.InOrder.{left_fits, upsert_formed, delete_formed}
use Rattle.std.proofs.lemmas.Bool.{and_parts, eq-eqb, ne_eqb}
use Rattle.shop_drafts.specs.Drafts.{draft_key, root_of, draft_view}
use Rattle.shop_drafts.specs.Making.{with_rows}
use Rattle.shop_drafts.specs.Writing.{not_versioned, unless_not_versioned, unless_outside, outside, done_in, if_read_in, batch_in, read_all, no_draft, draft_write, write_in, write_with, write_shown, is_log_full, log_full, written, next_number, with_commits, new_commit, without_version}
use Rattle.shop_drafts.specs.declared.aggregate.Root.{Root}
use Rattle.shop_drafts.proofs.Apart.{writing}
use Rattle.shop_drafts.proofs.Seen.{drafts_are_views}
use Rattle.shop_drafts.proofs.Shown.{nothing_else_changes}
use Rattle.shop_write.specs.Planning.{IsPlan, IsPlanFault, IsOfView}
use Rattle.shop_write.specs.Writes.{TakesUpsert}
use Rattle.shop_version.specs.DraftSteps.{own_changes, AreOwn, StandAll, doing, IsDoingFault, IsRawFault, IsStepFault, IsBatchFault, IsDone, AreDone, IsCommitted, commit_changes}
use Rattle.shop_version.specs.DraftWrites.{AreFormed, IsWritePlan, IsWriteFault, PlansWrite, WriteLeavesOthers, IsBatchInView}
use Rattle.shop_version.specs.Overlays.{Layer, IsLayer, found_layer, open_rows, layer_rows, layer_view, IsOwnChange}
use Rattle.shop_version.proofs.Committed.{change_append, all_append, joined_stand, joined_rows, all_stand, changes_more, stand_more, own_changed}
use Rattle.shop_version.proofs.Layers.{layer_up, open_up, own_all, view_found, of_version-layer}
use Rattle.shop_drafts.proofs.Orders.{filter_puts_pass, puts_of_all}
use Rattle.shop_rows.proofs.Mentioning.{found_key}
use Rattle.shop_soundness.proofs.Lists.{put_filter}
use Rattle.shop_write.proofs.InOrder.{ascends_filter}
use Rattle.shop_write.proofs.LivePlaces.{same_version}
use Rattle.keyed.specs.Keyed.{put}
use Rattle.shop_defs.proofs.Keys.{key_cmp_total}
use Rattle.shop_version.proofs.OwnPart.{are_own, same_rows, keys_of_draft, opens_live}
use Rattle.shop_version.proofs.Untouched.{stays, open_shows}

-- ---- one operation

-- what a draft shows is what an upsert asks for
pub takes : (layer : Layer) (op : Op) → layer.version ≢ 0 → AreFormed (layer_rows layer) → TakesUpsert (layer_view layer) op
takes layer op n formed = record { formed = formed; shallow = λ given live. absurd (n live) }

-- an accepted operation whose key fits leaves keys that fit
pub formed_next : (view : View) (op : Op) (now : List Row) → AreFormed view.rows → op_fits op ≡ true → operated view op false ≡ Ok now → AreFormed now
unfolding operated
formed_next view op now formed fits e = by op.kind e
  where
    unless_ok : (rows : List Row) (broken : Option Broken) → unless rows broken ≡ Ok now → AreFormed rows → AreFormed now
    unless_ok rows None f k = let same : rows ≡ now = cc in subst AreFormed same k
    unless_ok rows (Some broken) f k = cc

    by_found : (found : Option Row) → removed view op false found ≡ Ok now → AreFormed now
    by_found None f = cc
    by_found (Some row) f = unless_ok (deleted REFERENCES view.rows (place view op)) (in_use_by (in_use REFERENCES view.rows (place view op))) f (delete_formed view.rows (place view op) formed)

    by : (kind : OpKind) → by_kind view op false kind ≡ Ok now → AreFormed now
    by Upsert f = unless_ok (with_row view.rows (left view.rows (place view op) op)) (broken_by view op (left view.rows (place view op) op)) f (upsert_formed view.rows (left view.rows (place view op) op) formed (left_fits view.rows (place view op) op formed (and_parts _ _ fits).0))
    by Delete f = by_found (row_in view.rows (place view op)) f

-- an operation that is inside is done as any
pub inside_is : (layer : Layer) (op : Op) → not_versioned op ≡ None → outside layer.root (layer_view layer) op op.kind ≡ None → doing layer op ≡ operated (layer_view layer) op false
inside_is layer op v o = ap (unless_not_versioned layer.root (layer_view layer) op) v ∙ ap (unless_outside (layer_view layer) op) o

pub inside_fault : (layer : Layer) (op : Op) (fault : PlanFault) → not_versioned op ≡ None → outside layer.root (layer_view layer) op op.kind ≡ None → IsPlanFault (layer_view layer) op false fault → IsDoingFault layer op fault
inside_fault layer op F.NoMemory v o is = tt
inside_fault layer op (F.Refused refused) v o is = inside_is layer op v o ∙ is.1

-- the own changes of its plan
pub record IsOwnPlan (layer : Layer) (op : Op) (changes : List Change) : Type 0 where
  pub own : AllByRecursion (IsOwnChange layer.version (open_rows layer)) changes
  pub rows : operated (layer_view layer) op false ≡ Ok (change_places (layer_rows layer) changes)

pub own_plan : (layer : Layer) → IsLayer layer → (op : Op) (changes own : List Change) → outside layer.root (layer_view layer) op op.kind ≡ None → IsPlan (layer_view layer) op false changes → own ≡ own_changes layer.version changes → IsOwnPlan layer op own
own_plan layer is op changes own o plan e =
    let opens = open_rows layer in
    let of = each changes plan.keys in
    let kept = stays layer is op (change_places (layer_rows layer) changes) plan.rows o in
    record {
      own = subst (AllByRecursion (IsOwnChange layer.version opens)) (sym e) (are_own layer.version is.is_draft opens (open_up layer is) (opens_live layer) (layer_rows layer) changes (layer_up layer is) plan.ascends plan.stand of (open_shows layer is) kept);
      rows = plan.rows ∙ ap Ok (sym (ap (change_places (layer_rows layer)) e ∙ same_rows layer.version is.is_draft opens (open_up layer is) (opens_live layer) (layer_rows layer) changes (layer_up layer is) plan.ascends plan.stand of (open_shows layer is) kept));
    }
  where
    each : (changes : List Change) → AllByRecursion (λ change. IsOfView (layer_view layer) change.0) changes → AllByRecursion (λ change. (change.0.version ≡ layer.version) ⊎ IsIn change.0 (map row_key (open_rows layer))) changes
    each [] all = tt
    each (change ∷ rest) all = (keys_of_draft layer is change.0 all.0, each rest all.1)

pub versions_of : (version : ℕ) (opens : List Row) (changes : List Change) → AllByRecursion (IsOwnChange version opens) changes → AreOwn version changes
versions_of version opens [] all = tt
versions_of version opens (change ∷ rest) all = (all.0.version, versions_of version opens rest all.1)

pub stand_of : (version : ℕ) (opens : List Row) (changes : List Change) → AllByRecursion (IsOwnChange version opens) changes → StandUnderTheirKeys changes
stand_of version opens [] all = tt
stand_of version opens (change ∷ rest) all = (all.0.stands, stand_of version opens rest all.1)

-- an operation that is done leaves keys that fit
pub formed_done : (layer : Layer) (op : Op) (now : List Row) → AreFormed (layer_rows layer) → op_fits op ≡ true → doing layer op ≡ Ok now → AreFormed now
formed_done layer op now formed fits e = by (not_versioned op) e
  where
    by_outside : (key : Option Key) → unless_outside (layer_view layer) op key ≡ Ok now → AreFormed now
    by_outside None f = formed_next (layer_view layer) op now formed fits f
    by_outside (Some key) f = cc

    by : (broken : Option Broken) → unless_not_versioned layer.root (layer_view layer) op broken ≡ Ok now → AreFormed now
    by None f = by_outside (outside layer.root (layer_view layer) op op.kind) f
    by (Some broken) f = cc

-- an operation as it is read
pub read_done : (layer : Layer) (op : RawOp) (read : Op) → reading op ≡ Ok read → done_in layer.root (layer_view layer) op ≡ doing layer read
read_done layer op read e = ap (if_read_in layer.root (layer_view layer)) e

pub raw_fault : (layer : Layer) (op : RawOp) (read : Op) (fault : PlanFault) → reading op ≡ Ok read → IsDoingFault layer read fault → IsRawFault layer op fault
raw_fault layer op read F.NoMemory e is = tt
raw_fault layer op read (F.Refused refused) e is = read_done layer op read e ∙ is

pub unread_fault : (layer : Layer) (op : RawOp) (fault : PlanFault) → IsFaultOf op fault → IsRawFault layer op fault
unread_fault layer op F.NoMemory is = tt
unread_fault layer op (F.Refused refused) is = ap (if_read_in layer.root (layer_view layer)) is.1

-- ---- the batch

-- the same draft with other own rows
next_view : (layer next : Layer) → next ≡ record layer { own = next.own } → record (layer_view layer) { rows = layer_rows next } ≡ layer_view next
next_view layer next e = subst (λ (l : Layer). record (layer_view layer) { rows = layer_rows next } ≡ record (layer_view l) { rows = layer_rows next }) (sym e) refl

parts : (ops : List RawOp) (i : ℕ) (op : RawOp) → i < length ops → op ≡ get_or ops i op → drop i ops ≡ op ∷ drop (i + 1) ops
parts ops i op low at = drop-cons ops i op low ∙ (ap (λ first. first ∷ drop (suc i) ops) (sym at) ∙ ap (λ n. op ∷ drop n ops) (sym (add-one i)))

step_on : (layer next : Layer) (number : ℕ) (op : RawOp) (rest : List RawOp) → next ≡ record layer { own = next.own } → done_in layer.root (layer_view layer) op ≡ Ok (layer_rows next)
    → batch_in layer.root (layer_view layer) number (op ∷ rest) ≡ batch_in next.root (layer_view next) (suc number) rest
step_on layer next number op rest e done = rw done (ap (λ view. batch_in layer.root view (suc number) rest) (next_view layer next e) ∙ ap (λ (l : Layer). batch_in l.root (layer_view next) (suc number) rest) (sym e))

pub step_at : (layer next : Layer) (ops : List RawOp) (i : ℕ) (op : RawOp) → i < length ops → op ≡ get_or ops i op → next ≡ record layer { own = next.own } → done_in layer.root (layer_view layer) op ≡ Ok (layer_rows next)
    → batch_in layer.root (layer_view layer) (i + 1) (drop i ops) ≡ batch_in next.root (layer_view next) (i + 1 + 1) (drop (i + 1) ops)
step_at layer next ops i op low at e done =
    ap (batch_in layer.root (layer_view layer) (i + 1)) (parts ops i op low at)
    ∙ (step_on layer next (i + 1) op (drop (i + 1) ops) e done ∙ ap (λ n. batch_in next.root (layer_view next) n (drop (i + 1) ops)) (sym (add-one (i + 1))))

refused_on : (root : Root) (view : View) (number : ℕ) (op : RawOp) (rest : List RawOp) (broken : Broken) → done_in root view op ≡ Err broken → batch_in root view number (op ∷ rest) ≡ Err (record { op = number; broken = broken })
refused_on root view number op rest broken e = rw e refl

pub fault_at : (first layer : Layer) (ops : List RawOp) (i : ℕ) (op : RawOp) (fault : PlanFault) → i < length ops → op ≡ get_or ops i op
    → batch_in layer.root (layer_view layer) (i + 1) (drop i ops) ≡ batch_in first.root (layer_view first) 1 ops → IsStepFault layer (i + 1) op fault → IsBatchFault first ops fault
fault_at first layer ops i op F.NoMemory low at so_far is = tt
fault_at first layer ops i op (F.Refused refused) low at so_far is =
    sym so_far
    ∙ (ap (batch_in layer.root (layer_view layer) (i + 1)) (parts ops i op low at)
    ∙ (refused_on layer.root (layer_view layer) (i + 1) op (drop (i + 1) ops) refused.broken is.1
    ∙ ap by (sym is.0)))
  where
    by : ℕ → Result (List Row) Refused
    by number = Err (record { op = number; broken = refused.broken })

-- one operation more is read
pub read_at : (done : List Op) (ops : List RawOp) (i : ℕ) (op : RawOp) (read : Op) → i < length ops → op ≡ get_or ops i op → reading op ≡ Ok read
    → (done ++ read ∷ []) ++ read_all (drop (i + 1) ops) ≡ done ++ read_all (drop i ops)
read_at done ops i op read low at e =
    regroup done read (read_all (drop (i + 1) ops))
    ∙ ap (λ rest. done ++ rest) (sym (ap read_all (parts ops i op low at) ∙ first_read (drop (i + 1) ops)))
  where
    regroup : (a : List Op) (x : Op) (b : List Op) → (a ++ x ∷ []) ++ b ≡ a ++ x ∷ b
    regroup a x b = simp append_assoc

    first_read : (rest : List RawOp) → read_all (op ∷ rest) ≡ read ∷ read_all rest
    first_read rest = rw e refl

-- one operation more is done
pub done_more : (first layer next : Layer) (op : Op) (deltas : List Delta) (delta : Delta) → AreDone first layer deltas → IsDone layer next op delta → AreDone first next (deltas ++ delta ∷ [])
done_more first layer next op deltas delta so_far is = record {
  layer = is.layer ∙ ap (λ (l : Layer). record l { own = next.own }) so_far.layer;
  own = is.own ∙ (ap (λ own. change_rows own delta.changes) so_far.own ∙ (sym (change_append (all_changes deltas) delta.changes first.own) ∙ ap (change_rows first.own) (sym (changes_more deltas delta))));
  are_own = subst (AreOwn first.version) (sym (changes_more deltas delta)) (all_append (λ change. change.0.version ≡ first.version) (all_changes deltas) delta.changes so_far.are_own (subst (λ (l : Layer). AreOwn l.version delta.changes) so_far.layer is.are_own));
  stand = stand_more deltas delta so_far.stand is.stand;
}

-- ---- the commit

-- in all deltas the rows stand under their keys
stand_both : (version number : ℕ) (draft : Row) (ops : List Op) (deltas : List Delta) (changes : List Change) → StandAll deltas → (committed : IsCommitted version number draft ops deltas changes) → StandAll (deltas ++ committed.commit ∷ [])
stand_both version number draft ops deltas changes stand committed = stand_more deltas committed.commit stand (subst StandUnderTheirKeys (sym committed.is) (refl, (refl, tt)))

-- what an accepted batch and its commit change
pub left_is : (rows : List Row) (version : ℕ) (root : Root) (draft : Row) (raw : List RawOp) (ops : List Op) (after : Layer) (deltas : List Delta) (number : ℕ) (changes : List Change)
    → IsInKeyOrder rows → IsLayer after → AreDone (found_layer rows version root) after deltas → ops ≡ read_all raw → number ≡ next_number rows version → IsCommitted version number draft ops deltas changes
    → change_rows rows changes ≡ written rows version draft (read_all raw) (layer_rows after)
unfolding written
left_is rows version root draft raw ops after deltas number changes up layer are read num committed =
    let stand = stand_both version number draft ops deltas changes are.stand committed in
    let ascends : HasAscendingKeys (joined (deltas ++ committed.commit ∷ [])) = subst HasAscendingKeys committed.all committed.ascends in
    let own : of_version version (layer_rows after) ≡ change_rows (of_version version rows) (all_changes deltas) =
    ap (λ (l : Layer). of_version l.version (layer_rows after)) (sym are.layer) ∙ (of_version-layer after layer ∙ are.own) in
    ap (change_rows rows) committed.all
    ∙ (joined_rows rows (deltas ++ committed.commit ∷ []) up stand ascends
    ∙ (ap (change_rows rows) (changes_more deltas committed.commit)
    ∙ (change_append (all_changes deltas) committed.commit.changes rows
    ∙ (ap (λ rows. change_rows rows committed.commit.changes) (own_changed rows version (all_changes deltas) up are.are_own (all_stand deltas are.stand) ∙ ap (with_rows (without_version rows version)) (sym own))
    ∙ (ap (change_rows (with_rows (without_version rows version) (of_version version (layer_rows after)))) committed.is
    ∙ (ap (λ ops. change_rows (with_rows (without_version rows version) (of_version version (layer_rows after))) (commit_changes version number draft ops)) read
    ∙ ap (λ number. change_rows (with_rows (without_version rows version) (of_version version (layer_rows after))) (commit_changes version number draft (read_all raw))) num))))))

-- that is the plan
pub write_plan : (rows : List Row) (version : ℕ) (root : Root) (draft : Row) (raw : List RawOp) (ops : List Op) (after : Layer) (deltas : List Delta) (number : ℕ) (changes : List Change)
    → row_at rows (draft_key version) ≡ Some draft → root_of draft ≡ Some root → batch_in root (draft_view rows version root) 1 raw ≡ Ok (layer_rows after) → is_log_full rows ≡ false
    → AreDone (found_layer rows version root) after deltas → IsCommitted version number draft ops deltas changes → change_rows rows changes ≡ written rows version draft (read_all raw) (layer_rows after) → IsWritePlan rows version raw changes
unfolding draft_write
write_plan rows version root draft raw ops after deltas number changes there rooted done room are committed left = record {
  written = ap (write_in rows version raw) there
      ∙ (ap (write_with rows version raw draft) rooted
      ∙ (ap (write_shown rows raw version draft) done
      ∙ (ap (λ full. if full then Err (log_full (length raw)) else Ok (written rows version draft (read_all raw) (layer_rows after))) room
      ∙ ap Ok (sym left))));
  ascends = committed.ascends;
  stand = subst StandUnderTheirKeys (sym committed.all) (joined_stand (deltas ++ committed.commit ∷ []) (stand_both version number draft ops deltas changes are.stand committed));
}

-- without the rows of a version there are none of it
none_left : (version : ℕ) (rows : List Row) → of_version version (without_version rows version) ≡ []
none_left version [] = refl
none_left version (row ∷ rest) = by (none_left version rest) (row.key.version == version) refl
  where
    by : of_version version (without_version rest version) ≡ [] → (b : Bool) → (row.key.version == version) ≡ b → of_version version (without_version (row ∷ rest) version) ≡ []
    by more true f = rw f more
    by more false f = rw (f, f) more

-- of the rows that a batch leaves, those of the version are the draft's own
own_written : (rows : List Row) (version : ℕ) (draft : Row) (ops : List Op) (own shown : List Row) → IsInKeyOrder rows → version ≢ 0 → draft.key ≡ draft_key version → IsInKeyOrder own → AllByRecursion (λ row. row.key.version ≡ version) own → of_version version shown ≡ own
    → of_version version (written rows version draft ops shown) ≡ own
unfolding written
own_written rows version draft ops own shown up n key own_up all e =
    let number = next_number rows version in
    let kept = with_commits number draft in
    let commit = new_commit version number ops in
    let base = with_rows (without_version rows version) (of_version version shown) in
    put_filter key_cmp row_key (λ row. row.key.version == version) (with_row_at base kept) commit (other 0 refl) (λ row same. other row.key.version (same_version row.key commit.key same))
    ∙ (put_filter key_cmp row_key (λ row. row.key.version == version) base kept (other draft.key.version (ap (λ (k : Key). k.version) key)) (λ row same. other row.key.version (same_version row.key kept.key same ∙ ap (λ (k : Key). k.version) key))
    ∙ (ap (λ ys. of_version version (with_rows (without_version rows version) ys)) e
    ∙ (filter_puts_pass key_cmp row_key key_cmp_total (λ row. row.key.version == version) own (without_version rows version) (ascends_filter key_cmp row_key key_cmp_total (λ row. not (row.key.version == version)) rows up) (passes own all)
    ∙ (ap (λ xs. with_rows xs own) (none_left version rows) ∙ puts_of_all key_cmp row_key key_cmp_total own own_up))))
  where
    with_row_at : List Row → Row → List Row
    with_row_at base row = put key_cmp row_key base row

    other : (v : ℕ) → v ≡ 0 → (v == version) ≡ false
    other v z = ap (λ v. v == version) z ∙ ne_eqb 0 version (λ z. n (sym z))

    passes : (own : List Row) → AllByRecursion (λ row. row.key.version ≡ version) own → AllByRecursion (λ row. (row.key.version == version) ≡ true) own
    passes [] all = tt
    passes (row ∷ rest) all = (eq-eqb row.key.version version all.0, passes rest all.1)

-- in words: the draft's rows are what the same operations leave of what it shows
pub write_batch : (rows : List Row) (version : ℕ) (root : Root) (draft : Row) (raw : List RawOp) (after : Layer) (deltas : List Delta) (changes : List Change) → IsInKeyOrder rows → version ≢ 0 → row_at rows (draft_key version) ≡ Some draft → root_of draft ≡ Some root
    → batch_in root (draft_view rows version root) 1 raw ≡ Ok (layer_rows after) → IsLayer after → AreDone (found_layer rows version root) after deltas → change_rows rows changes ≡ written rows version draft (read_all raw) (layer_rows after) → IsBatchInView rows version raw (change_rows rows changes)
write_batch rows version root draft raw after deltas changes up n there rooted done layer are left =
    let same : version ≡ after.version = ap (λ (l : Layer). l.version) (sym are.layer) in
    let own : of_version version (layer_rows after) ≡ after.own = ap (λ v. of_version v (layer_rows after)) same ∙ of_version-layer after layer in
    let all : AllByRecursion (λ row. row.key.version ≡ version) after.own = subst (λ v. AllByRecursion (λ row. row.key.version ≡ v) after.own) (sym same) (own_all after layer) in
    record {
      root = root;
      rooted = ap (option_and_then root_of) there ∙ rooted;
      shown = layer_rows after;
      batch = drafts_are_views.as_batches root (draft_view rows version root) 1 raw (layer_rows after) done;
      own = ap (of_version version) left ∙ (own_written rows version draft (read_all raw) after.own (layer_rows after) up n (found_key rows (draft_key version) draft there) layer.own_order all own ∙ sym own);
    }

-- ---- refusals

pub write_refused : (rows : List Row) (version : ℕ) (root : Root) (draft : Row) (ops : List RawOp) (fault : PlanFault) → row_at rows (draft_key version) ≡ Some draft → root_of draft ≡ Some root
    → IsBatchFault (found_layer rows version root) ops fault → IsWriteFault rows version ops fault
unfolding draft_write
write_refused rows version root draft ops F.NoMemory there rooted is = tt
write_refused rows version root draft ops (F.Refused refused) there rooted is =
    ap (write_in rows version ops) there ∙ (ap (write_with rows version ops draft) rooted ∙ ap (write_shown rows ops version draft) (ap (λ view. batch_in root view 1 ops) (sym (view_found rows version root)) ∙ is))

pub write_full : (rows : List Row) (version : ℕ) (root : Root) (draft : Row) (ops : List RawOp) (shown : List Row) → row_at rows (draft_key version) ≡ Some draft → root_of draft ≡ Some root
    → batch_in root (draft_view rows version root) 1 ops ≡ Ok shown → is_log_full rows ≡ true → draft_write rows version ops ≡ Err (log_full (length ops))
unfolding draft_write
write_full rows version root draft ops shown there rooted done full =
    ap (write_in rows version ops) there ∙ (ap (write_with rows version ops draft) rooted ∙ (ap (write_shown rows ops version draft) done ∙ ap (λ full. if full then Err (log_full (length ops)) else Ok (written rows version draft (read_all ops) shown)) full))

pub write_missing : (rows : List Row) (version : ℕ) (ops : List RawOp) → row_at rows (draft_key version) ≡ None → draft_write rows version ops ≡ Err (no_draft version ops)
unfolding draft_write
write_missing rows version ops none = ap (write_in rows version ops) none

pub write_rootless : (rows : List Row) (version : ℕ) (draft : Row) (ops : List RawOp) → row_at rows (draft_key version) ≡ Some draft → root_of draft ≡ None → draft_write rows version ops ≡ Err (no_draft version ops)
unfolding draft_write
write_rootless rows version draft ops there none = ap (write_in rows version ops) there ∙ ap (write_with rows version ops draft) none

-- ---- in words

pub leaves_others : (rows : List Row) (version : ℕ) (ops : List RawOp) (result : Result Delta PlanFault) → IsInKeyOrder rows → version ≢ 0 → PlansWrite rows version ops result → WriteLeavesOthers rows version ops result
leaves_others rows version ops (Err fault) up n plan = tt
leaves_others rows version ops (Ok delta) up n plan = record {
  rest = writing rows (change_rows rows delta.changes) version ops plan.written;
  others = nothing_else_changes.written_shows rows (change_rows rows delta.changes) version ops up n plan.written;
}
