-- An accepted operation leaves what its words say.
use Rattle.std.proofs.Common.{◌≡◌, ℕ, suc, Bool, true, false, List, [], ◌∷◌, refl, sym, ap, subst, ◌∙◌, Option, Some, None}
use Rattle.std.specs.Prelude.{◌≤◌, ◌&&◌, ◌||◌, not, nat_lt, count_by, find, map, unwrap_or, is_none, is_some, if◌then◌else◌, Result, Ok, Err}
use Rattle.std.specs.List.{list_any}
use Rattle.std.specs.Option.{option_map}
use Rattle.std.specs.declared.cmp.Ordering.{Ordering}
use Rattle.std.specs.declared.cmp.Ordering.TheVariants.{Less, Equal, Greater}
use Rattle.std.specs.Ordering.{match_ordering}
use Rattle.std.proofs.lemmas.Bool.{and_from, and_parts, both_ways, eqb-true, eq-eqb, false≢true, false_from_ne_true, ltb-false}
use Rattle.keyed.proofs.Changes.{ascends_put}
use Rattle.closure.specs.Closure.{IsIn}
use Rattle.closure.proofs.Laws.{reached_is_least}
use Rattle.closure.proofs.Members.{Found, any_is, any_of, in_filter, none_passes, of_filter}
use Rattle.shop_defs.specs.declared.broken.Broken.{Broken}
use Rattle.shop_defs.specs.declared.broken.Broken.TheVariants as B
use Rattle.shop_defs.specs.declared.entity.Entity.{Entity}
use Rattle.shop_defs.specs.declared.key.Key.{Key}
use Rattle.shop_defs.specs.declared.op.Op.{Op}
use Rattle.shop_defs.specs.declared.op.OpKind.{OpKind}
use Rattle.shop_defs.specs.declared.op.OpKind.TheVariants.{Upsert, Delete}
use Rattle.shop_defs.specs.declared.row.Row.{Row}
use Rattle.shop_defs.specs.declared.table.FieldInfo.{FieldInfo}
use Rattle.shop_defs.specs.declared.table.OwnerLimit.{OwnerLimit}
use Rattle.shop_defs.specs.declared.table.Part.{Part}
use Rattle.shop_defs.specs.declared.table.Part.TheVariants as P
use Rattle.shop_defs.specs.declared.table.Reference.{Reference}
use Rattle.shop_defs.specs.declared.table.TheConstants.{REFERENCES, LEVEL_LIMITS, OWNER_LIMITS, MOST_ROWS}
use Rattle.shop_defs.specs.declared.value.Value.{Value}
use Rattle.shop_defs.specs.Rows.{field_of, row_key}
use Rattle.shop_defs.specs.Tables.{fields_of}
use Rattle.shop_requests.specs.Operations.{reading}
use Rattle.shop_operations.specs.Deletes.{stands_at, goes, gone, kept, in_use, is_field, is_emptied, emptied, deleted}
use Rattle.shop_operations.specs.Operations.{place, by_kind, in_use_by, operated, removed}
use Rattle.shop_operations.specs.Outcomes.{TakesWhatIsGiven, KeepsTheRules, elsewhere, UpsertLeaves, NamesLost, LosesWhatIsLost, ArePaired, DeleteLeaves, Leaves}
use Rattle.shop_operations.specs.Parents.{is_below, is_deep}
use Rattle.shop_operations.specs.References.{falls_with, holds_back, is_entity, sets_null, ties}
use Rattle.shop_operations.specs.Upserts.{bare_row, count_of, field_name, gives_parent, is_of_owner, is_twin, left, missing_required, owner_is_full, parent_cycle, parent_too_deep, place_cmp, row_in, sinks, too_many, with_row}
use Rattle.shop_operations.specs.Views.{View}
use Rattle.shop_operations.proofs.Fields.{rows_take_what_is_given}
use Rattle.shop_soundness.specs.Batches.{batch, if_read, numbered}
use Rattle.shop_soundness.specs.Outcomes.{OperationsLeave, BatchLeaves, BatchesLeave}
use Rattle.shop_soundness.proofs.Accepted.{IsUnbroken, accepted, fixed_agrees, given_met, map_none, none_least, same_rows}
use Rattle.shop_soundness.proofs.Lefts.{left_place}
use Rattle.shop_soundness.proofs.Lists.{filter_all, put_filter}
use Rattle.shop_soundness.proofs.Places.{AtOnePlace, at_one_place, place_back, place_on, place_cmp_total, place_equal, place_stands, stands_place}
use Rattle.shop_soundness.proofs.Values.{value_same}

-- ---- upserts

less_apart : Less ≡ Equal → ⊥
less_apart e = cc

-- the row that is put is found at its place
found_put : (rows : List Row) (key : Key) (new : Row) → AtOnePlace new.key key → find (stands_at key) (with_row rows new) ≡ Some new
found_put [] key new at = rw (place_stands key new (place_back new.key key at)) refl
found_put (row ∷ rest) key new at = by (found_put rest key new at) (place_cmp row.key new.key) refl
  where
    here : stands_at key new ≡ true
    here = place_stands key new (place_back new.key key at)

    lower : place_cmp row.key new.key ≡ Less → stands_at key row ≡ false
    lower less = false_from_ne_true (stands_at key row) (λ e. less_apart (sym less ∙ place_equal row.key new.key (place_back new.key row.key (place_on new.key key row.key at (stands_place key row e)))))

    by : find (stands_at key) (with_row rest new) ≡ Some new → (o : Ordering) → place_cmp row.key new.key ≡ o → find (stands_at key) (match_ordering o (row ∷ with_row rest new) (new ∷ rest) (new ∷ row ∷ rest)) ≡ Some new
    by more Less e = rw (lower e) more
    by more Equal e = rw here refl
    by more Greater e = rw here refl

-- the rows at other places are as before
others_stay : (rows : List Row) (key : Key) (new : Row) → AtOnePlace new.key key → elsewhere key (with_row rows new) ≡ elsewhere key rows
others_stay rows key new at =
    put_filter place_cmp row_key (λ row. not (stands_at key row)) rows new
    (ap not (place_stands key new (place_back new.key key at)))
    (λ row e. ap not (place_stands key row (place_back row.key key (place_on row.key new.key key (at_one_place row.key new.key e) at))))

left_takes : (rows : List Row) (key : Key) (op : Op) → TakesWhatIsGiven op (unwrap_or (row_in rows key) (bare_row key)) (left rows key op)
unfolding left
left_takes rows key op = rows_take_what_is_given op (unwrap_or (row_in rows key) (bare_row key))

-- a required field isn't null
required_there : (row : Row) → missing_required row ≡ None → (field : FieldInfo) → IsIn field (fields_of row.key.entity) → field.marks.required ≡ true → is_some (field_of row field.number) ≡ true
required_there row checked field i required = some_of (field_of row field.number) (rw required at none)
  where
    none : (field.marks.required && is_none (field_of row field.number)) ≡ false
    none = none_least field_name (λ other. other.marks.required && is_none (field_of row other.number)) (fields_of row.key.entity) field (map_none _ _ checked) i

    some_of : (value : Option Value) → is_none value ≡ false → is_some value ≡ true
    some_of None e = cc
    some_of (Some value) e = refl

-- a row that is given a parent isn't below itself
not_below : (rows : List Row) (op : Op) (row : Row) → parent_cycle rows op row ≡ None → gives_parent op ≡ true → is_below REFERENCES rows row row ≡ false
not_below rows op row checked given = by (is_below REFERENCES rows row row) refl (rw given at checked)
  where
    by : (b : Bool) → is_below REFERENCES rows row row ≡ b → (if b then Some (B.ParentCycle row.key.id) else None) ≡ None → is_below REFERENCES rows row row ≡ false
    by true e f = cc
    by false e f = e

-- nor does it, or a row below it, stand lower than it may
not_sunk : (rows : List Row) (op : Op) (row : Row) → parent_too_deep rows op row ≡ None → gives_parent op ≡ true → (other : Row) → IsIn other rows → (stands_at row.key other || is_below REFERENCES rows row other) ≡ true → is_deep REFERENCES LEVEL_LIMITS rows other ≡ false
not_sunk rows op row checked given other i below = false_from_ne_true (is_deep REFERENCES LEVEL_LIMITS rows other) (λ deep. both_ways (sinks rows row other) (none_passes (sinks rows row) rows other (ap is_some (map_none (λ r. B.ParentTooDeep r.key.id) _ none)) i) (and_from _ _ below deep))
  where
    none : option_map (λ r. B.ParentTooDeep r.key.id) (find (sinks rows row) rows) ≡ None
    none = rw given at checked

-- the limits on how many rows there are
record AreFew (hidden : Entity → ℕ) (rows : List Row) (row : Row) : Type 0 where
  all : count_of hidden rows row.key.entity ≤ MOST_ROWS
  owned : (limit : OwnerLimit) → IsIn limit OWNER_LIMITS → is_entity limit.entity row.key.entity ≡ true → count_by (is_of_owner limit row) rows ≤ limit.most

are_few : (hidden : Entity → ℕ) (rows : List Row) (row : Row) → too_many hidden rows row ≡ None → AreFew hidden rows row
are_few hidden rows row checked = by (nat_lt MOST_ROWS (count_of hidden rows row.key.entity)) refl checked
  where
    under : find (owner_is_full rows row) OWNER_LIMITS ≡ None → (limit : OwnerLimit) → IsIn limit OWNER_LIMITS → is_entity limit.entity row.key.entity ≡ true → count_by (is_of_owner limit row) rows ≤ limit.most
    under none limit i of =
        let free = none_passes (owner_is_full rows row) OWNER_LIMITS limit (ap is_some none) i in
        ltb-false limit.most (count_by (is_of_owner limit row) rows) (false_from_ne_true _ (λ full. both_ways (owner_is_full rows row limit) free (and_from _ _ of full)))

    by : (b : Bool) → nat_lt MOST_ROWS (count_of hidden rows row.key.entity) ≡ b → (if b then Some (B.TooMany row.key.entity MOST_ROWS) else option_map (λ limit. B.TooMany row.key.entity limit.most) (find (owner_is_full rows row) OWNER_LIMITS)) ≡ None → AreFew hidden rows row
    by true e f = cc
    by false e f = record { all = ltb-false MOST_ROWS (count_of hidden rows row.key.entity) e; owned = under (map_none _ _ f) }

-- a row that breaks none of the rules keeps to them
keeps_the_rules : (view : View) (op : Op) (row : Row) → IsUnbroken view op row → KeepsTheRules op (row_in view.rows (place view op)) row (with_row view.rows row) view.hidden
keeps_the_rules view op row free =
    let rows = with_row view.rows row in
    let few = are_few view.hidden rows row free.few in
    record {
      fixed = λ was e field i fixed. sym (value_same (field_of was field.number) (field_of row field.number) (fixed_agrees was row field (rw e at free.fixed) i fixed));
      required = required_there row free.required;
      met = λ reference i of given. (given_met rows op row reference free.referring i of given).met;
      of_tree = λ reference i of given. (given_met rows op row reference free.referring i of given).of_tree;
      single = λ other i. none_passes (is_twin row) rows other (ap is_some (map_none _ _ free.single)) i;
      acyclic = not_below rows op row free.acyclic;
      shallow = not_sunk rows op row free.shallow;
      bounded = few.all;
      few = few.owned;
    }

with_row_leaves : (view : View) (op : Op) → IsUnbroken view op (left view.rows (place view op) op) → UpsertLeaves view.hidden (place view op) op view.rows (with_row view.rows (left view.rows (place view op) op))
with_row_leaves view op free =
    let rows = view.rows in
    let key = place view op in
    record { row = left rows key op; is_there = found_put rows key (left rows key op) (left_place rows key op); given = left_takes rows key op; unbroken = keeps_the_rules view op (left rows key op) free; others = others_stay rows key (left rows key op) (left_place rows key op); in_order = ascends_put place_cmp row_key place_cmp_total rows (left rows key op) }

-- ---- deletes

paired_map : {X : Type 0} (Fits : X → X → Type 0) (f : X → X) (xs : List X) → ((x : X) → Fits x (f x)) → ArePaired Fits xs (map f xs)
paired_map Fits f [] fits = tt
paired_map Fits f (x ∷ xs) fits = (fits x, paired_map Fits f xs fits)

paired_itself : {X : Type 0} (Fits : X → X → Type 0) (xs : List X) → ((x : X) → Fits x x) → ArePaired Fits xs xs
paired_itself Fits [] fits = tt
paired_itself Fits (x ∷ xs) fits = (fits x, paired_itself Fits xs fits)

part_is : (part : Part) (number : ℕ) → is_field part number ≡ true → part ≡ P.Field number
part_is P.Id number e = cc
part_is P.Second number e = cc
part_is (P.Field at) number e = ap P.Field (eqb-true at number e)

field_is : (part : Part) (number : ℕ) → part ≡ P.Field number → is_field part number ≡ true
field_is part number e = ap (λ (p : Part). is_field p number) e ∙ eq-eqb number number refl

module _ (rows : List Row) (key : Key) where
  lost : Row → Bool
  lost row = goes REFERENCES rows key row

  -- a field that is emptied names a lost row
  names_lost : (row : Row) (number : ℕ) → is_emptied REFERENCES (gone REFERENCES rows key) row number ≡ true → NamesLost rows (goes REFERENCES rows key) row number
  unfolding is_emptied
  names_lost row number e = by (any_of (λ reference. sets_null reference.on_delete && is_field reference.part number && list_any (ties reference row) (gone REFERENCES rows key)) REFERENCES e)
    where
      by : Found (λ reference. sets_null reference.on_delete && is_field reference.part number && list_any (ties reference row) (gone REFERENCES rows key)) REFERENCES → NamesLost rows (goes REFERENCES rows key) row number
      by f =
          let parts = and_parts (sets_null f.one.on_delete && is_field f.one.part number) (list_any (ties f.one row) (gone REFERENCES rows key)) f.passes in
          let front = and_parts (sets_null f.one.on_delete) (is_field f.one.part number) parts.0 in
          let tied = any_of (ties f.one row) (gone REFERENCES rows key) parts.1 in
          let was = of_filter (goes REFERENCES rows key) rows tied.one tied.is_in in
          record { reference = f.one; is_in = f.is_in; may_be_emptied = front.0; part = part_is f.one.part number front.1; other = tied.one; was = was.is_in; goes = was.passes; names = tied.passes }

  -- and each field that names one is emptied
  is_lost : (row : Row) (number : ℕ) → NamesLost rows (goes REFERENCES rows key) row number → is_emptied REFERENCES (gone REFERENCES rows key) row number ≡ true
  unfolding is_emptied
  is_lost row number n =
      let there = any_is (ties n.reference row) (gone REFERENCES rows key) n.other (in_filter (goes REFERENCES rows key) rows n.other n.was n.goes) n.names in
      any_is (λ reference. sets_null reference.on_delete && is_field reference.part number && list_any (ties reference row) (gone REFERENCES rows key)) REFERENCES n.reference n.is_in
      (and_from _ _ (and_from _ _ n.may_be_emptied (field_is n.reference.part number n.part)) there)

  loses : (row : Row) → LosesWhatIsLost rows (goes REFERENCES rows key) row (emptied REFERENCES (gone REFERENCES rows key) row)
  loses row = record {
    stays = λ number. not (is_emptied REFERENCES (gone REFERENCES rows key) row number);
    fields = refl;
    only = λ number e. names_lost row number (is_true _ e);
    all = λ number n. ap not (is_lost row number n);
    key = refl;
    ops = refl;
  }
    where
      is_true : (b : Bool) → not b ≡ false → b ≡ true
      is_true true e = refl
      is_true false e = cc

  none_holds : in_use_by (in_use REFERENCES rows key) ≡ None → (row other : Row) → IsIn row rows → IsIn other rows → goes REFERENCES rows key row ≡ false → goes REFERENCES rows key other ≡ true → holds_back REFERENCES row other ≡ false
  none_holds free row other i j stays went = by (in_use REFERENCES rows key) refl free
    where
      by : (found : Option Row) → in_use REFERENCES rows key ≡ found → in_use_by found ≡ None → holds_back REFERENCES row other ≡ false
      by (Some holder) e f = cc
      by None e f =
          let none : list_any (holds_back REFERENCES row) (gone REFERENCES rows key) ≡ false = none_passes (λ r. list_any (holds_back REFERENCES r) (gone REFERENCES rows key)) (kept REFERENCES rows key) row (ap is_some e) (in_filter (λ r. not (goes REFERENCES rows key r)) rows row i (ap not stays)) in
          false_from_ne_true (holds_back REFERENCES row other) (λ h. both_ways (list_any (holds_back REFERENCES row) (gone REFERENCES rows key)) none (any_is (holds_back REFERENCES row) (gone REFERENCES rows key) other (in_filter (goes REFERENCES rows key) rows other j went) h))

  deleted_leaves : (replay : Bool) (row : Row) → row_in rows key ≡ Some row → in_use_by (in_use REFERENCES rows key) ≡ None → DeleteLeaves key replay rows (deleted REFERENCES rows key)
  deleted_leaves replay row is free = record {
    there = λ once. ap is_some is;
    missing = λ none. absurd (false≢true (ap is_some (sym none ∙ is)));
    lost = goes REFERENCES rows key;
    are_lost = reached_is_least (falls_with REFERENCES) rows (stands_at key);
    stay = paired_map (LosesWhatIsLost rows (goes REFERENCES rows key)) (emptied REFERENCES (gone REFERENCES rows key)) (kept REFERENCES rows key) loses;
    free = none_holds free;
  }

  -- where no row stands at the place, none is lost
  nothing_leaves : row_in rows key ≡ None → DeleteLeaves key true rows rows
  nothing_leaves none = record {
    there = λ once. cc;
    missing = λ e. refl;
    lost = λ row. false;
    are_lost = record {
      closed = record { has_start = λ row i e. sym (none_passes (stands_at key) rows row (ap is_some none) i) ∙ e; has_next = λ row other i j e f. e };
      least = λ other closed row i e. absurd (false≢true e);
    };
    stay = subst (λ before. ArePaired (LosesWhatIsLost rows (λ row. false)) before rows) (sym (filter_all (λ row. true) rows (λ row i. refl))) (paired_itself (LosesWhatIsLost rows (λ row. false)) rows whole);
    free = λ row other i j e f. absurd (false≢true f);
  }
    where
      whole : (row : Row) → LosesWhatIsLost rows (λ r. false) row row
      whole row = record {
        stays = λ number. true;
        fields = sym (filter_all (λ field. true) row.fields (λ field i. refl));
        only = λ number e. absurd (false≢true (sym e));
        all = λ number n. absurd (false≢true n.goes);
        key = refl;
        ops = refl;
      }

-- ---- operations

pub operations_leave : OperationsLeave
unfolding operated
operations_leave view op replay rows e = by op.kind e
  where
    upsert : by_kind view op replay Upsert ≡ Ok rows → UpsertLeaves view.hidden (place view op) op view.rows rows
    upsert f = let done = accepted view op rows f in subst (UpsertLeaves view.hidden (place view op) op view.rows) done.rows_are (with_row_leaves view op done.unbroken)

    missing : row_in view.rows (place view op) ≡ None → (b : Bool) → removed view op b None ≡ Ok rows → DeleteLeaves (place view op) b view.rows rows
    missing none true f = let same : view.rows ≡ rows = cc in subst (DeleteLeaves (place view op) true view.rows) same (nothing_leaves view.rows (place view op) none)
    missing none false f = cc

    found : (row : Option Row) → row_in view.rows (place view op) ≡ row → removed view op replay row ≡ Ok rows → DeleteLeaves (place view op) replay view.rows rows
    found None none f = missing none replay f
    found (Some row) is f =
        let same = same_rows (deleted REFERENCES view.rows (place view op)) rows (in_use_by (in_use REFERENCES view.rows (place view op))) f in
        subst (DeleteLeaves (place view op) replay view.rows) same.1 (deleted_leaves view.rows (place view op) replay row is same.0)

    by : (kind : OpKind) → by_kind view op replay kind ≡ Ok rows → Leaves kind view op replay rows
    by Upsert f = upsert f
    by Delete f = found (row_in view.rows (place view op)) refl f

-- ---- batches

pub batches_leave : BatchesLeave
batches_leave view number [] rows e = cc
batches_leave view number (raw ∷ rest) rows e = by (λ between. batches_leave (record view { rows = between }) (suc number) rest rows) (reading raw) refl e
  where
    after : (op : Op) → reading raw ≡ Ok op → ((between : List Row) → batch (record view { rows = between }) (suc number) rest ≡ Ok rows → BatchLeaves (record view { rows = between }) rest rows)
        → (out : Result (List Row) Broken) → operated view op false ≡ out → numbered number out (λ between. batch (record view { rows = between }) (suc number) rest) ≡ Ok rows → BatchLeaves view (raw ∷ rest) rows
    after op read more (Ok between) is f = record { op = op; read = read; between = between; leaves = operations_leave view op false between is; rest = more between f }
    after op read more (Err broken) is f = cc

    by : ((between : List Row) → batch (record view { rows = between }) (suc number) rest ≡ Ok rows → BatchLeaves (record view { rows = between }) rest rows)
        → (read : Result Op Broken) → reading raw ≡ read → numbered number (if_read view read) (λ between. batch (record view { rows = between }) (suc number) rest) ≡ Ok rows → BatchLeaves view (raw ∷ rest) rows
    by more (Ok op) read f = after op read more (operated view op false) refl f
    by more (Err broken) read f = cc
