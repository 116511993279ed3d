-- The rows that a draft shows of its version are those that it edits, also while a batch is done in it.
use Rattle.std.proofs.Common.{◌≡◌, ◌≢◌, ℕ, suc, Bool, true, false, not, ◌&&◌, ◌||◌, ◌==◌, ◌⊎◌, inl, inr, List, [], ◌∷◌, filter, find, refl, sym, ap, subst, ◌∙◌, Option, Some, None, Result, Ok, Err, if◌then◌else◌, option_map, IsNone, is_none}
use Rattle.std.specs.List.{fold, list_any, list_all}
use Rattle.std.specs.Option.{option_map_or, unwrap_or}
use Rattle.std.proofs.lemmas.Bool.{both_ways, and_parts, eqb-true, eq-eqb, ne_eqb, false_from_ne_true, not-true, or_parts}
use Rattle.closure.specs.Closure.{IsIn}
use Rattle.closure.proofs.Laws.{filter_agree_on}
use Rattle.closure.proofs.Members.{Found, any_of, any_is, all_at, none_passes, of_filter}
use Rattle.shop_defs.specs.declared.broken.Broken.{Broken}
use Rattle.shop_defs.specs.declared.broken.Broken.TheVariants as B
use Rattle.shop_defs.specs.declared.entity.Entity.{Entity}
use Rattle.shop_defs.specs.declared.key.Key.{Key}
use Rattle.shop_defs.specs.declared.op.Op.{Op}
use Rattle.shop_defs.specs.declared.op.OpKind.{OpKind}
use Rattle.shop_defs.specs.declared.op.OpKind.TheVariants.{Upsert, Delete}
use Rattle.shop_requests.specs.declared.raw.RawOp.{RawOp}
use Rattle.shop_requests.specs.Operations.{reading}
use Rattle.shop_defs.specs.declared.refused.Refused.{Refused}
use Rattle.shop_defs.specs.declared.row.Row.{Row}
use Rattle.shop_defs.specs.declared.table.TheConstants.{REFERENCES}
use Rattle.shop_defs.specs.declared.value.Value.{Value}
use Rattle.shop_defs.specs.Rows.{row_key}
use Rattle.shop_operations.specs.Deletes.{goes, gone, is_field, is_emptied, emptied, deleted, in_use, loses_field}
use Rattle.shop_operations.specs.Operations.{place, upserted, in_use_by, removed, by_kind, operated, shown_key}
use Rattle.shop_operations.specs.References.{is_entity, is_live, live, sets_null, ties, of_version}
use Rattle.shop_operations.specs.Upserts.{place_cmp, row_in, with_row, left, bare_row}
use Rattle.shop_operations.specs.Views.{View}
use Rattle.shop_soundness.specs.Batches.{numbered}
use Rattle.shop_soundness.proofs.Accepted.{accepted, same_rows}
use Rattle.shop_soundness.proofs.Emptied.{are_tied, IsLeft, of_deleted}
use Rattle.shop_soundness.proofs.Lefts.{left_key, was_there}
use Rattle.shop_soundness.proofs.Lists.{filter_all, put_of}
use Rattle.shop_drafts.specs.Aggregates.{is_part, is_part_by, is_member}
use Rattle.shop_drafts.specs.Damage.{passes_draft, is_part_of}
use Rattle.shop_drafts.specs.Drafts.{over, is_open, root_in}
use Rattle.shop_drafts.specs.Laws.{Agree, DraftsShowTheirParts}
use Rattle.shop_drafts.specs.Writing.{touches, outside, not_versioned, unless_outside, unless_not_versioned, if_read_in, done_in, batch_in}
use Rattle.shop_drafts.specs.declared.aggregate.Member.{Member}
use Rattle.shop_drafts.specs.declared.aggregate.Root.{Root}
use Rattle.shop_drafts.specs.declared.aggregate.TheConstants.{MEMBERS}

-- ---- rows that lose nothing

-- no field is emptied of a row of an entity with versions
parts_are_whole : list_all (λ reference. not (sets_null reference.on_delete) || not (list_any (λ (member : Member). is_entity member.entity reference.entity) MEMBERS)) REFERENCES ≡ true
parts_are_whole = refl

any_more : (p q : Member → Bool) (members : List Member) → ((member : Member) → p member ≡ true → q member ≡ true) → list_any p members ≡ true → list_any q members ≡ true
any_more p q [] f e = e
any_more p q (member ∷ members) f e = by (any_more p q members f) (p member) refl (q member) refl
  where
    by : (list_any p members ≡ true → list_any q members ≡ true) → (b : Bool) → p member ≡ b → (c : Bool) → q member ≡ c → list_any q (member ∷ members) ≡ true
    by more true g true h = rw h refl
    by more true g false h = let k : q member ≡ true = f member g in let l : false ≡ true = sym h ∙ k in cc
    by more false g true h = rw h refl
    by more false g false h = rw h (more (sym (ap (λ b. b || list_any p members) g) ∙ e))

pub part_member : (root : Root) (row : Row) → is_part root row ≡ true → list_any (λ (member : Member). is_entity member.entity row.key.entity) MEMBERS ≡ true
unfolding is_part_by
part_member root row e = any_more (is_member root row) (λ member. is_entity member.entity row.key.entity) MEMBERS (λ member f. (and_parts _ _ (and_parts _ _ f).1).0) e

part_whole : (root : Root) (lost : List Row) (row : Row) → is_part root row ≡ true → emptied REFERENCES lost row ≡ row
unfolding is_emptied
part_whole root lost row part = ap (λ fields. record row { fields = fields }) (filter_all (λ entry. not (is_emptied REFERENCES lost row entry.0)) row.fields (λ entry i. ap not (stays entry.0)))
  where
    by : (number : ℕ) → Found (λ reference. sets_null reference.on_delete && is_field reference.part number && list_any (ties reference row) lost) REFERENCES → ⊥
    by number f =
        let parts = and_parts (sets_null f.one.on_delete && is_field f.one.part number) (list_any (ties f.one row) lost) f.passes in
        let sets = (and_parts (sets_null f.one.on_delete) (is_field f.one.part number) parts.0).0 in
        let tied = any_of (ties f.one row) lost parts.1 in
        let entity = (are_tied f.one row tied.one tied.passes).entity in
        let rule : (not (sets_null f.one.on_delete) || not (list_any (λ (member : Member). is_entity member.entity f.one.entity) MEMBERS)) ≡ true =
        all_at (λ r. not (sets_null r.on_delete) || not (list_any (λ (member : Member). is_entity member.entity r.entity) MEMBERS)) REFERENCES f.one parts_are_whole f.is_in in
        let none : not (list_any (λ (member : Member). is_entity member.entity f.one.entity) MEMBERS) ≡ true = rw sets at rule in
        let some : list_any (λ (member : Member). is_entity member.entity f.one.entity) MEMBERS ≡ true = subst (λ (e : Entity). list_any (λ (member : Member). is_entity member.entity e) MEMBERS ≡ true) (sym entity) (part_member root row part) in
        let clash : false ≡ true = sym (ap not some) ∙ none in
        cc

    stays : (number : ℕ) → is_emptied REFERENCES lost row number ≡ false
    stays number = false_from_ne_true _ (λ e. by number (any_of (λ reference. sets_null reference.on_delete && is_field reference.part number && list_any (ties reference row) lost) REFERENCES e))

-- nor of one that the delete doesn't touch
pub untouched_whole : (rows : List Row) (key : Key) (row : Row) → loses_field REFERENCES rows key row ≡ false → emptied REFERENCES (gone REFERENCES rows key) row ≡ row
untouched_whole rows key row none = ap (λ fields. record row { fields = fields }) (filter_all (λ entry. not (is_emptied REFERENCES (gone REFERENCES rows key) row entry.0)) row.fields (λ entry i. ap not (stays entry i)))
  where
    stays : (entry : ℕ × Value) → IsIn entry row.fields → is_emptied REFERENCES (gone REFERENCES rows key) row entry.0 ≡ false
    stays entry i = false_from_ne_true _ (λ e. both_ways (loses_field REFERENCES rows key row) none (any_is (λ entry. is_emptied REFERENCES (gone REFERENCES rows key) row entry.0) row.fields entry i e))

-- ---- one operation

module _ (root : Root) (view : View) (op : Op) (agree : Agree root view.version view.rows) where
  upsert_agrees : (rows : List Row) → outside root view op Upsert ≡ None → upserted view op ≡ Ok rows → Agree root view.version rows
  upsert_agrees rows inside e =
      let acc = accepted view op rows e in
      subst (Agree root view.version) acc.rows_are (λ row i. by row (put_of place_cmp row_key view.rows (left view.rows (place view op) op) row i))
    where
      both : (b : Bool) → (if b then None else Some (place view op)) ≡ None → b ≡ true
      both true f = refl
      both false f = cc

      parts : (option_map_or (is_part root) (row_in view.rows (place view op)) true && is_part root (left view.rows (place view op) op)) ≡ true
      parts = both (option_map_or (is_part root) (row_in view.rows (place view op)) true && is_part root (left view.rows (place view op) op)) inside

      part : is_part root (left view.rows (place view op) op) ≡ true
      part = (and_parts (option_map_or (is_part root) (row_in view.rows (place view op)) true) (is_part root (left view.rows (place view op) op)) parts).1

      version : (found : Option Row) → row_in view.rows (place view op) ≡ found → (left view.rows (place view op) op).key.version ≡ view.version
      version None f = ap (λ (key : Key). key.version) (left_key view.rows (place view op) op) ∙ ap (λ (o : Option Row). (unwrap_or o (bare_row (place view op))).key.version) f
      version (Some before) f =
          let was = was_there view.rows (place view op) before f in
          let edits : is_part root before ≡ true = sym (ap (λ (o : Option Row). option_map_or (is_part root) o true) f) ∙ (and_parts (option_map_or (is_part root) (row_in view.rows (place view op)) true) (is_part root (left view.rows (place view op) op)) parts).0 in
          ap (λ (key : Key). key.version) (left_key view.rows (place view op) op) ∙ (ap (λ (o : Option Row). (unwrap_or o (bare_row (place view op))).key.version) f ∙ eqb-true before.key.version view.version (agree before was.is_in ∙ edits))

      by : (row : Row) → (left view.rows (place view op) op ≡ row) ⊎ IsIn row view.rows → (row.key.version == view.version) ≡ is_part root row
      by row (inl same) = subst (λ (row : Row). (row.key.version == view.version) ≡ is_part root row) same (eq-eqb _ _ (version (row_in view.rows (place view op)) refl) ∙ sym part)
      by row (inr i) = agree row i

  delete_agrees : (rows : List Row) → outside root view op Delete ≡ None → deleted REFERENCES view.rows (place view op) ≡ rows → Agree root view.version rows
  delete_agrees rows inside e = subst (Agree root view.version) e (λ row i. by row (of_deleted REFERENCES view.rows (place view op) row i))
    where
      none : (found : Option Row) → option_map (shown_key view) found ≡ None → IsNone found
      none None f = refl
      none (Some row) f = cc

      nothing : IsNone (find (λ row. touches view op row && not (is_part root row)) view.rows)
      nothing = none (find (λ row. touches view op row && not (is_part root row)) view.rows) inside

      whole : (row : Row) → IsIn row view.rows → (b : Bool) → is_part root row ≡ b → emptied REFERENCES (gone REFERENCES view.rows (place view op)) row ≡ row
      whole row i true f = part_whole root (gone REFERENCES view.rows (place view op)) row f
      whole row i false f =
          let untouched : (touches view op row && not (is_part root row)) ≡ false = none_passes (λ row. touches view op row && not (is_part root row)) view.rows row nothing i in
          let free : touches view op row ≡ false = either (touches view op row) (is_part root row) f untouched in
          untouched_whole view.rows (place view op) row (or_parts (goes REFERENCES view.rows (place view op) row) (loses_field REFERENCES view.rows (place view op) row) free).1
        where
          either : (t p : Bool) → p ≡ false → (t && not p) ≡ false → t ≡ false
          either true true f e = let g : true ≡ false = f in g
          either true false f e = e
          either false p f e = refl

      by : (row : Row) → IsLeft REFERENCES view.rows (place view op) row → (row.key.version == view.version) ≡ is_part root row
      by row was =
          let same : was.one ≡ row = sym (whole was.one was.is_in (is_part root was.one) refl) ∙ was.image in
          subst (λ (row : Row). (row.key.version == view.version) ≡ is_part root row) same (agree was.one was.is_in)

  removed_agrees : (rows : List Row) (found : Option Row) → outside root view op Delete ≡ None → removed view op false found ≡ Ok rows → Agree root view.version rows
  removed_agrees rows None inside e = cc
  removed_agrees rows (Some row) inside e = delete_agrees rows inside (same_rows (deleted REFERENCES view.rows (place view op)) rows (in_use_by (in_use REFERENCES view.rows (place view op))) e).1

  pub operated_agrees : (rows : List Row) → outside root view op op.kind ≡ None → operated view op false ≡ Ok rows → Agree root view.version rows
  unfolding operated
  operated_agrees rows inside e = by op.kind inside e
    where
      by : (kind : OpKind) → outside root view op kind ≡ None → by_kind view op false kind ≡ Ok rows → Agree root view.version rows
      by Upsert inside e = upsert_agrees rows inside e
      by Delete inside e = removed_agrees rows (row_in view.rows (place view op)) inside e

done_agrees : (root : Root) (view : View) (op : RawOp) (rows : List Row) → Agree root view.version view.rows → done_in root view op ≡ Ok rows → Agree root view.version rows
done_agrees root view op rows agree e = by (reading op) e
  where
    inside : (read : Op) (key : Option Key) → outside root view read read.kind ≡ key → unless_outside view read key ≡ Ok rows → Agree root view.version rows
    inside read None f g = operated_agrees root view read agree rows f g
    inside read (Some key) f g = cc

    versioned : (read : Op) (broken : Option Broken) → unless_not_versioned root view read broken ≡ Ok rows → Agree root view.version rows
    versioned read None f = inside read (outside root view read read.kind) refl f
    versioned read (Some broken) f = cc

    by : (result : Result Op Broken) → if_read_in root view result ≡ Ok rows → Agree root view.version rows
    by (Err broken) f = cc
    by (Ok read) f = versioned read (not_versioned read) f

-- ---- a batch

pub batch_agrees : (root : Root) (view : View) (number : ℕ) (ops : List RawOp) (rows : List Row) → Agree root view.version view.rows → batch_in root view number ops ≡ Ok rows → Agree root view.version rows
batch_agrees root view number [] rows agree e = let same : view.rows ≡ rows = cc in subst (Agree root view.version) same agree
batch_agrees root view number (op ∷ rest) rows agree e = by (λ next f. batch_agrees root (record view { rows = next }) (suc number) rest rows f) (done_in root view op) refl e
  where
    by : ((next : List Row) → Agree root view.version next → batch_in root (record view { rows = next }) (suc number) rest ≡ Ok rows → Agree root view.version rows) → (result : Result (List Row) Broken) → done_in root view op ≡ result
        → numbered number result (λ next. batch_in root (record view { rows = next }) (suc number) rest) ≡ Ok rows → Agree root view.version rows
    by more (Err broken) f g = cc
    by more (Ok next) f g = more next (done_agrees root view op next agree f) g

-- the rows of the version, in the order of places, are then those that it edits
pub agreed : (root : Root) (version : ℕ) (rows : List Row) → Agree root version rows → of_version version rows ≡ filter (is_part root) rows
agreed root version rows agree = filter_agree_on (λ row. row.key.version == version) (is_part root) rows agree

-- ---- what a draft shows at first

of_puts : (others rows : List Row) (row : Row) → IsIn row (fold with_row rows others) → IsIn row rows ⊎ IsIn row others
of_puts [] rows row i = inl i
of_puts (other ∷ others) rows row i = by (of_puts others (with_row rows other) row i)
  where
    one : (other ≡ row) ⊎ IsIn row rows → IsIn row rows ⊎ IsIn row (other ∷ others)
    one (inl e) = inr (inl e)
    one (inr j) = inl j

    by : IsIn row (with_row rows other) ⊎ IsIn row others → IsIn row rows ⊎ IsIn row (other ∷ others)
    by (inl j) = one (put_of place_cmp row_key rows other row j)
    by (inr j) = inr (inr j)

pub shown_agrees : (rows : List Row) (version : ℕ) (root : Root) → list_all (passes_draft rows) rows ≡ true → version ≢ 0 → root_in rows version ≡ Some root → Agree root version (over rows version root)
unfolding over
shown_agrees rows version root passes n rooted row i = by (of_puts (of_version version rows) (filter (is_open root (of_version version rows)) (live rows)) row i)
  where
    own : IsIn row rows → row.key.version ≡ version → (row.key.version == version) ≡ is_part root row
    own j v =
        let edits : (is_live row || is_part_of (root_in rows row.key.version) row) ≡ true = (and_parts _ _ (all_at (passes_draft rows) rows row passes j)).0 in
        let not_live : is_live row ≡ false = ne_eqb row.key.version 0 (λ z. n (sym v ∙ z)) in
        let part : is_part_of (root_in rows row.key.version) row ≡ true = sym (ap (λ b. b || is_part_of (root_in rows row.key.version) row) not_live) ∙ edits in
        let same : root_in rows row.key.version ≡ Some root = ap (root_in rows) v ∙ rooted in
        eq-eqb row.key.version version v ∙ sym (sym (ap (λ (o : Option Root). is_part_of o row) same) ∙ part)

    by : IsIn row (filter (is_open root (of_version version rows)) (live rows)) ⊎ IsIn row (of_version version rows) → (row.key.version == version) ≡ is_part root row
    by (inl j) =
        let shows = of_filter (is_open root (of_version version rows)) (live rows) row j in
        let alive = of_filter is_live rows row shows.is_in in
        let zero : row.key.version ≡ 0 = eqb-true row.key.version 0 alive.passes in
        let closed : not (is_part root row) ≡ true = (and_parts (not (is_part root row)) (is_none (row_in (of_version version rows) row.key)) shows.passes).0 in
        ne_eqb row.key.version version (λ same. n (sym same ∙ zero)) ∙ sym (not-true (is_part root row) closed)
    by (inr j) =
        let found = of_filter (λ row. row.key.version == version) rows row j in
        own found.is_in (eqb-true row.key.version version found.passes)

pub drafts_show_their_parts : DraftsShowTheirParts
drafts_show_their_parts = record { at_first = shown_agrees; batches = batch_agrees; are = agreed }
