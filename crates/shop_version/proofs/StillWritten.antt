-- A batch in a draft leaves rows that can be worked on.
use Rattle.std.proofs.Common.{◌≡◌, ◌≢◌, ℕ, suc, ◌+◌, ◌≤◌, pos, Bool, true, false, not, ◌⊎◌, inl, inr, ◌&&◌, ◌||◌, ◌==◌, List, [], ◌∷◌, ◌++◌, length, refl, sym, ap, subst, ◌∙◌, Option, Some, None, Result, Ok, Err, arith}
use Rattle.std.specs.Prelude.{count_by, is_some, if◌then◌else◌}
use Rattle.std.specs.List.{list_all}
use Rattle.std.specs.Option.{option_and_then}
use Rattle.std.specs.Ordering.{int_eq, is_eq}
use Rattle.std.proofs.lemmas.Bool.{and_parts, and_from, eqb-true, eq-eqb, ne_eqb, false≢true, le-leb, ltb-false}
use Rattle.std.proofs.lemmas.Cmp.{int_eq_equiv}
use Rattle.keyed.specs.Keyed.{put}
use Rattle.keyed.proofs.Changes.{ascends_put, find_put}
use Rattle.closure.specs.Closure.{IsIn}
use Rattle.closure.proofs.Members.{all_at, all_from, of_filter}
use Rattle.shop_defs.specs.declared.broken.Broken.{Broken}
use Rattle.shop_defs.specs.declared.broken.Broken.TheVariants as B
use Rattle.shop_defs.specs.declared.entity.Entity.TheVariants as E
use Rattle.shop_defs.specs.declared.key.Key.{Key}
use Rattle.shop_defs.specs.declared.op.Op.{Op}
use Rattle.shop_defs.specs.declared.refused.Refused.{Refused}
use Rattle.shop_defs.specs.declared.row.Row.{Row}
use Rattle.shop_defs.specs.declared.table.EntityInfo.{EntityInfo}
use Rattle.shop_defs.specs.declared.value.Value.{Value}
use Rattle.shop_defs.specs.declared.value.Value.TheVariants as V
use Rattle.shop_defs.specs.Entities.{entity_number}
use Rattle.shop_defs.specs.Fitting.{op_fits, row_key_fits}
use Rattle.shop_defs.specs.Keys.{key_cmp}
use Rattle.shop_defs.specs.Rows.{row_key, row_at, field_of, IsInKeyOrder}
use Rattle.shop_defs.specs.Tables.{info_named, info_of}
use Rattle.shop_defs.proofs.Keys.{key_cmp_total}
use Rattle.shop_operations.specs.Operations.{operated}
use Rattle.shop_operations.specs.References.{is_entity, is_live, of_version, ident}
use Rattle.shop_operations.specs.Views.{View}
use Rattle.shop_operations.proofs.Fields.{put_other, put_same}
use Rattle.shop_requests.specs.declared.raw.RawOp.{RawOp}
use Rattle.shop_requests.specs.Operations.{reading, reading_as, refusal, read, if_writable, unless_refused}
use Rattle.shop_requests.proofs.ReadFits.{read_fits, read_key_fits}
use Rattle.shop_rows.proofs.Same.{itself_equal}
use Rattle.shop_soundness.specs.Batches.{numbered}
use Rattle.shop_soundness.proofs.Lists.{count_filter, each_of, put_count}
use Rattle.shop_drafts.specs.Aggregates.{has_versions, is_part}
use Rattle.shop_drafts.specs.Damage.{passes_draft, count_up, is_number, has_draft, is_part_of}
use Rattle.shop_drafts.specs.Drafts.{draft_key, commit_key, root_of, root_in, root_with, named_entity, commits, is_commit, draft_view}
use Rattle.shop_drafts.specs.Laws.{Agree}
use Rattle.shop_drafts.specs.Making.{with_rows, is_of_draft}
use Rattle.shop_drafts.specs.Soundness.{AreDrafted, holds_changes, is_change}
use Rattle.shop_drafts.specs.Writing.{written, without_version, with_commits, new_commit, read_all, draft_write, write_in, write_with, write_shown, is_log_full, log_full, batch_in, done_in, if_read_in, unless_not_versioned, unless_outside, outside, not_versioned}
use Rattle.shop_drafts.specs.declared.aggregate.Root.{Root}
use Rattle.shop_drafts.specs.declared.aggregate.TheConstants.{COMMITS}
use Rattle.shop_drafts.proofs.Apart.{written_apart}
use Rattle.shop_drafts.proofs.Keys.{found_key}
use Rattle.shop_drafts.proofs.Logs.{commits_written}
use Rattle.shop_drafts.proofs.OwnParts.{batch_agrees, shown_agrees}
use Rattle.shop_drafts.proofs.Seen.{drafts_are_views}
use Rattle.shop_drafts.proofs.Shown.{written_in_order}
use Rattle.shop_write.specs.BatchPlans.{HaveIds}
use Rattle.shop_write.proofs.Counted.{count_put, weight}
use Rattle.shop_write.proofs.InOrder.{ascends_filter, ascends_puts}
use Rattle.shop_version.specs.DraftWrites.{AreFormed}
use Rattle.shop_version.proofs.DraftAnswers.{read_few}
use Rattle.shop_version.proofs.DraftBatches.{formed_next}
use Rattle.shop_version.proofs.Found.{found_in, in_found}
use Rattle.shop_version.proofs.Kept.{draft_is, is_draft, numbered as numbered_from}
use Rattle.shop_version.proofs.Stays.{keepers_same, part_no_commit, part_passes, plain_its_commits, still_passes}
use Rattle.shop_version.proofs.StillDrafted.{count_plain, fits_at, holds_at, of_commit, passes_at, plain_holds, with_of}

-- ---- an accepted batch, taken apart

pub record IsAccepted (rows after : List Row) (version : ℕ) (ops : List RawOp) : Type 0 where
  pub draft : Row
  pub found : row_at rows (draft_key version) ≡ Some draft
  pub root : Root
  pub rooted : root_of draft ≡ Some root
  pub shown : List Row
  pub batch : batch_in root (draft_view rows version root) 1 ops ≡ Ok shown
  pub room : is_log_full rows ≡ false
  pub is : written rows version draft (read_all ops) shown ≡ after

pub accepted_is : (rows after : List Row) (version : ℕ) (ops : List RawOp) → draft_write rows version ops ≡ Ok after → IsAccepted rows after version ops
unfolding draft_write
accepted_is rows after version ops e = by (row_at rows (draft_key version)) refl e
  where
    full : (draft : Row) (root : Root) (shown : List Row) (b : Bool) → row_at rows (draft_key version) ≡ Some draft → root_of draft ≡ Some root → batch_in root (draft_view rows version root) 1 ops ≡ Ok shown → is_log_full rows ≡ b
        → (if b then Err (log_full (length ops)) else Ok (written rows version draft (read_all ops) shown)) ≡ Ok after → IsAccepted rows after version ops
    full draft root shown true k r d l f = cc
    full draft root shown false k r d l f =
        let same : written rows version draft (read_all ops) shown ≡ after = cc in
        record { draft = draft; found = k; root = root; rooted = r; shown = shown; batch = d; room = l; is = same }

    shown_is : (draft : Row) (root : Root) (result : Result (List Row) Refused) → row_at rows (draft_key version) ≡ Some draft → root_of draft ≡ Some root → batch_in root (draft_view rows version root) 1 ops ≡ result → write_shown rows ops version draft result ≡ Ok after → IsAccepted rows after version ops
    shown_is draft root (Err refused) k r d f = cc
    shown_is draft root (Ok shown) k r d f = full draft root shown (is_log_full rows) k r d refl f

    rooted : (draft : Row) (root : Option Root) → row_at rows (draft_key version) ≡ Some draft → root_of draft ≡ root → write_with rows version ops draft root ≡ Ok after → IsAccepted rows after version ops
    rooted draft None k r f = cc
    rooted draft (Some root) k r f = shown_is draft root (batch_in root (draft_view rows version root) 1 ops) k r refl f

    by : (found : Option Row) → row_at rows (draft_key version) ≡ found → write_in rows version ops found ≡ Ok after → IsAccepted rows after version ops
    by None g f = cc
    by (Some draft) g f = rooted draft (root_of draft) g refl f

-- ---- its operations

reads_fit : (op : RawOp) (done : Op) → op.id ≢ 0 → reading op ≡ Ok done → op_fits done ≡ true
unfolding reading read
reads_fit op done there e = by_line (if_writable (info_named op.entity)) refl e
  where
    by_rule : (info : EntityInfo) → if_writable (info_named op.entity) ≡ Some info → (rule : Option Broken) → refusal info op ≡ rule → unless_refused rule (read info op) ≡ Ok done → op_fits done ≡ true
    by_rule info named (Some broken) none f = cc
    by_rule info named None none f =
        let fits : op_fits (read info op) ≡ true = and_from _ _ (read_key_fits op.entity info op named none there) (read_fits info op none) in
        let same : read info op ≡ done = cc in
        subst (λ (o : Op). op_fits o ≡ true) same fits

    by_line : (line : Option EntityInfo) → if_writable (info_named op.entity) ≡ line → reading_as line op ≡ Ok done → op_fits done ≡ true
    by_line None named f = cc
    by_line (Some info) named f = by_rule info named (refusal info op) refl f

-- an operation that is done in a draft: commits may hold it
record IsDoneIn (view : View) (op : RawOp) (rows : List Row) : Type 0 where
  read : Op
  is : reading op ≡ Ok read
  change : is_change read ≡ true
  done : operated view read false ≡ Ok rows

done_is : (root : Root) (view : View) (op : RawOp) (rows : List Row) → op.id ≢ 0 → done_in root view op ≡ Ok rows → IsDoneIn view op rows
done_is root view op rows there e = by (reading op) refl e
  where
    inside : (read : Op) (key : Option Key) → reading op ≡ Ok read → has_versions read.entity ≡ true → unless_outside view read key ≡ Ok rows → IsDoneIn view op rows
    inside read None g v f = record { read = read; is = g; change = and_from (has_versions read.entity) (op_fits read) v (reads_fit op read there g); done = f }
    inside read (Some key) g v f = cc

    versioned : (read : Op) (b : Bool) → reading op ≡ Ok read → has_versions read.entity ≡ b → unless_not_versioned root view read (not_versioned read) ≡ Ok rows → IsDoneIn view op rows
    versioned read true g v f =
        let none : not_versioned read ≡ None = rw v refl in
        inside read (outside root view read read.kind) g v (sym (ap (unless_not_versioned root view read) none) ∙ f)
    versioned read false g v f =
        let some : not_versioned read ≡ Some (B.NotVersioned read.entity) = rw v refl in
        let no : unless_not_versioned root view read (Some (B.NotVersioned read.entity)) ≡ Ok rows = sym (ap (unless_not_versioned root view read) some) ∙ f in
        cc

    by : (result : Result Op Broken) → reading op ≡ result → if_read_in root view result ≡ Ok rows → IsDoneIn view op rows
    by (Err broken) g f = cc
    by (Ok read) g f = versioned read (has_versions read.entity) g refl f

-- ---- the batch

pub record BatchHolds (ops : List RawOp) (rows : List Row) : Type 0 where
  pub formed : AreFormed rows
  pub held : list_all is_change (read_all ops) ≡ true

pub batch_holds : (root : Root) (view : View) (number : ℕ) (ops : List RawOp) (rows : List Row) → AreFormed view.rows → HaveIds ops → batch_in root view number ops ≡ Ok rows → BatchHolds ops rows
batch_holds root view number [] rows formed ids e = let same : view.rows ≡ rows = cc in record { formed = subst AreFormed same formed; held = refl }
batch_holds root view number (op ∷ rest) rows formed ids e = by (λ next f. batch_holds root (record view { rows = next }) (suc number) rest rows f ids.1) (done_in root view op) refl e
  where
    by : ((next : List Row) → AreFormed next → batch_in root (record view { rows = next }) (suc number) rest ≡ Ok rows → BatchHolds rest rows) → (result : Result (List Row) Broken) → done_in root view op ≡ result
        → numbered number result (λ next. batch_in root (record view { rows = next }) (suc number) rest) ≡ Ok rows → BatchHolds (op ∷ rest) rows
    by more (Err broken) f g = cc
    by more (Ok next) f g =
        let d = done_is root view op next ids.0 f in
        let rest_holds = more next (formed_next view d.read next formed (and_parts (has_versions d.read.entity) (op_fits d.read) d.change).1 d.done) g in
        record { formed = rest_holds.formed; held = rw d.is (and_from _ _ d.change rest_holds.held) }

-- ---- the draft's row with a commit more

commits_field : (draft : Row) (number : ℕ) → field_of (with_commits number draft) COMMITS ≡ Some (V.Int (pos number))
commits_field draft number = put_same draft.fields 3 (V.Int (pos number))

same_root : (draft : Row) (number : ℕ) → root_of (with_commits number draft) ≡ root_of draft
same_root draft number =
    ap (λ (name : Option Value). root_with (named_entity name) (ident (field_of (with_commits number draft) 2))) (put_other draft.fields 1 3 (V.Int (pos number)) refl)
    ∙ ap (λ (id : Option Value). root_with (named_entity (field_of draft 1)) (ident id)) (put_other draft.fields 2 3 (V.Int (pos number)) refl)

is_itself : (number : ℕ) → int_eq (pos number) (pos number) ≡ true
is_itself number = int_eq_equiv.refl (pos number)

count_up_end : (from : ℕ) (rows : List Row) (row : Row) → count_up from rows ≡ true → row.key.second ≡ from + length rows → count_up from (rows ++ row ∷ []) ≡ true
count_up_end from [] row up e = let s : row.key.second ≡ from = e ∙ omega arith in and_from _ _ (eq-eqb row.key.second from s) refl
count_up_end from (x ∷ rows) row up e =
    let parts = and_parts (x.key.second == from) (count_up (suc from) rows) up in
    let s : row.key.second ≡ suc from + length rows = e ∙ omega arith in
    and_from _ _ parts.0 (count_up_end (suc from) rows row parts.1 s)

length_end : {X : Type 0} (xs : List X) (x : X) → length (xs ++ x ∷ []) ≡ length xs + 1
length_end [] x = refl
length_end (y ∷ xs) x = let more = length_end xs x in omega arith

-- ---- the rows after it

module _ (rows after : List Row) (version : ℕ) (ops : List RawOp) (is : AreDrafted rows) (not_live : version ≢ 0) (few : length ops ≤ 1000) (ids : HaveIds ops) (w : IsAccepted rows after version ops) where
  abbrev d : Row
  d = with_commits (length (commits rows version) + 1) w.draft

  abbrev c : Row
  c = new_commit version (length (commits rows version) + 1) (read_all ops)

  abbrev own : List Row
  own = of_version version w.shown

  abbrev rest : List Row
  rest = without_version rows version

  abbrev now : List Row
  now = written rows version w.draft (read_all ops) w.shown

  key : w.draft.key ≡ draft_key version
  key = found_key rows (draft_key version) w.draft w.found

  draft_in : IsIn w.draft rows
  draft_in = in_found rows (draft_key version) w.draft w.found

  found_d : row_at (written rows version w.draft (read_all ops) w.shown) (draft_key version) ≡ Some (with_commits (length (commits rows version) + 1) w.draft)
  unfolding written
  found_d =
      let one = with_commits (length (commits rows version) + 1) w.draft in
      let two = new_commit version (length (commits rows version) + 1) (read_all ops) in
      let before = with_rows (without_version rows version) (of_version version w.shown) in
      find_put key_cmp row_key key_cmp_total (put key_cmp row_key before one) two (draft_key version)
      ∙ (find_put key_cmp row_key key_cmp_total before one (draft_key version)
      ∙ ap (λ o. if is_eq o then Some one else row_at before (draft_key version)) (ap (λ (k : Key). key_cmp k (draft_key version)) key ∙ itself_equal key_cmp key_cmp_total (draft_key version)))

  up : IsInKeyOrder now
  up = written_in_order rows version w.draft (read_all ops) w.shown is.in_order

  rooted : root_in now version ≡ Some w.root
  rooted = ap (option_and_then root_of) found_d ∙ (same_root w.draft (length (commits rows version) + 1) ∙ w.rooted)

  counts : (count_up 1 (commits rows version) ≡ true) × (is_number (field_of w.draft COMMITS) (length (commits rows version)) ≡ true)
  counts = and_parts _ _ (numbered_from rows version is not_live w.draft w.found)

  commits_now : commits now version ≡ commits rows version ++ c ∷ []
  commits_now = commits_written rows version w.draft (read_all ops) w.shown is.in_order not_live key counts.0

  holds : BatchHolds ops w.shown
  holds = batch_holds w.root (draft_view rows version w.root) 1 ops w.shown (drafts_are_views.formed rows version w.root is.formed) ids w.batch

  agree : Agree w.root version w.shown
  agree = batch_agrees w.root (draft_view rows version w.root) 1 ops w.shown (shown_agrees rows version w.root is.passes not_live (ap (option_and_then root_of) w.found ∙ w.rooted)) w.batch

  record OfOwn (row : Row) : Type 0 where
    shown : IsIn row w.shown
    version_is : row.key.version ≡ version
    part : is_part w.root row ≡ true

  of_own : (row : Row) → IsIn row own → OfOwn row
  of_own row i =
      let f = of_filter (λ row. row.key.version == version) w.shown row i in
      record { shown = f.is_in; version_is = eqb-true row.key.version version f.passes; part = sym (agree row f.is_in) ∙ f.passes }

  of_rest : (row : Row) → IsIn row rest → record { is_in : IsIn row rows; passes : not (row.key.version == version) ≡ true }
  of_rest row i = of_filter (λ row. not (row.key.version == version)) rows row i

  -- what holds of each of them
  all_now : (p : Row → Bool) → ((row : Row) → IsIn row rest → IsIn row now → p row ≡ true) → ((row : Row) → IsIn row own → p row ≡ true) → p d ≡ true → p c ≡ true → list_all p now ≡ true
  unfolding written
  all_now p of_rows of_parts at_d at_c = all_from p now (λ row i. by row i (with_of (d ∷ c ∷ []) (with_rows rest own) row i))
    where
      inner : (row : Row) → IsIn row now → IsIn row rest ⊎ IsIn row own → p row ≡ true
      inner row i (inl j) = of_rows row j i
      inner row i (inr j) = of_parts row j

      by : (row : Row) → IsIn row now → IsIn row (with_rows rest own) ⊎ IsIn row (d ∷ c ∷ []) → p row ≡ true
      by row i (inl j) = inner row i (with_of own rest row j)
      by row i (inr (inl e)) = subst (λ (r : Row). p r ≡ true) e at_d
      by row i (inr (inr (inl e))) = subst (λ (r : Row). p r ≡ true) e at_c
      by row i (inr (inr (inr j))) = absurd j

  -- ---- the rule on drafts

  d_passes : passes_draft now d ≡ true
  d_passes =
      let same : length (commits now version) ≡ length (commits rows version) + 1 = ap length commits_now ∙ length_end (commits rows version) c in
      let up_to : count_up 1 (commits now version) ≡ true = ap (count_up 1) commits_now ∙ count_up_end 1 (commits rows version) c counts.0 (omega arith) in
      let tells : is_number (field_of d COMMITS) (length (commits now version)) ≡ true = ap (λ n. is_number (field_of d COMMITS) n) same ∙ (ap (λ (value : Option Value). is_number value (length (commits rows version) + 1)) (commits_field w.draft (length (commits rows version) + 1)) ∙ is_itself (length (commits rows version) + 1)) in
      subst (λ (k : Key). passes_draft now (record d { key = k }) ≡ true) (sym key) (and_from _ _ refl (and_from _ _ refl (and_from _ _ up_to tells)))

  there : has_draft now version ≡ true
  there = ap is_some found_d

  commit_passes : (row : Row) → is_commit version row ≡ true → passes_draft now row ≡ true
  commit_passes row e =
      let parts = and_parts (is_live row) (is_entity E.DraftCommit row.key.entity && (row.key.id == version)) e in
      let more = and_parts (is_entity E.DraftCommit row.key.entity) (row.key.id == version) parts.1 in
      let id : row.key.id ≡ version = eqb-true row.key.id version more.1 in
      and_from _ _ (ap (λ b. b || is_part_of (root_in now row.key.version) row) parts.0)
      (and_from _ _ (ap (λ b. not b || has_draft now row.key.id) more.0 ∙ (ap (λ n. has_draft now n) id ∙ there)) (plain_its_commits now row (commit_no_draft row more.0)))
    where
      commit_no_draft : (row : Row) → is_entity E.DraftCommit row.key.entity ≡ true → is_entity E.Draft row.key.entity ≡ false
      commit_no_draft row e =
          let same : 25 ≡ entity_number row.key.entity = eqb-true 25 (entity_number row.key.entity) e in
          ap (λ n. 24 == n) (sym same)

  some_is : (a b : Row) → Some a ≡ Some b → a ≡ b
  some_is a b e = cc

  -- the draft's row that was there isn't there any more
  at_key : (row : Row) → IsIn row now → row.key ≡ draft_key version → d ≡ row
  at_key row i e = some_is d row (sym found_d ∙ subst (λ (k : Key). row_at now k ≡ Some row) e (found_in now row up i))

  rest_passes : (row : Row) → IsIn row rest → IsIn row now → passes_draft now row ≡ true
  rest_passes row i j = by (row.key.version == version) refl (is_draft version row) refl (is_commit version row) refl
    where
      was : record { is_in : IsIn row rows; passes : not (row.key.version == version) ≡ true }
      was = of_rest row i

      by : (a : Bool) → (row.key.version == version) ≡ a → (b : Bool) → is_draft version row ≡ b → (e : Bool) → is_commit version row ≡ e → passes_draft now row ≡ true
      by true f b g e h = absurd (false≢true (sym (ap not f) ∙ was.passes))
      by false f true g e h = subst (λ (r : Row). passes_draft now r ≡ true) (at_key row j (draft_is version row g)) d_passes
      by false f false g true h = commit_passes row h
      by false f false g false h =
          let apart : not (is_of_draft version row) ≡ true = rw (f, g, h) refl in
          still_passes rows now version not_live (keepers_same rows now version (written_apart rows version w.draft (read_all ops) w.shown key)) row (fits_at rows is row was.is_in) apart (passes_at rows is row was.is_in)

  own_passes : (row : Row) → IsIn row own → passes_draft now row ≡ true
  own_passes row i = let o = of_own row i in part_passes now row w.root (ap (root_in now) o.version_is ∙ rooted) o.part

  -- ---- how many commits there are

  few_now : count_by of_commit now ≤ count_by of_commit rows + 1
  unfolding written
  few_now =
      let before = with_rows rest own in
      let plain : count_by of_commit before ≡ count_by of_commit rest = count_plain rest own (each_of (λ row. of_commit row ≡ false) own (λ row i. part_no_commit w.root row (of_own row i).part)) in
      let less : count_by of_commit rest ≤ count_by of_commit rows = count_filter of_commit (λ row. not (row.key.version == version)) rows in
      let at_d : of_commit d ≡ false = ap (λ (k : Key). is_entity E.DraftCommit k.entity) key in
      let one : count_by of_commit (put key_cmp row_key before d) ≤ count_by of_commit before = put_count key_cmp row_key of_commit before d at_d in
      let before_up : IsInKeyOrder before = ascends_puts key_cmp row_key key_cmp_total own rest (ascends_filter key_cmp row_key key_cmp_total (λ row. not (row.key.version == version)) rows is.in_order) in
      let two : count_by of_commit (put key_cmp row_key (put key_cmp row_key before d) c) + weight of_commit (row_at (put key_cmp row_key before d) c.key) ≡ count_by of_commit (put key_cmp row_key before d) + 1 = count_put key_cmp row_key key_cmp_total of_commit (put key_cmp row_key before d) c (ascends_put key_cmp row_key key_cmp_total before d before_up) in
      omega arith

  c_fits : row_key_fits (commit_key version (length (commits rows version) + 1)) ≡ true
  unfolding info_of
  c_fits = rw (ne_eqb version 0 not_live, ne_eqb (length (commits rows version) + 1) 0 (λ e. absurd (omega arith))) refl

  c_holds : holds_changes c ≡ true
  c_holds = let all : length (read_all ops) ≤ 1000 = (let less = read_few ops in omega arith) in and_from _ _ (le-leb (length (read_all ops)) 1000 all) holds.held

  now_drafted : AreDrafted now
  now_drafted = record {
    in_order = up;
    formed = all_now (λ row. row_key_fits row.key) (λ row i j. fits_at rows is row (of_rest row i).is_in) (λ row i. all_at (λ row. row_key_fits row.key) w.shown row holds.formed (of_own row i).shown) (fits_at rows is w.draft draft_in) c_fits;
    passes = all_now (passes_draft now) rest_passes own_passes d_passes (commit_passes c (eq-eqb version version refl));
    changes = all_now holds_changes (λ row i j. holds_at rows is row (of_rest row i).is_in) (λ row i. plain_holds row (part_no_commit w.root row (of_own row i).part)) (plain_holds d (ap (λ (k : Key). is_entity E.DraftCommit k.entity) key)) c_holds;
    bounded = let most : count_by of_commit rows + 0 + 1 ≤ 200000 = ltb-false 200000 (count_by of_commit rows + 0 + 1) w.room in let f = few_now in le-leb (count_by of_commit now + 0) 200000 (omega arith);
  }

  pub written_drafted : AreDrafted after
  written_drafted = subst AreDrafted w.is now_drafted
