-- What is done with a draft changes nothing beside it.
use Rattle.std.proofs.Common.{◌≡◌, ℕ, Bool, true, false, not, ◌⊎◌, inl, inr, List, [], ◌∷◌, ◌++◌, refl, sym, ap, subst, ◌∙◌, Option, Some, None}
use Rattle.std.specs.Prelude.{filter, map, length, is_some, ◌==◌, ◌&&◌, ◌||◌, if◌then◌else◌, Result, Ok, Err}
use Rattle.std.specs.List.{AllByRecursion}
use Rattle.std.specs.declared.cmp.Ordering.{Ordering}
use Rattle.std.specs.declared.cmp.Ordering.TheVariants.{Less, Equal, Greater}
use Rattle.std.proofs.lemmas.Bool.{eqb-true, eq-eqb}
use Rattle.keyed.specs.Keyed.{put}
use Rattle.shop_defs.specs.declared.broken.Broken.{Broken}
use Rattle.shop_defs.specs.declared.broken.Broken.TheVariants as B
use Rattle.shop_defs.specs.declared.entity.Entity.{Entity}
use Rattle.shop_defs.specs.declared.key.Key.{Key}
use Rattle.shop_requests.specs.declared.raw.RawOp.{RawOp}
use Rattle.shop_defs.specs.declared.refused.Refused.{Refused}
use Rattle.shop_defs.specs.declared.row.Row.{Row}
use Rattle.shop_defs.specs.Keys.{key_cmp}
use Rattle.shop_defs.specs.Rows.{row_key, row_at}
use Rattle.shop_defs.specs.Tables.{entity_named}
use Rattle.shop_operations.specs.Operations.{operated}
use Rattle.shop_operations.specs.References.{is_live, live, of_version}
use Rattle.shop_operations.specs.Views.{View, live_view, drafted}
use Rattle.shop_defs.specs.declared.op.Op.{Op}
use Rattle.shop_drafts.proofs.Keys.{found_key, key_is}
use Rattle.shop_soundness.proofs.Lists.{of_each, each_of}
use Rattle.shop_soundness.proofs.Made.{operations_make_up_nothing}
use Rattle.shop_soundness.specs.Origins.{HadRow}
use Rattle.shop_drafts.specs.Aggregates.{is_part}
use Rattle.shop_drafts.specs.Drafts.{draft_key, root_of, draft_view}
use Rattle.shop_drafts.specs.Making.{with_rows, make_draft, made, made_of, made_rows, making_breaks, copies, at_version, new_draft, dropped, drop_draft, is_of_draft}
use Rattle.shop_drafts.specs.Merging.{Logged, log, replayed, named_by, merge, merged_with, with_live}
use Rattle.shop_drafts.specs.Writing.{written, draft_write, write_in, write_with, write_shown, batch_in, is_log_full, log_full, read_all, without_version, next_number, with_commits, new_commit}
use Rattle.shop_soundness.proofs.Accepted.{same_rows}
use Rattle.shop_drafts.specs.declared.aggregate.Root.{Root}

-- ---- a test that goes by the key alone

module _ (p : Row → Bool) (by_key : (a b : Row) → a.key ≡ b.key → p a ≡ p b) where
  -- what fails it may be put anywhere
  filter-put : (rows : List Row) (row : Row) → p row ≡ false → filter p (put key_cmp row_key rows row) ≡ filter p rows
  filter-put [] row e = rw e refl
  filter-put (x ∷ rows) row e = by (filter-put rows row e) (key_cmp x.key row.key) refl
    where
      head : (b : Bool) → p x ≡ b → filter p (put key_cmp row_key rows row) ≡ filter p rows → filter p (x ∷ put key_cmp row_key rows row) ≡ filter p (x ∷ rows)
      head true f more = rw f (ap (λ ys. x ∷ ys) more)
      head false f more = rw f more

      by : filter p (put key_cmp row_key rows row) ≡ filter p rows → (o : Ordering) → key_cmp x.key row.key ≡ o → filter p (put key_cmp row_key (x ∷ rows) row) ≡ filter p (x ∷ rows)
      by more Less f = rw f (head (p x) refl more)
      by more Equal f = let fails : p x ≡ false = by_key x row (key_is x.key row.key f) ∙ e in rw (f, e, fails) refl
      by more Greater f = rw (f, e) refl

  pub filter-with : (others rows : List Row) → AllByRecursion (λ row. p row ≡ false) others → filter p (with_rows rows others) ≡ filter p rows
  filter-with [] rows all = refl
  filter-with (row ∷ others) rows all = filter-with others (put key_cmp row_key rows row) all.1 ∙ filter-put rows row all.0

pub of_draft_by_key : (version : ℕ) (a b : Row) → a.key ≡ b.key → not (is_of_draft version a) ≡ not (is_of_draft version b)
of_draft_by_key version a b e = rw e refl

pub live_by_key : (a b : Row) → a.key ≡ b.key → not (is_live a) ≡ not (is_live b)
live_by_key a b e = rw e refl

abbrev pub AreOf : ℕ → List Row → Type 0
AreOf version rows = AllByRecursion (λ row. not (is_of_draft version row) ≡ false) rows

-- ---- making

pub copied_of : (version : ℕ) (rows : List Row) → AreOf version (map (at_version version) rows)
copied_of version [] = tt
copied_of version (row ∷ rows) = (rw (eq-eqb version version refl) refl, copied_of version rows)

pub and_one : (version : ℕ) (rows : List Row) (row : Row) → AreOf version rows → not (is_of_draft version row) ≡ false → AreOf version (rows ++ row ∷ [])
and_one version [] row all e = (e, tt)
and_one version (x ∷ rows) row all e = (all.0, and_one version rows row all.1 e)

pub new_of : (version : ℕ) (root : Root) → not (is_of_draft version (new_draft version root)) ≡ false
new_of version root = by (0 == version)
  where
    by : (b : Bool) → not (b || (((version == version) && true) || false)) ≡ false
    by true = refl
    by false = rw (eq-eqb version version refl) refl

pub made_apart : (rows : List Row) (version : ℕ) (root : Root) → dropped (made rows version root) version ≡ dropped rows version
unfolding dropped made
made_apart rows version root =
    filter-with (λ row. not (is_of_draft version row)) (of_draft_by_key version) (made_rows rows version root) rows
    (and_one version (copies rows version root) (new_draft version root) (copied_of version (filter (is_part root) (live rows))) (new_of version root))

-- an accepted making
pub record IsMade (rows after : List Row) (version : ℕ) : Type 0 where
  pub root : Root
  pub unbroken : making_breaks rows version root ≡ None
  pub is : made rows version root ≡ after

pub made_is : (rows after : List Row) (version : ℕ) (name : List ℕ) (id : ℕ) → make_draft rows version name id ≡ Ok after → IsMade rows after version
unfolding make_draft
made_is rows after version name id e = by (entity_named name) e
  where
    by : (o : Option Entity) → made_of rows version id o ≡ Ok after → IsMade rows after version
    by None f = cc
    by (Some entity) f =
        let root : Root = record { entity = entity; id = id } in
        let same = same_rows (made rows version root) after (making_breaks rows version root) f in
        record { root = root; unbroken = same.0; is = same.1 }

pub making : (rows after : List Row) (version : ℕ) (name : List ℕ) (id : ℕ) → make_draft rows version name id ≡ Ok after → dropped after version ≡ dropped rows version
making rows after version name id e = let m = made_is rows after version name id e in ap (λ now. dropped now version) (sym m.is) ∙ made_apart rows version m.root

-- ---- writing

version_of : (version : ℕ) (rows : List Row) → AreOf version (of_version version rows)
version_of version [] = tt
version_of version (row ∷ rows) = by (version_of version rows) (row.key.version == version) refl
  where
    by : AreOf version (of_version version rows) → (b : Bool) → (row.key.version == version) ≡ b → AreOf version (of_version version (row ∷ rows))
    by more true e = rw e (rw e refl, more)
    by more false e = rw e more

without_is : (version : ℕ) (rows : List Row) → filter (λ row. not (is_of_draft version row)) (without_version rows version) ≡ filter (λ row. not (is_of_draft version row)) rows
without_is version [] = refl
without_is version (row ∷ rows) = by (without_is version rows) (row.key.version == version) refl
  where
    rest : (b : Bool) → not (is_of_draft version row) ≡ b → filter (λ row. not (is_of_draft version row)) (without_version rows version) ≡ filter (λ row. not (is_of_draft version row)) rows → filter (λ row. not (is_of_draft version row)) (row ∷ without_version rows version) ≡ filter (λ row. not (is_of_draft version row)) (row ∷ rows)
    rest true f more = rw f (ap (λ ys. row ∷ ys) more)
    rest false f more = rw f more

    by : filter (λ row. not (is_of_draft version row)) (without_version rows version) ≡ filter (λ row. not (is_of_draft version row)) rows → (b : Bool) → (row.key.version == version) ≡ b → filter (λ row. not (is_of_draft version row)) (without_version (row ∷ rows) version) ≡ filter (λ row. not (is_of_draft version row)) (row ∷ rows)
    by more true e = rw e more
    by more false e = ap (λ b. filter (λ row. not (is_of_draft version row)) (if not b then row ∷ without_version rows version else without_version rows version)) e ∙ rest (not (is_of_draft version row)) refl more

commits_of : (version number : ℕ) (draft : Row) → draft.key ≡ draft_key version → not (is_of_draft version (with_commits number draft)) ≡ false
commits_of version number draft e = of_draft_by_key version (with_commits number draft) (record draft { key = draft_key version }) e ∙ by (0 == version)
  where
    by : (b : Bool) → not (b || (((version == version) && true) || false)) ≡ false
    by true = refl
    by false = rw (eq-eqb version version refl) refl

commit_of : (version number : ℕ) (ops : List Op) → not (is_of_draft version (new_commit version number ops)) ≡ false
commit_of version number ops = by (0 == version)
  where
    by : (b : Bool) → not (b || (false || (true && (version == version)))) ≡ false
    by true = refl
    by false = rw (eq-eqb version version refl) refl

pub written_apart : (rows : List Row) (version : ℕ) (draft : Row) (ops : List Op) (shown : List Row) → draft.key ≡ draft_key version → dropped (written rows version draft ops shown) version ≡ dropped rows version
unfolding dropped written
written_apart rows version draft ops shown e =
    let number = next_number rows version in
    filter-with (λ row. not (is_of_draft version row)) (of_draft_by_key version) (with_commits number draft ∷ new_commit version number ops ∷ []) (with_rows (without_version rows version) (of_version version shown))
    (commits_of version number draft e, (commit_of version number ops, tt))
    ∙ (filter-with (λ row. not (is_of_draft version row)) (of_draft_by_key version) (of_version version shown) (without_version rows version) (version_of version shown)
    ∙ without_is version rows)

-- an accepted batch
pub record IsWritten (rows after : List Row) (version : ℕ) (ops : List RawOp) : Type 0 where
  pub draft : Row
  pub found : row_at rows (draft_key version) ≡ Some draft
  pub key : draft.key ≡ draft_key version
  pub shown : List Row
  pub is : written rows version draft (read_all ops) shown ≡ after

pub written_is : (rows after : List Row) (version : ℕ) (ops : List RawOp) → draft_write rows version ops ≡ Ok after → IsWritten rows after version ops
unfolding draft_write
written_is rows after version ops e = by (row_at rows (draft_key version)) refl e
  where
    full : (draft : Row) (shown : List Row) (b : Bool) → row_at rows (draft_key version) ≡ Some draft → (if b then Err (log_full (length ops)) else Ok (written rows version draft (read_all ops) shown)) ≡ Ok after → IsWritten rows after version ops
    full draft shown true k f = cc
    full draft shown false k f = let same : written rows version draft (read_all ops) shown ≡ after = cc in record { draft = draft; found = k; key = found_key rows (draft_key version) draft k; shown = shown; is = same }

    shown_is : (draft : Row) (result : Result (List Row) Refused) → row_at rows (draft_key version) ≡ Some draft → write_shown rows ops version draft result ≡ Ok after → IsWritten rows after version ops
    shown_is draft (Err refused) k f = cc
    shown_is draft (Ok shown) k f = full draft shown (is_log_full rows) k f

    rooted : (draft : Row) (root : Option Root) → row_at rows (draft_key version) ≡ Some draft → write_with rows version ops draft root ≡ Ok after → IsWritten rows after version ops
    rooted draft None k f = cc
    rooted draft (Some root) k f = shown_is draft (batch_in root (draft_view rows version root) 1 ops) k f

    by : (found : Option Row) → row_at rows (draft_key version) ≡ found → write_in rows version ops found ≡ Ok after → IsWritten rows after version ops
    by None g f = cc
    by (Some draft) g f = rooted draft (root_of draft) g f

pub writing : (rows after : List Row) (version : ℕ) (ops : List RawOp) → draft_write rows version ops ≡ Ok after → dropped after version ≡ dropped rows version
writing rows after version ops e = let w = written_is rows after version ops e in ap (λ now. dropped now version) (sym w.is) ∙ written_apart rows version w.draft (read_all ops) w.shown w.key

-- ---- dropping

pub dropping : (rows after : List Row) (version : ℕ) → drop_draft rows version ≡ Ok after → after ≡ dropped rows version
unfolding drop_draft
dropping rows after version e = by (is_some (row_at rows (draft_key version))) e
  where
    by : (b : Bool) → (if b then Ok (dropped rows version) else Err (B.NoSuchVersion version)) ≡ Ok after → after ≡ dropped rows version
    by true f = let same : dropped rows version ≡ after = cc in sym same
    by false f = cc

-- ---- merging

abbrev pub AllLive : List Row → Type 0
AllLive rows = AllByRecursion (λ row. row.key.version ≡ 0) rows

-- the rows that an operation on live rows leaves are live
stays_live : (view : View) (op : Op) (rows : List Row) → view.version ≡ 0 → AllLive view.rows → operated view op true ≡ Ok rows → AllLive rows
stays_live view op rows v all e = each_of (λ row. row.key.version ≡ 0) rows (λ row i. by row ((operations_make_up_nothing view op true rows e).keys row i))
  where
    by : (row : Row) → HadRow view.rows row.key ⊎ (row.key.version ≡ view.version) → row.key.version ≡ 0
    by row (inl had) = sym (ap (λ (key : Key). key.version) had.same) ∙ of_each (λ row. row.key.version ≡ 0) view.rows had.row all had.is_in
    by row (inr new) = new ∙ v

pub replayed_live : (view : View) (entries : List Logged) (now : List Row) → view.version ≡ 0 → AllLive view.rows → replayed view entries ≡ Ok now → AllLive now
replayed_live view [] now v all e = let same : view.rows ≡ now = cc in subst AllLive same all
replayed_live view (entry ∷ rest) now v all e = by (λ rows. replayed_live (record view { rows = rows }) rest now v) (operated view entry.op true) refl e
  where
    by : ((rows : List Row) → AllLive rows → replayed (record view { rows = rows }) rest ≡ Ok now → AllLive now) → (result : Result (List Row) Broken) → operated view entry.op true ≡ result
        → named_by entry result (λ rows. replayed (record view { rows = rows }) rest) ≡ Ok now → AllLive now
    by more (Err broken) f g = cc
    by more (Ok rows) f g = more rows (stays_live view entry.op rows v all f) g

pub live_is : (rows : List Row) → AllLive (live rows)
live_is [] = tt
live_is (row ∷ rows) = by (live_is rows) (is_live row) refl
  where
    by : AllLive (live rows) → (b : Bool) → is_live row ≡ b → AllLive (live (row ∷ rows))
    by more true e = rw e (eqb-true row.key.version 0 e, more)
    by more false e = rw e more

pub fails_drafted : (rows : List Row) → AllLive rows → AllByRecursion (λ row. not (is_live row) ≡ false) rows
fails_drafted [] all = tt
fails_drafted (row ∷ rows) all = (ap not (eq-eqb row.key.version 0 all.0), fails_drafted rows all.1)

pub filter_swap : {X : Type 0} (p q : X → Bool) (xs : List X) → filter p (filter q xs) ≡ filter q (filter p xs)
filter_swap p q [] = refl
filter_swap {X} p q (x ∷ xs) = by (filter_swap p q xs) (p x) refl (q x) refl
  where
    by : filter p (filter q xs) ≡ filter q (filter p xs) → (b : Bool) → p x ≡ b → (c : Bool) → q x ≡ c → filter p (filter q (x ∷ xs)) ≡ filter q (filter p (x ∷ xs))
    by more true e true f = rw (e, f, e) (ap (λ ys. x ∷ ys) more)
    by more true e false f = rw (e, f) more
    by more false e true f = rw (e, f, e) more
    by more false e false f = rw (e, f) more

pub filter_again : {X : Type 0} (p : X → Bool) (xs : List X) → filter p (filter p xs) ≡ filter p xs
filter_again p [] = refl
filter_again {X} p (x ∷ xs) = by (filter_again p xs) (p x) refl
  where
    by : filter p (filter p xs) ≡ filter p xs → (b : Bool) → p x ≡ b → filter p (filter p (x ∷ xs)) ≡ filter p (x ∷ xs)
    by more true e = rw (e, e) (ap (λ ys. x ∷ ys) more)
    by more false e = rw e more

pub merging : (rows after : List Row) (version : ℕ) → merge rows version ≡ Ok after → drafted after ≡ dropped (drafted rows) version
unfolding merge dropped
merging rows after version e = there (is_some (row_at rows (draft_key version))) e
  where
    of_now : (now : List Row) → AllLive now → drafted (dropped (with_live rows now) version) ≡ dropped (drafted rows) version
    of_now now all =
        filter_swap (λ row. not (is_live row)) (λ row. not (is_of_draft version row)) (with_live rows now)
        ∙ ap (filter (λ row. not (is_of_draft version row))) (filter-with (λ row. not (is_live row)) live_by_key now (drafted rows) (fails_drafted now all) ∙ filter_again (λ row. not (is_live row)) rows)

    by : (result : Result (List Row) Broken) → replayed (live_view rows) (log rows version) ≡ result → merged_with rows version result ≡ Ok after → drafted after ≡ dropped (drafted rows) version
    by (Ok now) g f =
        let same : dropped (with_live rows now) version ≡ after = cc in
        ap drafted (sym same) ∙ of_now now (replayed_live (live_view rows) (log rows version) now refl (live_is rows) g)
    by (Err broken) g f = cc

    there : (b : Bool) → (if b then merged_with rows version (replayed (live_view rows) (log rows version)) else Err (B.NoSuchVersion version)) ≡ Ok after → drafted after ≡ dropped (drafted rows) version
    there true f = by (replayed (live_view rows) (log rows version)) refl f
    there false f = cc
