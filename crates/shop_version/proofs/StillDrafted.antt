-- What is done with drafts leaves rows that can be worked on.
use Rattle.std.proofs.Common.{◌≡◌, ◌≢◌, ℕ, suc, ◌+◌, ◌≤◌, Bool, true, false, not, ◌⊎◌, inl, inr, ◌&&◌, ◌||◌, ◌==◌, nat_le, List, [], ◌∷◌, length, refl, sym, ap, subst, ◌∙◌, Option, Some, None, arith}
use Rattle.std.specs.Prelude.{filter, count_by, if◌then◌else◌}
use Rattle.std.specs.List.{AllByRecursion, list_all}
use Rattle.std.specs.Option.{option_and_then}
use Rattle.std.specs.Ordering.{is_eq}
use Rattle.std.proofs.lemmas.Bool.{eq-eqb, ne_eqb, false≢true, leb-true, le-leb}
use Rattle.std.proofs.lemmas.List.Sums.{length-filter}
use Rattle.keyed.specs.Keyed.{put}
use Rattle.keyed.proofs.Changes.{find_put}
use Rattle.closure.specs.Closure.{IsIn}
use Rattle.closure.proofs.Members.{all_at, all_from, in_filter, of_filter}
use Rattle.shop_defs.specs.declared.entity.Entity.{Entity}
use Rattle.shop_defs.specs.declared.entity.Entity.TheVariants as E
use Rattle.shop_defs.specs.declared.key.Key.{Key}
use Rattle.shop_defs.specs.declared.row.Row.{Row}
use Rattle.shop_defs.specs.declared.table.TheConstants.{MOST_ROWS}
use Rattle.shop_defs.specs.Fitting.{is_writable, row_key_fits}
use Rattle.shop_defs.specs.Keys.{key_cmp}
use Rattle.shop_defs.specs.Rows.{row_key, row_at}
use Rattle.shop_defs.specs.Tables.{info_of}
use Rattle.shop_defs.proofs.EachLine.{entity_named-text}
use Rattle.shop_defs.proofs.Keys.{key_cmp_total}
use Rattle.shop_operations.specs.Deletes.{stands_at}
use Rattle.shop_operations.specs.References.{is_entity, is_live, live}
use Rattle.shop_operations.specs.Views.{drafted, IsInPlaceOrder}
use Rattle.shop_soundness.specs.WellFormed.{unwritten}
use Rattle.shop_soundness.proofs.Lists.{count_filter, each_of, of_each, put_of}
use Rattle.shop_drafts.specs.Aggregates.{is_part, is_part_by}
use Rattle.shop_drafts.specs.Damage.{passes_draft}
use Rattle.shop_drafts.specs.Drafts.{draft_key, root_of, root_in, root_with, is_commit}
use Rattle.shop_drafts.specs.Making.{with_rows, at_version, copies, new_draft, made, made_rows, is_of_draft, dropped}
use Rattle.shop_drafts.specs.Merging.{with_live}
use Rattle.shop_drafts.specs.Soundness.{AreDrafted, holds_changes, is_change}
use Rattle.shop_drafts.specs.declared.aggregate.Root.{Root}
use Rattle.shop_drafts.specs.declared.aggregate.TheConstants.{MOST_OPS}
use Rattle.shop_drafts.proofs.Apart.{AllLive, fails_drafted, filter-with, filter_again, live_by_key, made_apart}
use Rattle.shop_drafts.proofs.AtOnce.{and_last, itself, no_commits, not_of, puts_end}
use Rattle.shop_drafts.proofs.Counts.{split}
use Rattle.shop_drafts.proofs.Merged.{live_of_parts}
use Rattle.shop_drafts.proofs.Orders.{ascends_puts}
use Rattle.shop_drafts.proofs.Shown.{dropped_again, dropped_in_order, made_in_order}
use Rattle.shop_write.proofs.InOrder.{ascends_filter}
use Rattle.shop_version.proofs.Made.{each_copy}
use Rattle.shop_version.proofs.Stays.{keepers_same, part_no_commit, part_passes, plain_passes, still_passes, written_no_commit}

-- a row that is no commit holds no operations that matter
pub plain_holds : (row : Row) → is_entity E.DraftCommit row.key.entity ≡ false → holds_changes row ≡ true
plain_holds row e = ap (λ b. not b || (nat_le (length row.ops) MOST_OPS && list_all is_change row.ops)) e

-- ---- rows put among others

pub with_of : (others rows : List Row) (row : Row) → IsIn row (with_rows rows others) → IsIn row rows ⊎ IsIn row others
with_of [] rows row i = inl i
with_of (other ∷ others) rows row i = by (with_of others (put key_cmp row_key rows other) row i)
  where
    one : (other ≡ row) ⊎ IsIn row rows → IsIn row rows ⊎ IsIn row (other ∷ others)
    one (inl e) = inr (inl e)
    one (inr j) = inl j

    by : IsIn row (put key_cmp row_key rows other) ⊎ IsIn row others → IsIn row rows ⊎ IsIn row (other ∷ others)
    by (inl j) = one (put_of key_cmp row_key rows other row j)
    by (inr j) = inr (inr j)

-- a test that each row passes, and each other
pub all_with : (p : Row → Bool) (rows others : List Row) → ((row : Row) → IsIn row rows → p row ≡ true) → AllByRecursion (λ row. p row ≡ true) others → list_all p (with_rows rows others) ≡ true
all_with p rows others each all = all_from p (with_rows rows others) (λ row i. by row (with_of others rows row i))
  where
    by : (row : Row) → IsIn row rows ⊎ IsIn row others → p row ≡ true
    by row (inl j) = each row j
    by row (inr j) = of_each (λ row. p row ≡ true) others row all j

-- ---- how many commits there are

abbrev pub of_commit : Row → Bool
of_commit row = is_entity E.DraftCommit row.key.entity

pub as_few : (m n : ℕ) → m ≤ n → nat_le (n + 0) MOST_ROWS ≡ true → nat_le (m + 0) MOST_ROWS ≡ true
as_few m n less few = let most : n + 0 ≤ 200000 = leb-true (n + 0) 200000 few in le-leb (m + 0) 200000 (omega arith)

-- rows that are no commits may be put anywhere
pub count_plain : (rows others : List Row) → AllByRecursion (λ row. of_commit row ≡ false) others → count_by of_commit (with_rows rows others) ≡ count_by of_commit rows
count_plain rows others all =
    sym (length-filter of_commit (with_rows rows others))
    ∙ (ap length (filter-with of_commit (λ a b e. ap (λ (k : Key). is_entity E.DraftCommit k.entity) e) others rows all) ∙ length-filter of_commit rows)

-- ---- rows that can be worked on, each by itself

module _ (rows : List Row) (is : AreDrafted rows) where
  pub fits_at : (row : Row) → IsIn row rows → row_key_fits row.key ≡ true
  fits_at row i = all_at (λ row. row_key_fits row.key) rows row is.formed i

  pub passes_at : (row : Row) → IsIn row rows → passes_draft rows row ≡ true
  passes_at row i = all_at (passes_draft rows) rows row is.passes i

  pub holds_at : (row : Row) → IsIn row rows → holds_changes row ≡ true
  holds_at row i = all_at holds_changes rows row is.changes i

  -- ---- a draft is dropped

  module _ (version : ℕ) (not_live : version ≢ 0) where
    of_dropped : (row : Row) → IsIn row (dropped rows version) → record { is_in : IsIn row rows; passes : not (is_of_draft version row) ≡ true }
    unfolding dropped
    of_dropped row i = of_filter (λ row. not (is_of_draft version row)) rows row i

    fewer : count_by of_commit (dropped rows version) ≤ count_by of_commit rows
    unfolding dropped
    fewer = count_filter of_commit (λ row. not (is_of_draft version row)) rows

    pub dropped_drafted : AreDrafted (dropped rows version)
    dropped_drafted = record {
      in_order = dropped_in_order rows version is.in_order;
      formed = all_from (λ row. row_key_fits row.key) (dropped rows version) (λ row i. fits_at row (of_dropped row i).is_in);
      passes = all_from (passes_draft (dropped rows version)) (dropped rows version)
          (λ row i. let was = of_dropped row i in still_passes rows (dropped rows version) version not_live (keepers_same rows (dropped rows version) version (dropped_again rows version)) row (fits_at row was.is_in) was.passes (passes_at row was.is_in));
      changes = all_from holds_changes (dropped rows version) (λ row i. holds_at row (of_dropped row i).is_in);
      bounded = as_few (count_by of_commit (dropped rows version)) (count_by of_commit rows) fewer is.bounded;
    }

    -- ---- a draft is made

    module _ (root : Root) (none : row_at rows (draft_key version) ≡ None) where
      abbrev after : List Row
      after = made rows version root

      rooted : root_in (made rows version root) version ≡ Some root
      unfolding made
      rooted =
          let new = new_draft version root in
          let before = with_rows rows (copies rows version root) in
          ap (option_and_then root_of)
          (ap (λ now. row_at now (draft_key version)) (puts_end rows (copies rows version root) new)
          ∙ (find_put key_cmp row_key key_cmp_total before new (draft_key version)
          ∙ ap (λ o. if is_eq o then Some new else row_at before (draft_key version)) (itself (draft_key version))))
          ∙ ap (λ (entity : Option Entity). root_with entity (Some root.id)) (entity_named-text root.entity)

      part_moved : (row : Row) → is_part root (at_version version row) ≡ is_part root row
      unfolding is_part_by
      part_moved row = refl

      apart : (row : Row) → IsIn row rows → not (is_of_draft version row) ≡ true
      apart row i = ap not (not_of rows version not_live is.passes none row i)

      new_fits : row_key_fits (draft_key version) ≡ true
      unfolding info_of
      new_fits = rw (ne_eqb version 0 not_live) refl

      new_passes : passes_draft (made rows version root) (new_draft version root) ≡ true
      new_passes = rw (no_commits rows version root not_live is.passes none) refl

      each_made : (P : Row → Type 0) → ((row : Row) → IsIn row rows → is_part root row ≡ true → P (at_version version row)) → P (new_draft version root) → AllByRecursion P (made_rows rows version root)
      each_made P holds new = and_last P (copies rows version root) (new_draft version root) (each_copy rows version root P holds) new

      all_made : (p : Row → Bool) → ((row : Row) → IsIn row rows → p row ≡ true) → AllByRecursion (λ row. p row ≡ true) (made_rows rows version root) → list_all p (made rows version root) ≡ true
      unfolding made
      all_made p each all = all_with p rows (made_rows rows version root) each all

      same_count : count_by of_commit (made rows version root) ≡ count_by of_commit rows
      unfolding made
      same_count = count_plain rows (made_rows rows version root) (each_made (λ row. of_commit row ≡ false) (λ row i part. part_no_commit root row part) refl)

      pub made_drafted : AreDrafted (made rows version root)
      made_drafted = record {
        in_order = made_in_order rows version root is.in_order;
        formed = all_made (λ row. row_key_fits row.key) (λ row i. fits_at row i) (each_made (λ row. row_key_fits row.key ≡ true) (λ row i part. fits_at row i) new_fits);
        passes = all_made (passes_draft (made rows version root))
            (λ row i. still_passes rows (made rows version root) version not_live (keepers_same rows (made rows version root) version (made_apart rows version root)) row (fits_at row i) (apart row i) (passes_at row i))
            (each_made (λ row. passes_draft (made rows version root) row ≡ true) (λ row i part. part_passes (made rows version root) (at_version version row) root rooted (part_moved row ∙ part)) new_passes);
        changes = all_made holds_changes (λ row i. holds_at row i) (each_made (λ row. holds_changes row ≡ true) (λ row i part. plain_holds (at_version version row) (part_no_commit root row part)) refl);
        bounded = as_few (count_by of_commit (made rows version root)) (count_by of_commit rows) (let e = same_count in omega arith) is.bounded;
      }

  -- ---- the live rows are replaced

  module _ (now : List Row) (alive : AllLive now) (up : IsInPlaceOrder now) (formed : list_all (λ row. row_key_fits row.key) now ≡ true) (others : unwritten now ≡ unwritten (live rows)) where
    live_now : live (with_live rows now) ≡ now
    live_now = live_of_parts rows now is.in_order alive up

    and_no : (a b : Bool) → b ≡ false → (a && b) ≡ false
    and_no true b e = e
    and_no false b e = refl

    -- a version that the row has nothing to do with
    abbrev free : Row → ℕ
    free row = suc (row.key.version + row.key.id)

    free_apart : (row : Row) → not (is_of_draft (free row) row) ≡ true
    free_apart row =
        let version : (row.key.version == free row) ≡ false = ne_eqb row.key.version (free row) (λ e. absurd (omega arith)) in
        let id : (free row == row.key.id) ≡ false = ne_eqb (free row) row.key.id (λ e. absurd (omega arith)) in
        let id_too : (row.key.id == free row) ≡ false = ne_eqb row.key.id (free row) (λ e. absurd (omega arith)) in
        let stands : stands_at (draft_key (free row)) row ≡ false = ap (λ b. is_entity E.Draft row.key.entity && b && (0 == row.key.second)) id ∙ ap (λ b. b && (0 == row.key.second)) (and_no (is_entity E.Draft row.key.entity) false refl) in
        let commit : is_commit (free row) row ≡ false = and_no (is_live row) _ (and_no (is_entity E.DraftCommit row.key.entity) _ id_too) in
        ap (λ b. not (b || ((is_live row && stands_at (draft_key (free row)) row) || is_commit (free row) row))) version
        ∙ (ap (λ b. not (b || is_commit (free row) row)) (and_no (is_live row) _ stands) ∙ ap not commit)

    stays : (row : Row) → IsIn row rows → passes_draft (with_live rows now) row ≡ true
    stays row i =
        still_passes rows (with_live rows now) (free row) (λ e. absurd (omega arith)) (ap (λ all. dropped (unwritten all) (free row)) live_now ∙ ap (λ all. dropped all (free row)) others)
        row (fits_at row i) (free_apart row) (passes_at row i)

    was_there : (row : Row) → IsIn row now → is_writable row.key.entity ≡ false → IsIn row rows
    was_there row i e =
        let here : IsIn row (unwritten now) = in_filter (λ row. not (is_writable row.key.entity)) now row i (ap not e) in
        let there = of_filter (λ row. not (is_writable row.key.entity)) (live rows) row (subst (λ (all : List Row). IsIn row all) others here) in
        (of_filter is_live rows row there.is_in).is_in

    of_drafts : (row : Row) → IsIn row (drafted rows) → IsIn row rows
    of_drafts row i = (of_filter (λ row. not (is_live row)) rows row i).is_in

    now_passes : (row : Row) → IsIn row now → (b : Bool) → is_writable row.key.entity ≡ b → passes_draft (with_live rows now) row ≡ true
    now_passes row i true e = plain_passes (with_live rows now) row (eq-eqb row.key.version 0 (of_each (λ row. row.key.version ≡ 0) now row alive i)) e
    now_passes row i false e = stays row (was_there row i e)

    now_holds : (row : Row) → IsIn row now → (b : Bool) → is_writable row.key.entity ≡ b → holds_changes row ≡ true
    now_holds row i true e = plain_holds row (written_no_commit row e)
    now_holds row i false e = holds_at row (was_there row i e)

    -- commits are among what operations may not write
    few_commits : count_by of_commit (with_live rows now) ≤ count_by of_commit rows
    few_commits =
        let after_is = split of_commit is_live (with_live rows now) in
        let before_is = split of_commit is_live rows in
        let alive_is : count_by of_commit (live (with_live rows now)) ≡ count_by of_commit (unwritten now) = ap (count_by of_commit) live_now ∙ kept_count now in
        let still : count_by of_commit (unwritten now) ≡ count_by of_commit (unwritten (live rows)) = ap (count_by of_commit) others in
        let less : count_by of_commit (unwritten (live rows)) ≤ count_by of_commit (live rows) = count_filter of_commit (λ row. not (is_writable row.key.entity)) (live rows) in
        let drafts : count_by of_commit (drafted (with_live rows now)) ≤ count_by of_commit (drafted rows) = drafts_less in
        omega arith
      where
        kept_count : (some : List Row) → count_by of_commit some ≡ count_by of_commit (unwritten some)
        kept_count some = sym (length-filter of_commit some) ∙ (ap length (same some) ∙ length-filter of_commit (unwritten some))
          where
            same : (all : List Row) → filter of_commit all ≡ filter of_commit (unwritten all)
            same [] = refl
            same (row ∷ all) = by (same all) (is_writable row.key.entity) refl (of_commit row) refl
              where
                by : filter of_commit all ≡ filter of_commit (unwritten all) → (a : Bool) → is_writable row.key.entity ≡ a → (b : Bool) → of_commit row ≡ b → filter of_commit (row ∷ all) ≡ filter of_commit (unwritten (row ∷ all))
                by more true e true f = absurd (false≢true (sym (written_no_commit row e) ∙ f))
                by more true e false f = rw (e, f) more
                by more false e true f = rw (e, f) (ap (λ ys. row ∷ ys) more)
                by more false e false f = rw (e, f) more

        drafts_less : count_by of_commit (drafted (with_live rows now)) ≤ count_by of_commit (drafted rows)
        drafts_less = let e : count_by of_commit (drafted (with_live rows now)) ≡ count_by of_commit (drafted rows) = ap (count_by of_commit) drafts_same in omega arith
          where
            drafts_same : drafted (with_live rows now) ≡ drafted rows
            drafts_same = filter-with (λ row. not (is_live row)) live_by_key now (drafted rows) (fails_drafted now alive) ∙ filter_again (λ row. not (is_live row)) rows

    pub replaced_drafted : AreDrafted (with_live rows now)
    replaced_drafted = record {
      in_order = ascends_puts key_cmp row_key key_cmp_total now (drafted rows) (ascends_filter key_cmp row_key key_cmp_total (λ row. not (is_live row)) rows is.in_order);
      formed = all_with (λ row. row_key_fits row.key) (drafted rows) now (λ row i. fits_at row (of_drafts row i)) (each_of (λ row. row_key_fits row.key ≡ true) now (λ row i. all_at (λ row. row_key_fits row.key) now row formed i));
      passes = all_with (passes_draft (with_live rows now)) (drafted rows) now (λ row i. stays row (of_drafts row i)) (each_of (λ row. passes_draft (with_live rows now) row ≡ true) now (λ row i. now_passes row i (is_writable row.key.entity) refl));
      changes = all_with holds_changes (drafted rows) now (λ row i. holds_at row (of_drafts row i)) (each_of (λ row. holds_changes row ≡ true) now (λ row i. now_holds row i (is_writable row.key.entity) refl));
      bounded = as_few (count_by of_commit (with_live rows now)) (count_by of_commit rows) few_commits is.bounded;
    }
