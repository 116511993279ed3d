-- What a merge changes: what its replay does, and then what dropping does.
use Rattle.std.proofs.Common.{◌≡◌, ◌≢◌, ℕ, suc, Bool, true, false, not, ◌||◌, ◌==◌, inl, inr, List, [], ◌∷◌, ◌++◌, filter, map, flat_map, refl, sym, ap, subst, ◌∙◌, Some, None, Ok, Err}
use Rattle.std.specs.Prelude.{is_some}
use Rattle.std.specs.List.{list_all}
use Rattle.std.proofs.lemmas.Bool.{and_parts, and_from, eqb-true, ne_eqb}
use Rattle.closure.specs.Closure.{IsIn}
use Rattle.closure.proofs.Members.{of_filter, in_filter}
use Rattle.shop_defs.specs.declared.broken.Broken.{Broken}
use Rattle.shop_defs.specs.declared.broken.Broken.TheVariants as B
use Rattle.shop_defs.specs.declared.delta.Delta.{Delta}
use Rattle.shop_defs.specs.declared.entity.Entity.{Entity}
use Rattle.shop_defs.specs.declared.entity.Entity.TheVariants as E
use Rattle.shop_defs.specs.declared.key.Key.{Key}
use Rattle.shop_defs.specs.declared.op.Op.{Op}
use Rattle.shop_defs.specs.declared.refused.PlanFault.{PlanFault}
use Rattle.shop_defs.specs.declared.refused.PlanFault.TheVariants as F
use Rattle.shop_defs.specs.declared.row.Row.{Row}
use Rattle.shop_defs.specs.Fitting.{is_writable}
use Rattle.shop_defs.specs.Joined.{Change, joined}
use Rattle.shop_defs.specs.Keys.{key_cmp}
use Rattle.shop_defs.specs.Rows.{row_key, row_at, change_rows, IsInKeyOrder}
use Rattle.shop_defs.specs.Tables.{info_of}
use Rattle.shop_defs.proofs.EachLine.{same_entity}
use Rattle.shop_defs.proofs.Keys.{key_cmp_total}
use Rattle.shop_operations.specs.References.{is_live, live}
use Rattle.shop_operations.specs.Views.{live_view, drafted as of_drafts}
use Rattle.shop_rows.specs.Changing.{StandUnderTheirKeys, HasAscendingKeys}
use Rattle.shop_rows.proofs.ChangedRows.{in_order-change_rows}
use Rattle.shop_soundness.specs.WellFormed.{unwritten}
use Rattle.shop_drafts.proofs.Orders.{parts_together}
use Rattle.shop_drafts.specs.Drafts.{draft_key, commits, is_commit}
use Rattle.shop_drafts.specs.Making.{is_of_draft, dropped, with_rows}
use Rattle.shop_drafts.specs.Merging.{Logged, logged, logged_from, log, replayed, with_live, merge, merged_with}
use Rattle.shop_drafts.specs.Soundness.{AreDrafted, is_change}
use Rattle.shop_write.specs.Growth.{taken_out}
use Rattle.shop_write.proofs.InOrder.{ascends_filter}
use Rattle.shop_version.specs.Plans.{IsPlanOf, IsFaultOf}
use Rattle.shop_version.proofs.Commits.{holds_of, of_commits, is_commit_entity}
use Rattle.shop_version.proofs.Dropped.{without_lost, taken_stand}
use Rattle.shop_version.proofs.Found.{same_members}
use Rattle.shop_version.proofs.Joins.{joined_rows, joined_stand}
use Rattle.shop_version.proofs.Kept.{is_draft, draft_is}
use Rattle.shop_drafts.proofs.Unwritten.{replay_leaves}

all_two : {X : Type 0} (p : X → Bool) (xs ys : List X) → list_all p xs ≡ true → list_all p ys ≡ true → list_all p (xs ++ ys) ≡ true
all_two p [] ys e f = f
all_two p (x ∷ xs) ys e f = and_from (p x) (list_all p (xs ++ ys)) (and_parts (p x) (list_all p xs) e).0 (all_two p xs ys (and_parts (p x) (list_all p xs) e).1 f)

abbrev is_entry : Logged → Bool
is_entry entry = is_change entry.op

logged_changes : (commit number : ℕ) (ops : List Op) → list_all is_change ops ≡ true → list_all is_entry (logged_from commit number ops) ≡ true
logged_changes commit number [] e = refl
logged_changes commit number (op ∷ ops) e = and_from (is_change op) (list_all is_entry (logged_from commit (suc number) ops)) (and_parts (is_change op) (list_all is_change ops) e).0 (logged_changes commit (suc number) ops (and_parts (is_change op) (list_all is_change ops) e).1)

flat_changes : (commits : List Row) → ((row : Row) → IsIn row commits → list_all is_change row.ops ≡ true) → list_all is_entry (flat_map logged commits) ≡ true
flat_changes [] each = refl
flat_changes (commit ∷ commits) each = all_two is_entry (logged commit) (flat_map logged commits) (logged_changes commit.key.second 1 commit.ops (each commit (inl refl))) (flat_changes commits (λ row i. each row (inr i)))

pub log_is : (rows : List Row) (version : ℕ) → log rows version ≡ flat_map logged (commits rows version)
unfolding log
log_is rows version = refl

draft_unwritten : is_writable E.Draft ≡ false
unfolding info_of
draft_unwritten = refl

commit_unwritten : is_writable E.DraftCommit ≡ false
unfolding info_of
commit_unwritten = refl

-- a live row of a draft is one that operations may not write
not_written : (version : ℕ) (row : Row) → version ≢ 0 → is_of_draft version row ≡ true → is_live row ≡ true → is_writable row.key.entity ≡ false
not_written version row n e lives = by (is_draft version row) refl
  where
    other : (row.key.version == version) ≡ false
    other = ne_eqb row.key.version version (λ same. n (sym same ∙ eqb-true row.key.version 0 lives))

    either : (is_draft version row || is_commit version row) ≡ true
    either = sym (ap (λ b. b || (is_draft version row || is_commit version row)) other) ∙ e

    by : (b : Bool) → is_draft version row ≡ b → is_writable row.key.entity ≡ false
    by true f = ap (λ (key : Key). is_writable key.entity) (draft_is version row f) ∙ draft_unwritten
    by false f =
        let g : is_commit version row ≡ true = sym (ap (λ b. b || is_commit version row) f) ∙ either in
        let entity : E.DraftCommit ≡ row.key.entity = same_entity E.DraftCommit row.key.entity (eqb-true _ _ (is_commit_entity version row g)) in
        subst (λ (entity : Entity). is_writable entity ≡ false) entity commit_unwritten

module _ (rows : List Row) (version : ℕ) (drafted : AreDrafted rows) (not_live : version ≢ 0) where
  pub log_changes : list_all is_entry (log rows version) ≡ true
  log_changes = ap (list_all is_entry) (log_is rows version) ∙ flat_changes (commits rows version) (λ row i. let is = of_commits rows version drafted row i in (and_parts _ _ (holds_of rows version drafted row is.is_in is.passes)).1)

  module _ (changes : List Change) (now : List Row) (replay : replayed (live_view rows) (log rows version) ≡ Ok now) (left : live (change_rows rows changes) ≡ now) (drafts : of_drafts (change_rows rows changes) ≡ of_drafts rows) where
    abbrev after : List Row
    after = change_rows rows changes

    up : IsInKeyOrder (change_rows rows changes)
    up = in_order-change_rows changes rows drafted.in_order

    others : unwritten (live (change_rows rows changes)) ≡ unwritten (live rows)
    others = ap unwritten left ∙ replay_leaves (live_view rows) (log rows version) now log_changes replay

    -- a row of the draft that is in one of two lists is in the other, where both have the same rows of drafts and the same
    -- rows that operations may not write
    moves : (xs ys : List Row) → of_drafts xs ≡ of_drafts ys → unwritten (live xs) ≡ unwritten (live ys) → (row : Row) → is_of_draft version row ≡ true → IsIn row xs → IsIn row ys
    moves xs ys d u row e i = by (is_live row) refl
      where
        by : (b : Bool) → is_live row ≡ b → IsIn row ys
        by false f = (of_filter (λ row. not (is_live row)) ys row (subst (λ (l : List Row). IsIn row l) d (in_filter (λ row. not (is_live row)) xs row i (ap not f)))).is_in
        by true f =
            let here = in_filter (λ row. not (is_writable row.key.entity)) (live xs) row (in_filter is_live xs row i f) (ap not (not_written version row not_live e f)) in
            let there = of_filter (λ row. not (is_writable row.key.entity)) (live ys) row (subst (λ (l : List Row). IsIn row l) u here) in
            (of_filter is_live ys row there.is_in).is_in

    part : (xs ys : List Row) → of_drafts xs ≡ of_drafts ys → unwritten (live xs) ≡ unwritten (live ys) → (row : Row) → IsIn row (filter (is_of_draft version) xs) → IsIn row (filter (is_of_draft version) ys)
    part xs ys d u row i =
        let is = of_filter (is_of_draft version) xs row i in
        in_filter (is_of_draft version) ys row (moves xs ys d u row is.passes is.is_in) is.passes

    -- the replay leaves what is of the draft
    pub draft_stays : filter (is_of_draft version) (change_rows rows changes) ≡ filter (is_of_draft version) rows
    draft_stays =
        same_members _ _ (ascends_filter key_cmp row_key key_cmp_total (is_of_draft version) (change_rows rows changes) up) (ascends_filter key_cmp row_key key_cmp_total (is_of_draft version) rows drafted.in_order)
        (part (change_rows rows changes) rows drafts others) (part rows (change_rows rows changes) (sym drafts) (sym others))

    live_again : with_live rows now ≡ change_rows rows changes
    live_again =
        ap (λ xs. with_rows xs now) (sym drafts)
        ∙ (ap (with_rows (of_drafts (change_rows rows changes))) (sym left) ∙ parts_together key_cmp row_key key_cmp_total is_live (change_rows rows changes) up)

    dropped_after : dropped (with_live rows now) version ≡ change_rows (change_rows rows changes) (map taken_out (filter (is_of_draft version) rows))
    unfolding dropped
    dropped_after =
        ap (filter (λ row. not (is_of_draft version row))) live_again
        ∙ (sym (without_lost (is_of_draft version) (change_rows rows changes) up) ∙ ap (λ lost. change_rows (change_rows rows changes) (map taken_out lost)) draft_stays)

    pub merge_is : (draft : Row) → row_at rows (draft_key version) ≡ Some draft → merge rows version ≡ Ok (change_rows (change_rows rows changes) (map taken_out (filter (is_of_draft version) rows)))
    unfolding merge
    merge_is draft there = rw (ap is_some there) (ap (merged_with rows version) replay ∙ ap Ok dropped_after)

-- a merge whose replay is refused is refused
pub merge_refused : (rows : List Row) (version : ℕ) (draft : Row) (broken : Broken) → row_at rows (draft_key version) ≡ Some draft → replayed (live_view rows) (log rows version) ≡ Err broken → merge rows version ≡ Err broken
unfolding merge
merge_refused rows version draft broken there replay = rw (ap is_some there) (ap (merged_with rows version) replay)

pub merge_fault : (rows : List Row) (version : ℕ) (draft : Row) (fault : PlanFault) → row_at rows (draft_key version) ≡ Some draft → IsFaultOf (replayed (live_view rows) (log rows version)) fault → IsFaultOf (merge rows version) fault
merge_fault rows version draft F.NoMemory there is = tt
merge_fault rows version draft (F.Refused refused) there is = (is.0, merge_refused rows version draft refused.broken there is.1)

-- where there is no draft there is no merge
pub merge_missing : (rows : List Row) (version : ℕ) (fault : PlanFault) → row_at rows (draft_key version) ≡ None → fault ≡ F.Refused (record { op = 0; broken = B.NoSuchVersion version }) → IsFaultOf (merge rows version) fault
unfolding merge
merge_missing rows version fault none e = subst (IsFaultOf (merge rows version)) (sym e) (refl, rw none refl)

-- the changes of both, made one
pub merge_plan : (rows : List Row) (version : ℕ) (draft : Row) (now : List Row) (first second : Delta) (changes : List Change) → AreDrafted rows → version ≢ 0 → row_at rows (draft_key version) ≡ Some draft
    → replayed (live_view rows) (log rows version) ≡ Ok now → live (change_rows rows first.changes) ≡ now → of_drafts (change_rows rows first.changes) ≡ of_drafts rows
    → StandUnderTheirKeys first.changes → second.changes ≡ map taken_out (filter (is_of_draft version) rows) → changes ≡ joined (first ∷ second ∷ []) → HasAscendingKeys changes → IsPlanOf rows (merge rows version) changes
merge_plan rows version draft now first second changes drafted not_live there replay left drafts stand lost e ascends =
    let stand_too : StandUnderTheirKeys second.changes = subst StandUnderTheirKeys (sym lost) (taken_stand (is_of_draft version) rows drafted.in_order) in
    let up : HasAscendingKeys (joined (first ∷ second ∷ [])) = subst HasAscendingKeys e ascends in
    record {
      rows = merge_is rows version drafted not_live first.changes now replay left drafts draft there
          ∙ (ap (λ lost. Ok (change_rows (change_rows rows first.changes) lost)) (sym lost)
          ∙ (ap Ok (sym (joined_rows rows first second drafted.in_order stand stand_too up)) ∙ ap (λ changes. Ok (change_rows rows changes)) (sym e)));
      ascends = ascends;
      stand = subst StandUnderTheirKeys (sym e) (joined_stand rows first second drafted.in_order stand stand_too);
    }
