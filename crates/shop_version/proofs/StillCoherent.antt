-- What is done with drafts leaves live rows that fit one another.
use Rattle.std.proofs.Common.{◌≡◌, ◌≢◌, ℕ, ◌≤◌, cond, Bool, true, false, not, ◌⊎◌, inl, inr, ◌&&◌, ◌||◌, ◌==◌, nat_lt, List, [], ◌∷◌, length, refl, sym, ap, subst, ◌∙◌, Option, Some, None, Ok, arith}
use Rattle.std.specs.Prelude.{filter, find, count_by}
use Rattle.std.specs.List.{list_any}
use Rattle.std.specs.Option.{option_map}
use Rattle.std.proofs.lemmas.Bool.{and_parts, eqb-true, ne_eqb, false≢true, ltb-false}
use Rattle.std.proofs.lemmas.List.Sums.{length-filter}
use Rattle.closure.specs.Closure.{IsIn}
use Rattle.closure.proofs.Members.{Found, all_at, all_from, any_is, any_of, of_filter}
use Rattle.shop_defs.specs.declared.broken.Broken.{Broken}
use Rattle.shop_defs.specs.declared.broken.Broken.TheVariants as B
use Rattle.shop_defs.specs.declared.entity.Entity.{Entity}
use Rattle.shop_defs.specs.declared.entity.Entity.TheVariants as E
use Rattle.shop_defs.specs.declared.key.Key.{Key}
use Rattle.shop_defs.specs.declared.row.Row.{Row}
use Rattle.shop_defs.specs.declared.table.TheConstants.{MOST_ROWS}
use Rattle.shop_defs.specs.Fitting.{row_key_fits}
use Rattle.shop_defs.proofs.EachLine.{same_entity}
use Rattle.shop_operations.specs.Deletes.{stands_at}
use Rattle.shop_operations.specs.Operations.{first}
use Rattle.shop_operations.specs.References.{is_entity, is_live, live}
use Rattle.shop_operations.specs.Soundness.{IsCoherent}
use Rattle.shop_operations.specs.Upserts.{count_of}
use Rattle.shop_operations.specs.Views.{drafted, live_view}
use Rattle.shop_requests.specs.declared.raw.RawOp.{RawOp}
use Rattle.shop_write.specs.BatchPlans.{HaveIds}
use Rattle.shop_soundness.proofs.Lists.{count_filter, each_of}
use Rattle.shop_drafts.specs.Drafts.{draft_key, is_commit}
use Rattle.shop_drafts.specs.Making.{drop_draft, dropped, is_of_draft, made, made_rows, make_draft, making_breaks, no_such_root, not_root, too_many_made, version_exists}
use Rattle.shop_drafts.specs.Merging.{log, merge, with_live}
use Rattle.shop_drafts.specs.Soundness.{AreDrafted}
use Rattle.shop_drafts.specs.Writing.{draft_write}
use Rattle.shop_drafts.specs.declared.aggregate.Root.{Root}
use Rattle.shop_drafts.proofs.Apart.{dropping, fails_drafted, filter-with, filter_again, live_by_key, live_is, made_is, making, replayed_live, writing}
use Rattle.shop_drafts.proofs.Counts.{all_of, hidden_is, split}
use Rattle.shop_drafts.proofs.Shown.{dropped_again, live_in_order}
use Rattle.shop_drafts.proofs.Merged.{live_of_parts, replayed_in_order}
use Rattle.shop_drafts.proofs.Unwritten.{replay_coherent}
use Rattle.shop_version.specs.Laws.{StayCoherent}
use Rattle.shop_version.proofs.AllDrafted.{merged_is, merging as merge_drafted, making as make_drafted, drop_is, writing as write_drafted}
use Rattle.shop_version.proofs.Assembled.{log_changes}
use Rattle.shop_version.proofs.StillFew.{few_written}
use Rattle.shop_version.proofs.StillWritten.{accepted_is}
use Rattle.shop_version.proofs.Keepers.{filter_within, is_plain, plain, plain_coherent}

-- ---- live rows that keep no draft

abbrev is_plain_live : Row → Bool
is_plain_live row = is_live row && is_plain row

plain_live : (rows : List Row) → plain (live rows) ≡ filter is_plain_live rows
plain_live [] = refl
plain_live (row ∷ rows) = by (plain_live rows) (is_live row) refl (is_plain row) refl
  where
    by : plain (live rows) ≡ filter is_plain_live rows → (a : Bool) → is_live row ≡ a → (b : Bool) → is_plain row ≡ b → plain (live (row ∷ rows)) ≡ filter is_plain_live (row ∷ rows)
    by more true e true f = rw (e, f) (ap (λ ys. row ∷ ys) more)
    by more true e false f = rw (e, f) more
    by more false e b f = rw e more

plain_apart : (version : ℕ) → version ≢ 0 → (row : Row) → is_plain_live row ≡ true → not (is_of_draft version row) ≡ true
plain_apart version n row e = by (row.key.version == version) own (is_entity E.Draft row.key.entity) refl (is_entity E.DraftCommit row.key.entity) refl
  where
    parts : (is_live row ≡ true) × (is_plain row ≡ true)
    parts = and_parts (is_live row) (is_plain row) e

    own : (row.key.version == version) ≡ false
    own = ap (λ v. v == version) (eqb-true row.key.version 0 parts.0) ∙ ne_eqb 0 version (λ z. n (sym z))

    by : (a : Bool) → a ≡ false → (b : Bool) → is_entity E.Draft row.key.entity ≡ b → (c : Bool) → is_entity E.DraftCommit row.key.entity ≡ c → not (a || ((is_live row && stands_at (draft_key version) row) || is_commit version row)) ≡ true
    by true f b g c h = absurd (false≢true (sym f))
    by false f true g c h = absurd (false≢true (sym (ap (λ b. not b && not (is_entity E.DraftCommit row.key.entity)) g) ∙ parts.1))
    by false f false g true h = absurd (false≢true (sym (ap (λ b. not b && not (is_entity E.DraftCommit row.key.entity)) g ∙ ap not h) ∙ parts.1))
    by false f false g false h = rw (g, h) (none (is_live row))
      where
        none : (b : Bool) → not ((b && false) || (b && false)) ≡ true
        none true = refl
        none false = refl

plain_kept : (rows : List Row) (version : ℕ) → version ≢ 0 → filter is_plain_live (dropped rows version) ≡ filter is_plain_live rows
unfolding dropped
plain_kept rows version n = filter_within (λ row. not (is_of_draft version row)) is_plain_live (plain_apart version n) rows

plain_same : (rows after : List Row) (version : ℕ) → version ≢ 0 → dropped after version ≡ dropped rows version → plain (live rows) ≡ plain (live after)
plain_same rows after version n e =
    plain_live rows ∙ (sym (plain_kept rows version n) ∙ (ap (filter is_plain_live) (sym e) ∙ (plain_kept after version n ∙ sym (plain_live after))))

-- ---- coherence

-- where nothing but the draft changed
only_draft : (rows after : List Row) (version : ℕ) → AreDrafted after → IsCoherent (live_view rows) → version ≢ 0 → dropped after version ≡ dropped rows version
    → ((entity : Entity) → count_by (λ row. is_entity entity row.key.entity) after ≤ MOST_ROWS) → IsCoherent (live_view after)
only_draft rows after version is fit n e few =
    plain_coherent (live_view rows) (live_view after) fit (plain_same rows after version n e) (live_in_order after is.in_order)
    (all_from (λ row. row_key_fits row.key) (live after) (λ row i. all_at (λ row. row_key_fits row.key) after row is.formed (of_filter is_live after row i).is_in))
    (λ entity. let all = all_of after entity in let most = few entity in omega arith)

few_rows : (rows : List Row) → IsCoherent (live_view rows) → (entity : Entity) → count_by (λ row. is_entity entity row.key.entity) rows ≤ MOST_ROWS
few_rows rows fit entity = let all = all_of rows entity in let most = fit.bounded entity in omega arith

dropped_fewer : (rows : List Row) (version : ℕ) (entity : Entity) → count_by (λ row. is_entity entity row.key.entity) (dropped rows version) ≤ count_by (λ row. is_entity entity row.key.entity) rows
unfolding dropped
dropped_fewer rows version entity = count_filter (λ row. is_entity entity row.key.entity) (λ row. not (is_of_draft version row)) rows

pub drop_coherent : (rows after : List Row) (version : ℕ) → AreDrafted rows → IsCoherent (live_view rows) → version ≢ 0 → drop_draft rows version ≡ Ok after → IsCoherent (live_view after)
drop_coherent rows after version is fit n e =
    let d = dropping rows after version e in
    only_draft rows after version (drop_is rows after version is n e) fit n (ap (λ now. dropped now version) d ∙ dropped_again rows version)
    (λ entity. let less = dropped_fewer rows version entity in let same : count_by (λ row. is_entity entity row.key.entity) after ≡ count_by (λ row. is_entity entity row.key.entity) (dropped rows version) = ap (count_by (λ row. is_entity entity row.key.entity)) d in let most = few_rows rows fit entity in omega arith)

-- ---- making

last_none : (a b c d : Option Broken) → first (a ∷ b ∷ c ∷ d ∷ []) ≡ None → d ≡ None
last_none None None None None e = refl
last_none None None None (Some broken) e = cc
last_none (Some broken) b c d e = cc
last_none None (Some broken) c d e = cc
last_none None None (Some broken) d e = cc

none_found : (p : Row → Bool) (rows : List Row) (of : Row → Broken) → option_map of (find p rows) ≡ None → (row : Row) → IsIn row rows → p row ≡ false
none_found p [] of e row i = absurd i
none_found p (x ∷ rows) of e row i = by (none_found p rows of) (p x) refl e i
  where
    by : (option_map of (find p rows) ≡ None → (row : Row) → IsIn row rows → p row ≡ false) → (b : Bool) → p x ≡ b → option_map of (cond b (Some x) (find p rows)) ≡ None → (x ≡ row) ⊎ IsIn row rows → p row ≡ false
    by more true f g j = cc
    by more false f g (inl s) = subst (λ (r : Row). p r ≡ false) s f
    by more false f g (inr j) = more g row j

made_same : (rows : List Row) (version : ℕ) (root : Root) (entity : Entity) → list_any (λ row. is_entity entity row.key.entity) (made_rows rows version root) ≡ false → count_by (λ row. is_entity entity row.key.entity) (made rows version root) ≡ count_by (λ row. is_entity entity row.key.entity) rows
unfolding made
made_same rows version root entity e =
    sym (length-filter (λ row. is_entity entity row.key.entity) (made rows version root))
    ∙ (ap length (filter-with (λ row. is_entity entity row.key.entity) (λ a b k. ap (λ (key : Key). is_entity entity key.entity) k) (made_rows rows version root) rows
    (each_of (λ row. is_entity entity row.key.entity ≡ false) (made_rows rows version root) (λ row i. each row i (is_entity entity row.key.entity) refl)))
    ∙ length-filter (λ row. is_entity entity row.key.entity) rows)
  where
    each : (row : Row) → IsIn row (made_rows rows version root) → (b : Bool) → is_entity entity row.key.entity ≡ b → b ≡ false
    each row i true f = absurd (false≢true (sym e ∙ any_is (λ row. is_entity entity row.key.entity) (made_rows rows version root) row i f))
    each row i false f = refl

few_made : (rows : List Row) (version : ℕ) (root : Root) → IsCoherent (live_view rows) → making_breaks rows version root ≡ None → (entity : Entity) → count_by (λ row. is_entity entity row.key.entity) (made rows version root) ≤ MOST_ROWS
few_made rows version root fit unbroken entity = by (list_any (λ row. is_entity entity row.key.entity) (made_rows rows version root)) refl
  where
    none : too_many_made rows version root ≡ None
    none = last_none (not_root root) (version_exists rows version) (no_such_root rows root) (too_many_made rows version root) unbroken

    bound : Found (λ row. is_entity entity row.key.entity) (made_rows rows version root) → count_by (λ row. is_entity entity row.key.entity) (made rows version root) ≤ MOST_ROWS
    bound f =
        let is : entity ≡ f.one.key.entity = same_entity entity f.one.key.entity (eqb-true _ _ f.passes) in
        let low = ltb-false MOST_ROWS (count_of (λ entity. 0) (made rows version root) f.one.key.entity) (none_found (λ row. nat_lt MOST_ROWS (count_of (λ entity. 0) (made rows version root) row.key.entity)) (made_rows rows version root) (λ row. B.TooMany row.key.entity MOST_ROWS) none f.one f.is_in) in
        let low_too : count_by (λ row. is_entity f.one.key.entity row.key.entity) (made rows version root) ≤ MOST_ROWS = omega arith in
        subst (λ (of : Entity). count_by (λ row. is_entity of row.key.entity) (made rows version root) ≤ MOST_ROWS) (sym is) low_too

    by : (b : Bool) → list_any (λ row. is_entity entity row.key.entity) (made_rows rows version root) ≡ b → count_by (λ row. is_entity entity row.key.entity) (made rows version root) ≤ MOST_ROWS
    by true e = bound (any_of (λ row. is_entity entity row.key.entity) (made_rows rows version root) e)
    by false e = let s = made_same rows version root entity e in let most = few_rows rows fit entity in omega arith

pub make_coherent : (rows after : List Row) (version : ℕ) (name : List ℕ) (id : ℕ) → AreDrafted rows → IsCoherent (live_view rows) → version ≢ 0 → make_draft rows version name id ≡ Ok after → IsCoherent (live_view after)
make_coherent rows after version name id is fit n e =
    let m = made_is rows after version name id e in
    only_draft rows after version (make_drafted rows after version name id is n e) fit n (making rows after version name id e)
    (λ entity. subst (λ (all : List Row). count_by (λ row. is_entity entity row.key.entity) all ≤ MOST_ROWS) m.is (few_made rows version m.root fit m.unbroken entity))

-- ---- writing

write_coherent : (rows after : List Row) (version : ℕ) (ops : List RawOp) → AreDrafted rows → IsCoherent (live_view rows) → version ≢ 0 → length ops ≤ 1000 → HaveIds ops → draft_write rows version ops ≡ Ok after → IsCoherent (live_view after)
write_coherent rows after version ops is fit n few ids e =
    let still = write_drafted rows after version ops is n few ids e in
    only_draft rows after version still fit n (writing rows after version ops e) (few_written rows after version ops is n (few_rows rows fit) (accepted_is rows after version ops e) still)

-- ---- merging

pub merge_coherent : (rows after : List Row) (version : ℕ) → AreDrafted rows → IsCoherent (live_view rows) → version ≢ 0 → merge rows version ≡ Ok after → IsCoherent (live_view after)
merge_coherent rows after version is fit n e =
    let m = merged_is rows after version e in
    let stays = replay_coherent (live_view rows) (log rows version) m.now fit (log_changes rows version is n) m.replay in
    let alive = replayed_live (live_view rows) (log rows version) m.now refl (live_is rows) m.replay in
    let up = replayed_in_order (live_view rows) (log rows version) m.now (live_in_order rows is.in_order) m.replay in
    let live_now : live (with_live rows m.now) ≡ m.now = live_of_parts rows m.now is.in_order alive up in
    let drafts : drafted (with_live rows m.now) ≡ drafted rows = filter-with (λ row. not (is_live row)) live_by_key m.now (drafted rows) (fails_drafted m.now alive) ∙ filter_again (λ row. not (is_live row)) rows in
    let result = merge_drafted rows after version is fit n e in
    plain_coherent (record (live_view rows) { rows = m.now }) (live_view after) stays
    (ap plain (sym live_now) ∙ plain_same (with_live rows m.now) after version n (ap (λ now. dropped now version) (sym m.is) ∙ dropped_again (with_live rows m.now) version))
    (live_in_order after result.in_order)
    (all_from (λ row. row_key_fits row.key) (live after) (λ row i. all_at (λ row. row_key_fits row.key) after row result.formed (of_filter is_live after row i).is_in))
    (λ entity.
    let most = stays.bounded entity in
    let all = all_of after entity in
    let less = dropped_fewer (with_live rows m.now) version entity in
    let same : count_by (λ row. is_entity entity row.key.entity) after ≡ count_by (λ row. is_entity entity row.key.entity) (dropped (with_live rows m.now) version) = ap (count_by (λ row. is_entity entity row.key.entity)) (sym m.is) in
    let parts = split (λ row. is_entity entity row.key.entity) is_live (with_live rows m.now) in
    let one : count_by (λ row. is_entity entity row.key.entity) (live (with_live rows m.now)) ≡ count_by (λ row. is_entity entity row.key.entity) m.now = ap (count_by (λ row. is_entity entity row.key.entity)) live_now in
    let two : count_by (λ row. is_entity entity row.key.entity) (drafted (with_live rows m.now)) ≡ count_by (λ row. is_entity entity row.key.entity) (drafted rows) = ap (count_by (λ row. is_entity entity row.key.entity)) drafts in
    let hidden = hidden_is rows entity in
    omega arith)

pub stay_coherent : StayCoherent
stay_coherent = record { making = make_coherent; writing = write_coherent; dropping = drop_coherent; merging = merge_coherent }
