-- An accepted batch stands behind the draft's log.
use Rattle.std.proofs.Common.{◌≡◌, ◌≢◌, ◌<◌, ◌+◌, ℕ, suc, Bool, true, false, not, List, [], ◌∷◌, ◌++◌, inl, inr, Some, if◌then◌else◌, cond, refl, sym, ap, subst, ◌∙◌, arith}
use Rattle.std.specs.Prelude.{filter, length, ◌==◌, ◌&&◌, ◌||◌, Ok}
use Rattle.std.specs.List.{list_all, flat_map, AllByRecursion}
use Rattle.std.specs.declared.cmp.Ordering.{Ordering}
use Rattle.std.specs.declared.cmp.Ordering.TheVariants.{Less, Equal, Greater}
use Rattle.std.specs.Ordering.{is_eq, nat_cmp, ordering_then}
use Rattle.std.proofs.lemmas.Cmp.{ranked}
use Rattle.std.proofs.lemmas.Bool.{eqb-true, eq-eqb, ne_eqb, and_parts}
use Rattle.keyed.specs.Keyed.{put}
use Rattle.shop_defs.specs.declared.entity.Entity.TheVariants as E
use Rattle.shop_defs.specs.declared.key.Key.{Key}
use Rattle.shop_defs.specs.declared.op.Op.{Op}
use Rattle.shop_defs.specs.declared.row.Row.{Row}
use Rattle.shop_defs.specs.Entities.{entity_number}
use Rattle.shop_defs.specs.Keys.{key_cmp}
use Rattle.shop_defs.specs.Rows.{row_key, row_at, field_of, IsInKeyOrder}
use Rattle.shop_operations.specs.References.{is_entity, is_live, of_version}
use Rattle.shop_drafts.specs.Damage.{passes_draft, is_edited, has_its_draft, has_its_commits, count_up, is_number}
use Rattle.shop_drafts.specs.Drafts.{draft_key, commit_key, is_commit, commits}
use Rattle.shop_drafts.specs.Writing.{written, without_version, with_commits, new_commit, next_number, read_all, draft_write}
use Rattle.shop_drafts.specs.Making.{with_rows}
use Rattle.shop_defs.proofs.Keys.{key_cmp_total}
use Rattle.shop_soundness.proofs.InOrder.{ascends_filter}
use Rattle.shop_drafts.proofs.Orders.{ascends_puts, filter_all, filter_puts_pass}
use Rattle.shop_drafts.proofs.Apart.{filter-with, filter_swap, written_is}
use Rattle.closure.specs.Closure.{IsIn}
use Rattle.closure.proofs.Members.{all_at}
use Rattle.shop_requests.specs.declared.raw.RawOp.{RawOp}
use Rattle.shop_drafts.specs.Merging.{logged, logged_from, log}
use Rattle.shop_drafts.specs.declared.aggregate.TheConstants.{COMMITS}

nat_less : (a b : ℕ) → a < b → nat_cmp a b ≡ Less
nat_less a b l = by (nat_cmp a b) refl
  where
    by : (o : Ordering) → nat_cmp a b ≡ o → o ≡ Less
    by Less e = refl
    by Equal e = let same : a ≡ b = ranked a b Equal (sym e) in absurd (omega arith)
    by Greater e = let more : b < a = ranked a b Greater (sym e) in absurd (omega arith)

nat_same : (a : ℕ) → nat_cmp a a ≡ Equal
nat_same a = by (nat_cmp a a) refl
  where
    by : (o : Ordering) → nat_cmp a a ≡ o → o ≡ Equal
    by Less e = let less : a < a = ranked a a Less (sym e) in absurd (omega arith)
    by Equal e = refl
    by Greater e = let more : a < a = ranked a a Greater (sym e) in absurd (omega arith)

-- above all others it is put last
put_last : (xs : List Row) (y : Row) → AllByRecursion (λ x. key_cmp x.key y.key ≡ Less) xs → put key_cmp row_key xs y ≡ xs ++ y ∷ []
put_last [] y all = refl
put_last (x ∷ xs) y all = rw all.0 (ap (λ ys. x ∷ ys) (put_last xs y all.1))

below : (version number : ℕ) (row : Row) → is_commit version row ≡ true → row.key.second < number → key_cmp row.key (commit_key version number) ≡ Less
below version number row e l =
    let parts = and_parts (is_live row) (is_entity E.DraftCommit row.key.entity && (row.key.id == version)) e in
    let more = and_parts (is_entity E.DraftCommit row.key.entity) (row.key.id == version) parts.1 in
    let entity : entity_number E.DraftCommit ≡ entity_number row.key.entity = eqb-true (entity_number E.DraftCommit) (entity_number row.key.entity) more.0 in
    let at : row.key.version ≡ 0 = eqb-true row.key.version 0 parts.0 in
    let id : row.key.id ≡ version = eqb-true row.key.id version more.1 in
    let a : nat_cmp (entity_number row.key.entity) (entity_number E.DraftCommit) ≡ Equal = ap (λ n. nat_cmp n (entity_number E.DraftCommit)) (sym entity) in
    let b : nat_cmp row.key.version 0 ≡ Equal = ap (λ n. nat_cmp n 0) at in
    let c : nat_cmp row.key.id version ≡ Equal = ap (λ n. nat_cmp n version) id ∙ nat_same version in
    let d : nat_cmp row.key.second number ≡ Less = nat_less row.key.second number l in
    ap (λ o. ordering_then o (ordering_then (nat_cmp row.key.version 0) (ordering_then (nat_cmp row.key.id version) (nat_cmp row.key.second number)))) a
    ∙ (ap (λ o. ordering_then o (ordering_then (nat_cmp row.key.id version) (nat_cmp row.key.second number))) b
    ∙ (ap (λ o. ordering_then o (nat_cmp row.key.second number)) c ∙ d))

-- commits that are numbered without a gap are all below the next
all_below : (version from number : ℕ) (rows : List Row) → AllByRecursion (λ row. is_commit version row ≡ true) rows → count_up from rows ≡ true → from + length rows ≡ number
    → AllByRecursion (λ row. key_cmp row.key (commit_key version number) ≡ Less) rows
all_below version from number [] all e s = tt
all_below version from number (row ∷ rows) all e s =
    let parts = and_parts (row.key.second == from) (count_up (suc from) rows) e in
    let is : row.key.second ≡ from = eqb-true row.key.second from parts.0 in
    let l : row.key.second < number = omega arith in
    (below version number row all.0 l, all_below version (suc from) number rows all.1 parts.1 (omega arith))

all_pass : (p : Row → Bool) (xs : List Row) → AllByRecursion (λ x. p x ≡ true) (filter p xs)
all_pass p [] = tt
all_pass p (x ∷ xs) = by (all_pass p xs) (p x) refl
  where
    by : AllByRecursion (λ y. p y ≡ true) (filter p xs) → (b : Bool) → p x ≡ b → AllByRecursion (λ y. p y ≡ true) (filter p (x ∷ xs))
    by more true e = let passes : p x ≡ true = e in subst (λ b. AllByRecursion (λ y. p y ≡ true) (cond b (x ∷ filter p xs) (filter p xs))) (sym e) (passes, more)
    by more false e = rw e more

own_fail : (version : ℕ) (rows : List Row) → version ≢ 0 → AllByRecursion (λ row. is_commit version row ≡ false) (of_version version rows)
own_fail version [] n = tt
own_fail version (row ∷ rows) n = by (own_fail version rows n) (row.key.version == version) refl
  where
    by : AllByRecursion (λ row. is_commit version row ≡ false) (of_version version rows) → (b : Bool) → (row.key.version == version) ≡ b → AllByRecursion (λ row. is_commit version row ≡ false) (of_version version (row ∷ rows))
    by more true e =
        let zero : (row.key.version == 0) ≡ false = ap (λ v. v == 0) (eqb-true row.key.version version e) ∙ ne_eqb version 0 n in
        rw e (ap (λ b. b && (is_entity E.DraftCommit row.key.entity && (row.key.id == version))) zero, more)
    by more false e = rw e more

commits_live : (version : ℕ) (rows : List Row) → version ≢ 0 → AllByRecursion (λ row. is_commit version row ≡ true) rows → AllByRecursion (λ row. not (row.key.version == version) ≡ true) rows
commits_live version [] n all = tt
commits_live version (row ∷ rows) n all =
    let at : row.key.version ≡ 0 = eqb-true row.key.version 0 (and_parts (is_live row) (is_entity E.DraftCommit row.key.entity && (row.key.id == version)) all.0).0 in
    (ap not (ap (λ v. v == version) at ∙ ne_eqb 0 version (λ e. n (sym e))), commits_live version rows n all.1)

by_key : (version : ℕ) (a b : Row) → a.key ≡ b.key → is_commit version a ≡ is_commit version b
by_key version a b e = rw e refl

pub commits_written : (rows : List Row) (version : ℕ) (draft : Row) (ops : List Op) (shown : List Row) → IsInKeyOrder rows → version ≢ 0 → draft.key ≡ draft_key version → count_up 1 (commits rows version) ≡ true
    → commits (written rows version draft ops shown) version ≡ commits rows version ++ new_commit version (next_number rows version) ops ∷ []
unfolding written
commits_written rows version draft ops shown up n e counted =
    let number = next_number rows version in
    let d = with_commits number draft in
    let c = new_commit version number ops in
    let own = of_version version shown in
    let w = without_version rows version in
    let before = with_rows w own in
    filter_puts_pass key_cmp row_key key_cmp_total (is_commit version) (c ∷ []) (with_rows before (d ∷ []))
    (ascends_puts key_cmp row_key key_cmp_total (d ∷ []) before (ascends_puts key_cmp row_key key_cmp_total own w (ascends_filter key_cmp row_key (λ row. not (row.key.version == version)) rows up)))
    (eq-eqb version version refl, tt)
    ∙ (ap (λ (first : List Row). put key_cmp row_key first c)
    (filter-with (is_commit version) (by_key version) (d ∷ []) before (ap (λ (k : Key). (k.version == 0) && (is_entity E.DraftCommit k.entity && (k.id == version))) e, tt)
    ∙ (filter-with (is_commit version) (by_key version) own w (own_fail version shown n)
    ∙ (filter_swap (is_commit version) (λ row. not (row.key.version == version)) rows
    ∙ filter_all (λ row. not (row.key.version == version)) (commits rows version) (commits_live version (commits rows version) n (all_pass (is_commit version) rows)))))
    ∙ put_last (commits rows version) c (all_below version 1 number (commits rows version) (all_pass (is_commit version) rows) counted (omega arith)))

-- ---- the log

and_nothing : {X : Type 0} (xs : List X) → xs ++ [] ≡ xs
and_nothing [] = refl
and_nothing (x ∷ xs) = ap (λ ys. x ∷ ys) (and_nothing xs)

in_threes : {X : Type 0} (xs ys zs : List X) → xs ++ (ys ++ zs) ≡ (xs ++ ys) ++ zs
in_threes [] ys zs = refl
in_threes (x ∷ xs) ys zs = ap (λ all. x ∷ all) (in_threes xs ys zs)

logged_end : (commits : List Row) (commit : Row) → flat_map logged (commits ++ commit ∷ []) ≡ flat_map logged commits ++ logged commit
logged_end [] commit = and_nothing (logged commit)
logged_end (first ∷ rest) commit = ap (λ more. logged first ++ more) (logged_end rest commit) ∙ in_threes (logged first) (flat_map logged rest) (logged commit)

in_found : (rows : List Row) (key : Key) (row : Row) → row_at rows key ≡ Some row → IsIn row rows
in_found [] key row e = cc
in_found (x ∷ rows) key row e = by (in_found rows key row) (is_eq (key_cmp x.key key)) refl
  where
    some_is : (x : Row) → Some x ≡ Some row → x ≡ row
    some_is x e = cc

    by : (row_at rows key ≡ Some row → IsIn row rows) → (b : Bool) → is_eq (key_cmp x.key key) ≡ b → IsIn row (x ∷ rows)
    by more true f = inl (some_is x (sym (ap (λ b. if b then Some x else row_at rows key) f) ∙ e))
    by more false f = inr (more (sym (ap (λ b. if b then Some x else row_at rows key) f) ∙ e))

log_written : (rows : List Row) (version : ℕ) (draft : Row) (ops : List Op) (shown : List Row) → IsInKeyOrder rows → version ≢ 0 → draft.key ≡ draft_key version → count_up 1 (commits rows version) ≡ true
    → log (written rows version draft ops shown) version ≡ log rows version ++ logged_from (next_number rows version) 1 ops
unfolding log
log_written rows version draft ops shown up n e counted =
    ap (flat_map logged) (commits_written rows version draft ops shown up n e counted) ∙ logged_end (commits rows version) (new_commit version (next_number rows version) ops)

pub logs : (rows after : List Row) (version : ℕ) (ops : List RawOp) → IsInKeyOrder rows → list_all (passes_draft rows) rows ≡ true → version ≢ 0 → draft_write rows version ops ≡ Ok after → log after version ≡ log rows version ++ logged_from (next_number rows version) 1 (read_all ops)
logs rows after version ops up sound n e =
    let w = written_is rows after version ops e in
    let passes = all_at (passes_draft rows) rows w.draft sound (in_found rows (draft_key version) w.draft w.found) in
    let more = and_parts (is_edited rows w.draft) (has_its_draft rows w.draft && has_its_commits rows w.draft) passes in
    let its = and_parts (has_its_draft rows w.draft) (has_its_commits rows w.draft) more.1 in
    let at : (count_up 1 (commits rows version) && is_number (field_of w.draft COMMITS) (length (commits rows version))) ≡ true =
    sym (ap (λ (k : Key). not (is_entity E.Draft k.entity) || (count_up 1 (commits rows k.id) && is_number (field_of w.draft COMMITS) (length (commits rows k.id)))) w.key) ∙ its.1 in
    let counted = and_parts (count_up 1 (commits rows version)) (is_number (field_of w.draft COMMITS) (length (commits rows version))) at in
    ap (λ now. log now version) (sym w.is) ∙ log_written rows version w.draft (read_all ops) w.shown up n w.key counted.0
