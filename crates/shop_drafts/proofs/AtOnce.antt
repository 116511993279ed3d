-- A draft that was made and merged at once changes nothing.
use Rattle.std.proofs.Common.{◌≡◌, ◌≢◌, ℕ, Bool, true, false, not, ◌⊎◌, inl, inr, List, [], ◌∷◌, ◌++◌, refl, sym, ap, subst, ◌∙◌, Option, Some, None, if◌then◌else◌}
use Rattle.std.specs.Prelude.{filter, map, is_some, ◌==◌, ◌&&◌, ◌||◌, Ok, Err}
use Rattle.std.specs.List.{list_all, flat_map, AllByRecursion}
use Rattle.std.specs.Option.{option_and_then}
use Rattle.std.specs.declared.cmp.Ordering.{Ordering}
use Rattle.std.specs.declared.cmp.Ordering.TheVariants.{Less, Equal, Greater}
use Rattle.std.specs.Ordering.{is_eq, is_lt, ordering_reverse}
use Rattle.std.proofs.lemmas.Bool.{eqb-true, ne_eqb, true≢false, false≢true, and_parts}
use Rattle.keyed.specs.Keyed.{put}
use Rattle.keyed.proofs.Changes.{find_put}
use Rattle.closure.specs.Closure.{IsIn}
use Rattle.closure.proofs.Members.{all_at}
use Rattle.shop_defs.specs.declared.broken.Broken.{Broken}
use Rattle.shop_defs.specs.declared.broken.Broken.TheVariants as B
use Rattle.shop_defs.specs.declared.entity.Entity.TheVariants as E
use Rattle.shop_defs.specs.declared.key.Key.{Key}
use Rattle.shop_defs.specs.declared.row.Row.{Row}
use Rattle.shop_defs.specs.Keys.{key_cmp}
use Rattle.shop_defs.specs.Rows.{row_key, row_at, IsInKeyOrder}
use Rattle.shop_defs.proofs.EachLine.{same_entity}
use Rattle.shop_defs.proofs.Keys.{key_cmp_total}
use Rattle.shop_operations.specs.Deletes.{stands_at}
use Rattle.shop_operations.specs.Operations.{first}
use Rattle.shop_operations.specs.References.{is_entity, is_live, live}
use Rattle.shop_operations.specs.Views.{live_view}
use Rattle.shop_soundness.proofs.Lists.{each_of}
use Rattle.shop_soundness.proofs.Places.{stands_place}
use Rattle.shop_drafts.specs.Aggregates.{is_part}
use Rattle.shop_drafts.specs.Damage.{passes_draft, is_edited, is_part_of, has_draft, has_its_draft, has_its_commits}
use Rattle.shop_drafts.specs.Drafts.{draft_key, root_of, root_in, is_commit, commits}
use Rattle.shop_drafts.specs.Making.{with_rows, at_version, copies, new_draft, made, made_rows, make_draft, not_root, version_exists, no_such_root, too_many_made, is_of_draft, dropped}
use Rattle.shop_drafts.specs.Merging.{logged, log, replayed, merge, merged_with}
use Rattle.shop_drafts.specs.declared.aggregate.Root.{Root}
use Rattle.shop_drafts.proofs.Orders.{filter_all, filter_none, parts_together}
use Rattle.shop_drafts.proofs.Apart.{filter-with, made_is, made_apart}
use Rattle.shop_drafts.proofs.Shown.{made_in_order}

pub itself : (k : Key) → key_cmp k k ≡ Equal
itself k = by (key_cmp k k) refl
  where
    by : (o : Ordering) → key_cmp k k ≡ o → o ≡ Equal
    by Less e = absurd (true≢false (ap is_lt (sym e ∙ (key_cmp_total.antisymm k k ∙ ap ordering_reverse e))))
    by Equal e = refl
    by Greater e = absurd (false≢true (ap is_lt (sym e ∙ (key_cmp_total.antisymm k k ∙ ap ordering_reverse e))))

-- ---- the draft is there

pub puts_end : (xs ys : List Row) (y : Row) → with_rows xs (ys ++ y ∷ []) ≡ put key_cmp row_key (with_rows xs ys) y
puts_end xs [] y = refl
puts_end xs (x ∷ ys) y = puts_end (put key_cmp row_key xs x) ys y

has_made : (rows : List Row) (version : ℕ) (root : Root) → is_some (row_at (made rows version root) (draft_key version)) ≡ true
unfolding made
has_made rows version root =
    ap (λ now. is_some (row_at now (draft_key version))) (puts_end rows (copies rows version root) (new_draft version root))
    ∙ (ap is_some (find_put key_cmp row_key key_cmp_total (with_rows rows (copies rows version root)) (new_draft version root) (draft_key version))
    ∙ ap (λ o. is_some (if is_eq o then Some (new_draft version root) else row_at (with_rows rows (copies rows version root)) (draft_key version))) (itself (draft_key version)))

-- ---- nothing of the draft was there

found_in : (rows : List Row) (row : Row) (key : Key) → IsIn row rows → row.key ≡ key → is_some (row_at rows key) ≡ true
found_in [] row key i e = absurd i
found_in (x ∷ rows) row key i e = by (λ j. found_in rows row key j e) (key_cmp x.key key) refl i
  where
    equal : (x ≡ row) → key_cmp x.key key ≡ Equal
    equal s = ap (λ (r : Row). key_cmp r.key key) s ∙ (ap (λ k. key_cmp k key) e ∙ itself key)

    by : (IsIn row rows → is_some (row_at rows key) ≡ true) → (o : Ordering) → key_cmp x.key key ≡ o → (x ≡ row) ⊎ IsIn row rows → is_some (row_at (x ∷ rows) key) ≡ true
    by more Equal f j = rw f refl
    by more Less f (inr j) = rw f (more j)
    by more Less f (inl s) = absurd (true≢false (ap is_lt (sym f ∙ equal s)))
    by more Greater f (inr j) = rw f (more j)
    by more Greater f (inl s) = absurd (false≢true (ap is_eq (sym f ∙ equal s)))

module _ (rows : List Row) (version : ℕ) (n : version ≢ 0) (sound : list_all (passes_draft rows) rows ≡ true) (none : row_at rows (draft_key version) ≡ None) (row : Row) (i : IsIn row rows) where
  is_edited_row : is_edited rows row ≡ true
  is_edited_row = (and_parts (is_edited rows row) (has_its_draft rows row && has_its_commits rows row) (all_at (passes_draft rows) rows row sound i)).0

  has_its : has_its_draft rows row ≡ true
  has_its = (and_parts (has_its_draft rows row) (has_its_commits rows row) (and_parts (is_edited rows row) (has_its_draft rows row && has_its_commits rows row) (all_at (passes_draft rows) rows row sound i)).1).0

  not_own : (b : Bool) → (row.key.version == version) ≡ b → b ≡ false
  not_own false e = refl
  not_own true e =
      let is : row.key.version ≡ version = eqb-true row.key.version version e in
      let b : (row.key.version == 0) ≡ false = ap (λ v. v == 0) is ∙ ne_eqb version 0 n in
      let c : root_in rows row.key.version ≡ None = ap (λ v. root_in rows v) is ∙ ap (option_and_then root_of) none in
      let no : is_edited rows row ≡ false = ap (λ x. x || is_part_of (root_in rows row.key.version) row) b ∙ ap (λ (o : Option Root). is_part_of o row) c in
      absurd (false≢true (sym no ∙ is_edited_row))

  not_draft : (b : Bool) → (is_live row && stands_at (draft_key version) row) ≡ b → b ≡ false
  not_draft false e = refl
  not_draft true e =
      let parts = and_parts (is_live row) (stands_at (draft_key version) row) e in
      let s = stands_place (draft_key version) row parts.1 in
      let entity : row.key.entity ≡ E.Draft = same_entity row.key.entity E.Draft (sym s.entity) in
      let at : row.key.version ≡ 0 = eqb-true row.key.version 0 parts.0 in
      let id : row.key.id ≡ version = sym s.id in
      let second : row.key.second ≡ 0 = sym s.second in
      let key : row.key ≡ draft_key version = λ j. record { entity = entity j; version = at j; id = id j; second = second j } in
      absurd (false≢true (sym (ap is_some none) ∙ found_in rows row (draft_key version) i key))

  not_commit : (b : Bool) → is_commit version row ≡ b → b ≡ false
  not_commit false e = refl
  not_commit true e =
      let parts = and_parts (is_live row) (is_entity E.DraftCommit row.key.entity && (row.key.id == version)) e in
      let more = and_parts (is_entity E.DraftCommit row.key.entity) (row.key.id == version) parts.1 in
      let is : row.key.id ≡ version = eqb-true row.key.id version more.1 in
      let no : has_its_draft rows row ≡ false = ap (λ b. not b || has_draft rows row.key.id) more.0 ∙ (ap (λ v. has_draft rows v) is ∙ ap is_some none) in
      absurd (false≢true (sym no ∙ has_its))

  no_commit : is_commit version row ≡ false
  no_commit = not_commit (is_commit version row) refl

  pub not_of : is_of_draft version row ≡ false
  not_of =
      ap (λ x. x || ((is_live row && stands_at (draft_key version) row) || is_commit version row)) (not_own (row.key.version == version) refl)
      ∙ (ap (λ x. x || is_commit version row) (not_draft (is_live row && stands_at (draft_key version) row) refl) ∙ no_commit)

-- ---- so it is merged into what was there

pub and_last : {X : Type 0} (P : X → Type 0) (xs : List X) (y : X) → AllByRecursion P xs → P y → AllByRecursion P (xs ++ y ∷ [])
and_last P [] y all p = (p, tt)
and_last P (x ∷ xs) y all p = (all.0, and_last P xs y all.1 p)

copied_none : (version : ℕ) (rows : List Row) → version ≢ 0 → AllByRecursion (λ row. is_commit version row ≡ false) (map (at_version version) rows)
copied_none version [] n = tt
copied_none version (row ∷ rows) n = (ap (λ b. b && (is_entity E.DraftCommit row.key.entity && (row.key.id == version))) (ne_eqb version 0 n), copied_none version rows n)

commit_by_key : (version : ℕ) (a b : Row) → a.key ≡ b.key → is_commit version a ≡ is_commit version b
commit_by_key version a b e = rw e refl

pub no_commits : (rows : List Row) (version : ℕ) (root : Root) → version ≢ 0 → list_all (passes_draft rows) rows ≡ true → row_at rows (draft_key version) ≡ None → commits (made rows version root) version ≡ []
unfolding made
no_commits rows version root n sound none =
    filter-with (is_commit version) (commit_by_key version) (made_rows rows version root) rows
    (and_last (λ row. is_commit version row ≡ false) (copies rows version root) (new_draft version root) (copied_none version (filter (is_part root) (live rows)) n) refl)
    ∙ filter_none (is_commit version) rows (each_of (λ row. is_commit version row ≡ false) rows (λ row i. no_commit rows version n sound none row i))

pub dropped_none : (rows : List Row) (version : ℕ) → version ≢ 0 → list_all (passes_draft rows) rows ≡ true → row_at rows (draft_key version) ≡ None → dropped rows version ≡ rows
unfolding dropped
dropped_none rows version n sound none =
    filter_all (λ row. not (is_of_draft version row)) rows (each_of (λ row. not (is_of_draft version row) ≡ true) rows (λ row i. ap not (not_of rows version n sound none row i)))

merged_made : (rows : List Row) (version : ℕ) (root : Root) → IsInKeyOrder rows → version ≢ 0 → list_all (passes_draft rows) rows ≡ true → row_at rows (draft_key version) ≡ None → merge (made rows version root) version ≡ Ok rows
unfolding merge log
merged_made rows version root up n sound none =
    let now = made rows version root in
    ap (λ b. if b then merged_with now version (replayed (live_view now) (flat_map logged (commits now version))) else Err (B.NoSuchVersion version)) (has_made rows version root)
    ∙ (ap (λ (cs : List Row). merged_with now version (replayed (live_view now) (flat_map logged cs))) (no_commits rows version root n sound none)
    ∙ (ap (λ (all : List Row). Ok (dropped all version)) (parts_together key_cmp row_key key_cmp_total is_live now (made_in_order rows version root up))
    ∙ ap Ok (made_apart rows version root ∙ dropped_none rows version n sound none)))

pub second_none : (a b : Option Broken) (rest : List (Option Broken)) → first (a ∷ b ∷ rest) ≡ None → b ≡ None
second_none None None rest e = refl
second_none None (Some broken) rest e = e
second_none (Some broken) b rest e = cc

pub not_there : (version : ℕ) (found : Option Row) → (if is_some found then Some (B.VersionExists version) else None) ≡ None → found ≡ None
not_there version None e = refl
not_there version (Some row) e = cc

pub at_once : (rows now : List Row) (version : ℕ) (name : List ℕ) (id : ℕ) → IsInKeyOrder rows → list_all (passes_draft rows) rows ≡ true → version ≢ 0 → make_draft rows version name id ≡ Ok now → merge now version ≡ Ok rows
at_once rows now version name id up sound n e =
    let m = made_is rows now version name id e in
    let none = not_there version (row_at rows (draft_key version)) (second_none (not_root m.root) (version_exists rows version) (no_such_root rows m.root ∷ too_many_made rows version m.root ∷ []) m.unbroken) in
    subst (λ (after : List Row). merge after version ≡ Ok rows) m.is (merged_made rows version m.root up n sound none)

-- where a draft is made, nothing was of it
pub nothing_was : (rows now : List Row) (version : ℕ) (name : List ℕ) (id : ℕ) → list_all (passes_draft rows) rows ≡ true → version ≢ 0 → make_draft rows version name id ≡ Ok now → dropped rows version ≡ rows
nothing_was rows now version name id sound n e =
    let m = made_is rows now version name id e in
    let none = not_there version (row_at rows (draft_key version)) (second_none (not_root m.root) (version_exists rows version) (no_such_root rows m.root ∷ too_many_made rows version m.root ∷ []) m.unbroken) in
    dropped_none rows version n sound none
