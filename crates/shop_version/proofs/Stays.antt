-- Which rows still pass the rule on drafts where others are changed.
use Rattle.std.proofs.Common.{◌≡◌, ◌≢◌, ℕ, Bool, true, false, not, ◌&&◌, ◌||◌, ◌==◌, List, refl, sym, ap, subst, ◌∙◌, Option, Some, None}
use Rattle.std.specs.Prelude.{length, is_some}
use Rattle.std.specs.List.{list_any, AllByRecursion}
use Rattle.std.specs.Option.{option_and_then}
use Rattle.std.proofs.lemmas.Bool.{and_parts, and_from, eqb-true, eq-eqb, ne_eqb, false≢true}
use Rattle.closure.proofs.Members.{of_filter}
use Rattle.shop_defs.specs.declared.entity.Entity.{Entity}
use Rattle.shop_defs.specs.declared.entity.Entity.TheVariants as E
use Rattle.shop_defs.specs.declared.key.Key.{Key}
use Rattle.shop_defs.specs.declared.row.Row.{Row}
use Rattle.shop_defs.specs.Fitting.{is_writable, parts_fit, row_key_fits}
use Rattle.shop_defs.specs.Rows.{row_at, field_of}
use Rattle.shop_defs.specs.Tables.{info_of}
use Rattle.shop_defs.proofs.EachLine.{same_entity}
use Rattle.shop_operations.specs.Deletes.{stands_at}
use Rattle.shop_operations.specs.References.{is_entity, is_live, live}
use Rattle.shop_soundness.specs.WellFormed.{unwritten}
use Rattle.shop_soundness.proofs.Lists.{each_of}
use Rattle.shop_drafts.specs.Aggregates.{is_part}
use Rattle.shop_drafts.specs.Damage.{passes_draft, is_edited, is_part_of, has_draft, has_its_draft, has_its_commits, count_up, is_number}
use Rattle.shop_drafts.specs.Drafts.{draft_key, commit_key, root_of, root_in, commits, is_commit}
use Rattle.shop_drafts.specs.Making.{is_of_draft, dropped}
use Rattle.shop_drafts.specs.declared.aggregate.Member.{Member}
use Rattle.shop_drafts.specs.declared.aggregate.Root.{Root}
use Rattle.shop_drafts.specs.declared.aggregate.TheConstants.{COMMITS, MEMBERS}
use Rattle.shop_drafts.proofs.Apart.{filter_swap, of_draft_by_key}
use Rattle.shop_drafts.proofs.Orders.{filter_all}
use Rattle.shop_drafts.proofs.Shown.{found_kept, other_draft}
use Rattle.shop_version.specs.Taking.{of_member}
use Rattle.shop_version.proofs.Commits.{commit_key_is}
use Rattle.shop_version.proofs.Own.{part_member}

-- ---- tests

or_left : (a b : Bool) → a ≡ true → (a || b) ≡ true
or_left a b e = ap (λ x. x || b) e

or_right : (a b : Bool) → a ≡ false → (a || b) ≡ b
or_right a b e = ap (λ x. x || b) e

-- ---- drafts and commits are no part of what a draft edits, and no operation writes them

no_member_draft : list_any (λ (member : Member). is_entity member.entity E.Draft) MEMBERS ≡ false
no_member_draft = refl

no_member_commit : list_any (λ (member : Member). is_entity member.entity E.DraftCommit) MEMBERS ≡ false
no_member_commit = refl

not_member : (of : Entity) (row : Row) → list_any (λ (member : Member). is_entity member.entity of) MEMBERS ≡ false → list_any (of_member row) MEMBERS ≡ true → (b : Bool) → is_entity of row.key.entity ≡ b → b ≡ false
not_member of row none some true e =
    let same : of ≡ row.key.entity = same_entity of row.key.entity (eqb-true _ _ e) in
    absurd (false≢true (sym (subst (λ (entity : Entity). list_any (λ (member : Member). is_entity member.entity entity) MEMBERS ≡ false) same none) ∙ some))
not_member of row none some false e = refl

pub part_no_draft : (root : Root) (row : Row) → is_part root row ≡ true → is_entity E.Draft row.key.entity ≡ false
part_no_draft root row part = not_member E.Draft row no_member_draft (part_member root row part) (is_entity E.Draft row.key.entity) refl

pub part_no_commit : (root : Root) (row : Row) → is_part root row ≡ true → is_entity E.DraftCommit row.key.entity ≡ false
part_no_commit root row part = not_member E.DraftCommit row no_member_commit (part_member root row part) (is_entity E.DraftCommit row.key.entity) refl

draft_unwritten : is_writable E.Draft ≡ false
unfolding info_of
draft_unwritten = refl

commit_unwritten : is_writable E.DraftCommit ≡ false
unfolding info_of
commit_unwritten = refl

not_written : (of : Entity) (row : Row) → is_writable of ≡ false → is_writable row.key.entity ≡ true → (b : Bool) → is_entity of row.key.entity ≡ b → b ≡ false
not_written of row none some true e =
    let same : of ≡ row.key.entity = same_entity of row.key.entity (eqb-true _ _ e) in
    absurd (false≢true (sym (subst (λ (entity : Entity). is_writable entity ≡ false) same none) ∙ some))
not_written of row none some false e = refl

pub written_no_commit : (row : Row) → is_writable row.key.entity ≡ true → is_entity E.DraftCommit row.key.entity ≡ false
written_no_commit row writable = not_written E.DraftCommit row commit_unwritten writable (is_entity E.DraftCommit row.key.entity) refl

pub written_no_draft : (row : Row) → is_writable row.key.entity ≡ true → is_entity E.Draft row.key.entity ≡ false
written_no_draft row writable = not_written E.Draft row draft_unwritten writable (is_entity E.Draft row.key.entity) refl

-- ---- rows that keep no draft

pub plain_its_draft : (rows : List Row) (row : Row) → is_entity E.DraftCommit row.key.entity ≡ false → has_its_draft rows row ≡ true
plain_its_draft rows row e = ap (λ b. not b || has_draft rows row.key.id) e

pub plain_its_commits : (rows : List Row) (row : Row) → is_entity E.Draft row.key.entity ≡ false → has_its_commits rows row ≡ true
plain_its_commits rows row e = ap (λ b. not b || (count_up 1 (commits rows row.key.id) && is_number (field_of row COMMITS) (length (commits rows row.key.id)))) e

-- a live row of an entity that operations may write passes
pub plain_passes : (rows : List Row) (row : Row) → is_live row ≡ true → is_writable row.key.entity ≡ true → passes_draft rows row ≡ true
plain_passes rows row alive writable =
    and_from _ _ (or_left (is_live row) (is_part_of (root_in rows row.key.version) row) alive) (and_from _ _ (plain_its_draft rows row (written_no_commit row writable)) (plain_its_commits rows row (written_no_draft row writable)))

-- and so does a row that its draft edits
pub part_passes : (rows : List Row) (row : Row) (root : Root) → root_in rows row.key.version ≡ Some root → is_part root row ≡ true → passes_draft rows row ≡ true
part_passes rows row root rooted part =
    and_from _ _ (edits (is_live row)) (and_from _ _ (plain_its_draft rows row (part_no_commit root row part)) (plain_its_commits rows row (part_no_draft root row part)))
  where
    edits : (b : Bool) → (b || is_part_of (root_in rows row.key.version) row) ≡ true
    edits true = refl
    edits false = ap (λ (o : Option Root). is_part_of o row) rooted ∙ part

-- the parts of the rule
pub record Passes (rows : List Row) (row : Row) : Type 0 where
  pub edits : is_edited rows row ≡ true
  pub its_draft : has_its_draft rows row ≡ true
  pub its_commits : has_its_commits rows row ≡ true

pub passes_of : (rows : List Row) (row : Row) → passes_draft rows row ≡ true → Passes rows row
passes_of rows row e =
    let one = and_parts (is_edited rows row) (has_its_draft rows row && has_its_commits rows row) e in
    let two = and_parts (has_its_draft rows row) (has_its_commits rows row) one.1 in
    record { edits = one.0; its_draft = two.0; its_commits = two.1 }

-- a row that is no part of what a draft edits is live
live_of : (rows : List Row) (row : Row) (plain : (root : Root) → is_part root row ≡ true → ⊥) → is_edited rows row ≡ true → is_live row ≡ true
live_of rows row plain e = by (is_live row) refl (root_in rows row.key.version) refl e
  where
    by : (b : Bool) → is_live row ≡ b → (o : Option Root) → root_in rows row.key.version ≡ o → is_edited rows row ≡ true → b ≡ true
    by true f o g h = refl
    by false f None g h = let k : false ≡ true = sym (ap (λ b. b || is_part_of (root_in rows row.key.version) row) f ∙ ap (λ (o : Option Root). is_part_of o row) g) ∙ h in absurd (false≢true k)
    by false f (Some root) g h = absurd (plain root (sym (ap (λ b. b || is_part_of (root_in rows row.key.version) row) f ∙ ap (λ (o : Option Root). is_part_of o row) g) ∙ h))

-- ---- the rows that keep a draft

pub commit_is_of : (version : ℕ) (row : Row) → is_commit version row ≡ true → is_of_draft version row ≡ true
commit_is_of version row e = by (row.key.version == version) (is_live row && stands_at (draft_key version) row)
  where
    by : (a b : Bool) → (a || (b || is_commit version row)) ≡ true
    by true b = refl
    by false true = refl
    by false false = e

module _ (version : ℕ) (row : Row) (fits : row_key_fits row.key ≡ true) where
  draft_second : is_entity E.Draft row.key.entity ≡ true → row.key.second ≡ 0
  unfolding info_of
  draft_second e =
      let same : E.Draft ≡ row.key.entity = same_entity E.Draft row.key.entity (eqb-true _ _ e) in
      let fit : (not (row.key.id == 0) && (row.key.second == 0)) ≡ true = subst (λ (entity : Entity). parts_fit entity row.key.id row.key.second ≡ true) (sym same) fits in
      eqb-true row.key.second 0 (and_parts _ _ fit).1

  -- a live draft of that version
  pub draft_key_is : is_live row ≡ true → is_entity E.Draft row.key.entity ≡ true → row.key.id ≡ version → row.key ≡ draft_key version
  draft_key_is alive e id =
      let entity : row.key.entity ≡ E.Draft = sym (same_entity E.Draft row.key.entity (eqb-true _ _ e)) in
      let at : row.key.version ≡ 0 = eqb-true row.key.version 0 alive in
      let second : row.key.second ≡ 0 = draft_second e in
      λ i. record { entity = entity i; version = at i; id = id i; second = second i }

pub draft_is_of : (version : ℕ) (row : Row) → row.key ≡ draft_key version → not (is_of_draft version row) ≡ false
draft_is_of version row e = of_draft_by_key version row (record row { key = draft_key version }) e ∙ by (0 == version)
  where
    by : (b : Bool) → not (b || (((version == version) && true) || false)) ≡ false
    by true = refl
    by false = rw (eq-eqb version version refl) refl

-- ---- rows that are of no draft of the version still pass, where the other drafts and their commits are kept

module _ (rows after : List Row) (version : ℕ) (not_live : version ≢ 0) (same : dropped (unwritten (live after)) version ≡ dropped (unwritten (live rows)) version) where
  draft_found : (all : List Row) (other : ℕ) → other ≢ version → row_at (dropped (unwritten (live all)) version) (draft_key other) ≡ row_at all (draft_key other)
  unfolding dropped
  draft_found all other n =
      found_kept (λ row. not (is_of_draft version row)) (unwritten (live all)) (draft_key other) (λ row e. other_draft version other row not_live n e)
      ∙ (found_kept (λ row. not (is_writable row.key.entity)) (live all) (draft_key other) (λ row e. ap (λ (k : Key). not (is_writable k.entity)) e ∙ ap not draft_unwritten)
      ∙ found_kept is_live all (draft_key other) (λ row e. ap (λ (k : Key). k.version == 0) e))

  pub drafts_same : (other : ℕ) → other ≢ version → row_at after (draft_key other) ≡ row_at rows (draft_key other)
  drafts_same other n = sym (draft_found after other n) ∙ (ap (λ all. row_at all (draft_key other)) same ∙ draft_found rows other n)

  roots_same : (other : ℕ) → other ≢ version → root_in after other ≡ root_in rows other
  roots_same other n = ap (option_and_then root_of) (drafts_same other n)

  commit_other : (other : ℕ) (row : Row) → other ≢ version → is_commit other row ≡ true → not (is_of_draft version row) ≡ true
  commit_other other row n e =
      of_draft_by_key version row (record row { key = commit_key other row.key.second }) (commit_key_is other row.key.second row e refl)
      ∙ by (0 == version) (ne_eqb 0 version (λ z. not_live (sym z))) (other == version) (ne_eqb other version n)
    where
      by : (a : Bool) → a ≡ false → (b : Bool) → b ≡ false → not (a || (false || (true && b))) ≡ true
      by true e b f = absurd (false≢true (sym e))
      by false e true f = absurd (false≢true (sym f))
      by false e false f = refl

  commits_found : (all : List Row) (other : ℕ) → other ≢ version → commits (dropped (unwritten (live all)) version) other ≡ commits all other
  unfolding dropped
  commits_found all other n =
      filter_swap (is_commit other) (λ row. not (is_of_draft version row)) (unwritten (live all))
      ∙ (filter_all (λ row. not (is_of_draft version row)) (commits (unwritten (live all)) other) (each (unwritten (live all)) (λ row. not (is_of_draft version row)) (λ row e. commit_other other row n e))
      ∙ (filter_swap (is_commit other) (λ row. not (is_writable row.key.entity)) (live all)
      ∙ (filter_all (λ row. not (is_writable row.key.entity)) (commits (live all) other) (each (live all) (λ row. not (is_writable row.key.entity)) (λ row e. ap (λ (k : Key). not (is_writable k.entity)) (commit_key_is other row.key.second row e refl) ∙ ap not commit_unwritten))
      ∙ (filter_swap (is_commit other) is_live all
      ∙ filter_all is_live (commits all other) (each all is_live (λ row e. (and_parts _ _ e).0))))))
    where
      each : (some : List Row) (p : Row → Bool) → ((row : Row) → is_commit other row ≡ true → p row ≡ true) → AllByRecursion (λ row. p row ≡ true) (commits some other)
      each some p holds = each_of (λ row. p row ≡ true) (commits some other) (λ row i. holds row (of_filter (is_commit other) some row i).passes)

  pub commits_same : (other : ℕ) → other ≢ version → commits after other ≡ commits rows other
  commits_same other n = sym (commits_found after other n) ∙ (ap (λ all. commits all other) same ∙ commits_found rows other n)

  module _ (row : Row) (fits : row_key_fits row.key ≡ true) (apart : not (is_of_draft version row) ≡ true) (passed : passes_draft rows row ≡ true) where
    was : Passes rows row
    was = passes_of rows row passed

    not_of : is_of_draft version row ≡ true → ⊥
    not_of e = false≢true (sym (ap not e) ∙ apart)

    version_apart : row.key.version ≢ version
    version_apart e = not_of (ap (λ b. b || ((is_live row && stands_at (draft_key version) row) || is_commit version row)) (eq-eqb row.key.version version e))

    still_edited : is_edited after row ≡ true
    still_edited = ap (λ (o : Option Root). is_live row || is_part_of o row) (roots_same row.key.version version_apart) ∙ was.edits

    still_draft : (b : Bool) → is_entity E.DraftCommit row.key.entity ≡ b → has_its_draft after row ≡ true
    still_draft false e = plain_its_draft after row e
    still_draft true e =
        let alive : is_live row ≡ true = live_of rows row (λ root part. false≢true (sym (part_no_commit root row part) ∙ e)) was.edits in
        let id : row.key.id ≢ version = λ z. not_of (commit_is_of version row (and_from _ _ alive (and_from _ _ e (eq-eqb row.key.id version z)))) in
        let there : has_draft rows row.key.id ≡ true = sym (ap (λ b. not b || has_draft rows row.key.id) e) ∙ was.its_draft in
        ap (λ b. not b || has_draft after row.key.id) e ∙ (ap is_some (drafts_same row.key.id id) ∙ there)

    still_commits : (b : Bool) → is_entity E.Draft row.key.entity ≡ b → has_its_commits after row ≡ true
    still_commits false e = plain_its_commits after row e
    still_commits true e =
        let alive : is_live row ≡ true = live_of rows row (λ root part. false≢true (sym (part_no_draft root row part) ∙ e)) was.edits in
        let id : row.key.id ≢ version = λ z. false≢true (sym (draft_is_of version row (draft_key_is version row fits alive e z)) ∙ apart) in
        ap (λ (all : List Row). not (is_entity E.Draft row.key.entity) || (count_up 1 all && is_number (field_of row COMMITS) (length all))) (commits_same row.key.id id) ∙ was.its_commits

    pub still_passes : passes_draft after row ≡ true
    still_passes = and_from _ _ still_edited (and_from _ _ (still_draft (is_entity E.DraftCommit row.key.entity) refl) (still_commits (is_entity E.Draft row.key.entity) refl))

-- ---- what is the same where nothing but the draft changes

kept_swap : (rows : List Row) (version : ℕ) → dropped (unwritten (live rows)) version ≡ unwritten (live (dropped rows version))
unfolding dropped
kept_swap rows version =
    filter_swap (λ row. not (is_of_draft version row)) (λ row. not (is_writable row.key.entity)) (live rows)
    ∙ ap unwritten (filter_swap (λ row. not (is_of_draft version row)) is_live rows)

pub keepers_same : (rows after : List Row) (version : ℕ) → dropped after version ≡ dropped rows version → dropped (unwritten (live after)) version ≡ dropped (unwritten (live rows)) version
keepers_same rows after version e = kept_swap after version ∙ (ap (λ (all : List Row). unwritten (live all)) e ∙ sym (kept_swap rows version))
