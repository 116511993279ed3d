-- The rows that a batch in a draft puts beside the draft's own: the draft's row with a commit more, and the commit.
use Rattle.std.proofs.Common.{◌≡◌, ◌<◌, ◌≤◌, ◌+◌, ◌^◌, ℕ, pos, true, not, List, [], ◌∷◌, length, count_by, arith, refl, ap, subst, ◌∙◌, Option, Some, None, if◌then◌else◌}
use Rattle.std.specs.Prelude.{◌&&◌, ◌||◌, is_some}
use Rattle.std.specs.List.{fold}
use Rattle.std.proofs.lemmas.Bool.{and_parts, leb-true, lt-ltb}
use Rattle.std.proofs.lemmas.Bool.Decides.{Decides-int_eq}
use Rattle.std.proofs.lemmas.List.Sums.{length-filter}
use Rattle.closure.proofs.Members.{all_at}
use Rattle.shop_defs.specs.declared.entity.Entity.{Entity}
use Rattle.shop_defs.specs.declared.entity.Entity.TheVariants as E
use Rattle.shop_defs.specs.declared.key.Key.{Key}
use Rattle.shop_defs.specs.declared.op.Op.{Op}
use Rattle.shop_defs.specs.declared.row.Row.{Row}
use Rattle.shop_defs.specs.declared.value.Value.{Value}
use Rattle.shop_defs.specs.declared.value.Value.TheVariants as V
use Rattle.shop_defs.specs.Rows.{row_at, field_in, field_of}
use Rattle.shop_defs.specs.Tables.{fields_of}
use Rattle.shop_operations.specs.References.{is_entity, ident}
use Rattle.shop_operations.specs.Upserts.{field_number, give, fill, given_to}
use Rattle.shop_operations.proofs.Fields.{put_other, put_same}
use Rattle.keyed.specs.Keyed.{put}
use Rattle.std.specs.Ordering.{nat_cmp}
use Rattle.shop_soundness.proofs.Lists.{count_under}
use Rattle.shop_drafts.specs.Damage.{count_up, is_number, passes_draft, has_its_commits, has_its_draft, is_edited}
use Rattle.shop_drafts.specs.Drafts.{draft_key, commits, is_commit, root_with, named_entity, root_of}
use Rattle.shop_drafts.specs.Soundness.{AreDrafted}
use Rattle.shop_drafts.specs.Writing.{with_commits}
use Rattle.shop_drafts.specs.declared.aggregate.TheConstants.{COMMITS}
use Rattle.shop_rows.proofs.Mentioning.{found_key}
use Rattle.shop_version.specs.Numbers.{number_told, small_number}
use Rattle.shop_version.proofs.Found.{in_found}

-- ---- the draft's row

names_entity : (name : Option Value) (id : Option ℕ) → is_some (root_with (named_entity name) id) ≡ true → is_some name ≡ true
names_entity None id e = cc
names_entity (Some name) id e = refl

names_id : (entity : Option Entity) (value : Option Value) → is_some (root_with entity (ident value)) ≡ true → is_some value ≡ true
names_id None value e = cc
names_id (Some entity) None e = cc
names_id (Some entity) (Some value) e = refl

-- a draft's row with a field that is needed in place of another lacks none
filled : (fields : List (ℕ × Value)) (value : Value) → is_some (field_in fields 1) ≡ true → is_some (field_in fields 2) ≡ true
    → fold fill (give fields (3, Some value)) (fields_of E.Draft) ≡ give fields (3, Some value)
unfolding fields_of
filled fields value one two =
    let first : is_some (field_in (put nat_cmp field_number fields (3, value)) 1) ≡ true = ap is_some (put_other fields 1 3 value refl) ∙ one in
    let second : is_some (field_in (put nat_cmp field_number fields (3, value)) 2) ≡ true = ap is_some (put_other fields 2 3 value refl) ∙ two in
    let third : is_some (field_in (put nat_cmp field_number fields (3, value)) 3) ≡ true = ap is_some (put_same fields 3 value) in
    rw (first, second, third) refl

pub with_commits_is : (draft : Row) (number : ℕ) (op : Op) → draft.key.entity ≡ E.Draft → is_some (root_of draft) ≡ true → op.fields ≡ (COMMITS, Some (V.Int (pos number))) ∷ [] → given_to draft op ≡ with_commits number draft
with_commits_is draft number op entity root given =
    ap (λ fields. record draft { fields = fields })
    (ap (λ entries. fold fill (fold give draft.fields entries) (fields_of draft.key.entity)) given
    ∙ (ap (λ (e : Entity). fold fill (give draft.fields (3, Some (V.Int (pos number)))) (fields_of e)) entity
    ∙ filled draft.fields (V.Int (pos number)) (names_entity (field_of draft 1) (ident (field_of draft 2)) root) (names_id (named_entity (field_of draft 1)) (field_of draft 2) root)))

-- ---- the number of the next commit

told_is : (value : Option Value) (number : ℕ) → number < 2 ^ 32 → is_number value number ≡ true → number_told value ≡ number
told_is None number low e = cc
told_is (Some (V.Int value)) number low e =
    ap small_number ((Decides-int_eq value (pos number)).0 e) ∙ ap (λ b. if b then number else 0) (lt-ltb number (2 ^ 32) low)
told_is (Some value) number low e = cc

module _ (rows : List Row) (version : ℕ) (drafted : AreDrafted rows) where
  pub few : length (commits rows version) ≤ 200000
  few =
      let count = length-filter (is_commit version) rows in
      let under = count_under (is_commit version) (λ row. is_entity E.DraftCommit row.key.entity) rows (λ row i e. (and_parts _ _ (and_parts _ _ e).1).0) in
      let bound = leb-true (count_by (λ row. is_entity E.DraftCommit row.key.entity) rows + 0) 200000 drafted.bounded in
      omega arith

  pub counted : (draft : Row) → row_at rows (draft_key version) ≡ Some draft → is_number (field_of draft COMMITS) (length (commits rows version)) ≡ true
  counted draft there =
      let key : draft.key ≡ draft_key version = found_key rows (draft_key version) draft there in
      let passes : passes_draft rows draft ≡ true = all_at (passes_draft rows) rows draft drafted.passes (in_found rows (draft_key version) draft there) in
      let has : has_its_commits rows draft ≡ true = (and_parts (has_its_draft rows draft) (has_its_commits rows draft) (and_parts (is_edited rows draft) (has_its_draft rows draft && has_its_commits rows draft) passes).1).1 in
      let same : (count_up 1 (commits rows version) && is_number (field_of draft COMMITS) (length (commits rows version))) ≡ true =
      subst (λ (k : Key). (not (is_entity E.Draft k.entity) || (count_up 1 (commits rows k.id) && is_number (field_of draft COMMITS) (length (commits rows k.id)))) ≡ true) key has in
      (and_parts _ _ same).1

  -- how many are told
  pub told : (draft : Row) → row_at rows (draft_key version) ≡ Some draft → number_told (field_of draft COMMITS) ≡ length (commits rows version)
  told draft there = told_is (field_of draft COMMITS) (length (commits rows version)) (let f = few in omega arith) (counted draft there)
