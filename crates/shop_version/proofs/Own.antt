-- The rows of a version are those of the entities whose rows may stand in versions.
use Rattle.std.proofs.Common.{◌≡◌, ◌≢◌, ℕ, Bool, true, false, ◌||◌, ◌==◌, List, [], ◌∷◌, refl, sym, ap, ◌∙◌, Option, Some, None}
use Rattle.std.specs.List.{list_any, AllByRecursion}
use Rattle.std.proofs.lemmas.Bool.{and_parts, eqb-true, ne_eqb}
use Rattle.closure.specs.Closure.{IsIn}
use Rattle.closure.proofs.Members.{of_filter}
use Rattle.shop_defs.specs.declared.row.Row.{Row}
use Rattle.shop_defs.specs.Rows.{IsInKeyOrder, row_key}
use Rattle.shop_defs.specs.Keys.{key_cmp}
use Rattle.shop_defs.proofs.Keys.{key_cmp_total}
use Rattle.shop_defs.proofs.EachLine.{each_passes}
use Rattle.shop_operations.specs.References.{of_version}
use Rattle.shop_soundness.proofs.Lists.{each_of, of_each}
use Rattle.shop_drafts.specs.Aggregates.{is_part, is_part_by, is_member}
use Rattle.shop_drafts.specs.Damage.{passes_draft, is_part_of}
use Rattle.shop_drafts.specs.Drafts.{root_in}
use Rattle.shop_drafts.specs.Soundness.{AreDrafted}
use Rattle.shop_drafts.specs.declared.aggregate.Member.{Member}
use Rattle.shop_drafts.specs.declared.aggregate.Root.{Root}
use Rattle.shop_drafts.specs.declared.aggregate.TheConstants.{MEMBERS}
use Rattle.shop_write.proofs.InOrder.{ascends_filter, filter_all}
use Rattle.shop_version.specs.Taking.{parts, of_member}
use Rattle.shop_version.proofs.Cut.{parts_are, rises_from}

pub members_rise : rises_from 0 MEMBERS ≡ true
members_rise = refl

any_more : (p q : Member → Bool) (members : List Member) → ((member : Member) → p member ≡ true → q member ≡ true) → list_any p members ≡ true → list_any q members ≡ true
any_more p q [] f e = e
any_more p q (member ∷ members) f e = by (any_more p q members f) (p member) refl (q member) refl
  where
    by : (list_any p members ≡ true → list_any q members ≡ true) → (b : Bool) → p member ≡ b → (c : Bool) → q member ≡ c → list_any q (member ∷ members) ≡ true
    by more true g true h = rw h refl
    by more true g false h = let k : q member ≡ true = f member g in let l : false ≡ true = sym h ∙ k in cc
    by more false g true h = rw h refl
    by more false g false h = rw h (more (sym (ap (λ b. b || list_any p members) g) ∙ e))

-- a row that is part of what a draft edits is of the entity of a member
pub part_member : (root : Root) (row : Row) → is_part root row ≡ true → list_any (of_member row) MEMBERS ≡ true
unfolding is_part_by
part_member root row e = any_more (is_member root row) (of_member row) MEMBERS (λ member f. (and_parts _ _ (and_parts _ _ f).1).0) e

-- a row of a draft is part of what it edits
pub record IsEdited (rows : List Row) (row : Row) : Type 0 where
  pub root : Root
  pub is_root : root_in rows row.key.version ≡ Some root
  pub part : is_part root row ≡ true

pub edited : (rows : List Row) (row : Row) → passes_draft rows row ≡ true → row.key.version ≢ 0 → IsEdited rows row
edited rows row e n = by (root_in rows row.key.version) refl (sym (ap (λ b. b || is_part_of (root_in rows row.key.version) row) (ne_eqb row.key.version 0 n)) ∙ (and_parts _ _ e).0)
  where
    by : (found : Option Root) → root_in rows row.key.version ≡ found → is_part_of (root_in rows row.key.version) row ≡ true → IsEdited rows row
    by None f g = let h : is_part_of None row ≡ true = sym (ap (λ o. is_part_of o row) f) ∙ g in cc
    by (Some root) f g = record { root = root; is_root = f; part = sym (ap (λ o. is_part_of o row) f) ∙ g }

module _ (rows : List Row) (version : ℕ) (drafted : AreDrafted rows) (not_live : version ≢ 0) where
  pub passes_each : (row : Row) → IsIn row rows → passes_draft rows row ≡ true
  passes_each row i = of_each (λ row. passes_draft rows row ≡ true) rows row (each_passes (passes_draft rows) rows drafted.passes) i

  pub own_edited : (row : Row) → IsIn row rows → (row.key.version == version) ≡ true → IsEdited rows row
  own_edited row i e = edited rows row (passes_each row i) (λ z. not_live (sym (eqb-true row.key.version version e) ∙ z))

  own_up : IsInKeyOrder (of_version version rows)
  own_up = ascends_filter key_cmp row_key key_cmp_total (λ row. row.key.version == version) rows drafted.in_order

  each_member : AllByRecursion (λ row. list_any (of_member row) MEMBERS ≡ true) (of_version version rows)
  each_member = each_of (λ row. list_any (of_member row) MEMBERS ≡ true) (of_version version rows) (λ row i. by row (of_filter (λ row. row.key.version == version) rows row i))
    where
      by : (row : Row) → record { is_in : IsIn row rows; passes : (row.key.version == version) ≡ true } → list_any (of_member row) MEMBERS ≡ true
      by row found = let is = own_edited row found.is_in found.passes in part_member is.root row is.part

  -- entity by entity, these are the rows of the version
  pub own_parts : parts of_member MEMBERS (of_version version rows) ≡ of_version version rows
  own_parts = sym (parts_are of_member (λ row member e. e) MEMBERS 0 (of_version version rows) own_up members_rise) ∙ filter_all (λ row. list_any (of_member row) MEMBERS) (of_version version rows) each_member
