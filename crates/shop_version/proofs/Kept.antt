-- The rows of a draft are those of its version, its own and its commits, in this order.
use Rattle.std.proofs.Common.{◌≡◌, ◌≢◌, ◌<◌, ℕ, Bool, true, false, not, nat_lt, ◌⊎◌, ◌&&◌, ◌||◌, ◌==◌, inl, inr, List, [], ◌∷◌, ◌++◌, length, map, filter, ◌^◌, append_assoc, arith, refl, sym, ap, subst, ◌∙◌, Some}
use Rattle.std.specs.List.{list_any, list_all}
use Rattle.std.specs.declared.cmp.Ordering.TheVariants.{Less}
use Rattle.std.proofs.lemmas.Bool.{and_parts, eqb-true, eq-eqb, ltb-true}
use Rattle.std.proofs.lemmas.List.{map-append}
use Rattle.closure.specs.Closure.{IsIn}
use Rattle.closure.proofs.Members.{any_of}
use Rattle.shop_defs.specs.declared.entity.Entity.TheVariants as E
use Rattle.shop_defs.specs.declared.key.Key.{Key}
use Rattle.shop_defs.specs.declared.row.Row.{Row}
use Rattle.shop_defs.specs.Entities.{entity_number}
use Rattle.shop_defs.specs.Keys.{key_cmp}
use Rattle.shop_defs.specs.Rows.{row_key, row_at, field_of, IsInKeyOrder}
use Rattle.shop_defs.proofs.EachLine.{each_passes, same_entity}
use Rattle.shop_operations.specs.Deletes.{stands_at}
use Rattle.shop_operations.specs.References.{is_entity, is_live, of_version}
use Rattle.shop_soundness.proofs.Lists.{each_of, of_each}
use Rattle.shop_soundness.proofs.Places.{stands_place}
use Rattle.shop_drafts.proofs.Orders.{filter_none}
use Rattle.shop_drafts.specs.Damage.{count_up, is_number, passes_draft, has_its_commits}
use Rattle.shop_drafts.specs.declared.aggregate.TheConstants.{COMMITS}
use Rattle.shop_drafts.proofs.Keys.{found_key}
use Rattle.shop_drafts.specs.Drafts.{draft_key, commits, is_commit}
use Rattle.shop_drafts.specs.Making.{is_of_draft}
use Rattle.shop_drafts.specs.Soundness.{AreDrafted}
use Rattle.shop_drafts.specs.declared.aggregate.Member.{Member}
use Rattle.shop_drafts.specs.declared.aggregate.TheConstants.{MEMBERS}
use Rattle.shop_version.specs.Taking.{of_member, commit_keys, numbers}
use Rattle.shop_version.proofs.Commits.{is_commit_entity, keys_up, of_commits, few_commits}
use Rattle.shop_version.proofs.Cut.{cut_in_two, entity_below, less_itself}
use Rattle.shop_version.proofs.Found.{in_found}
use Rattle.shop_version.proofs.Own.{own_edited, part_member, passes_each}

-- the row is the draft's own
abbrev pub is_draft : ℕ → Row → Bool
is_draft version row = is_live row && stands_at (draft_key version) row

pub draft_is : (version : ℕ) (row : Row) → is_draft version row ≡ true → row.key ≡ draft_key version
draft_is version row e =
    let live : row.key.version ≡ 0 = eqb-true row.key.version 0 (and_parts _ _ e).0 in
    let place = stands_place (draft_key version) row (and_parts _ _ e).1 in
    let entity : row.key.entity ≡ E.Draft = same_entity row.key.entity E.Draft (sym place.entity) in
    let id : row.key.id ≡ version = sym place.id in
    let second : row.key.second ≡ 0 = sym place.second in
    λ i. record { entity = entity i; version = live i; id = id i; second = second i }

draft_passes : (version : ℕ) (row : Row) → row.key ≡ draft_key version → is_draft version row ≡ true
draft_passes version row e = subst (λ (key : Key). ((key.version == 0) && stands_at (draft_key version) (record row { key = key })) ≡ true) (sym e) (by (version == version) (eq-eqb version version refl))
  where
    by : (b : Bool) → b ≡ true → (true && ((true && b) && true)) ≡ true
    by b e = rw e refl

-- members come before drafts
members_below : list_all (λ (member : Member). nat_lt (entity_number member.entity) 24) MEMBERS ≡ true
members_below = refl

pub below_drafts : (row : Row) → list_any (of_member row) MEMBERS ≡ true → entity_number row.key.entity < 24
below_drafts row e =
    let found = any_of (of_member row) MEMBERS e in
    let low = ltb-true (entity_number found.one.entity) 24 (of_each (λ (member : Member). nat_lt (entity_number member.entity) 24 ≡ true) MEMBERS found.one (each_passes (λ (member : Member). nat_lt (entity_number member.entity) 24) MEMBERS members_below) found.is_in) in
    let same = eqb-true (entity_number found.one.entity) (entity_number row.key.entity) found.passes in
    omega arith

-- a list with one row that passes
pub only_one : (p : Row → Bool) (rows : List Row) (row : Row) → IsInKeyOrder rows → IsIn row rows → p row ≡ true → ((other : Row) → IsIn other rows → p other ≡ true → other.key ≡ row.key) → filter p rows ≡ row ∷ []
only_one p [] row up i e only = absurd i
only_one p (x ∷ rows) row up i e only = by (λ j. only_one p rows row up.1 j e (λ other k. only other (inr k))) (p x) refl i
  where
    none : x.key ≡ row.key → filter p rows ≡ []
    none same = filter_none p rows (each_of (λ y. p y ≡ false) rows (λ y j. test y j (p y) refl))
      where
        test : (y : Row) → IsIn y rows → (b : Bool) → p y ≡ b → b ≡ false
        test y j true f = absurd (less_itself x.key (subst (λ key. key_cmp x.key key ≡ Less) (only y (inr j) f ∙ sym same) (of_each (λ z. key_cmp x.key z.key ≡ Less) rows y up.0 j)))
        test y j false f = refl

    by : (IsIn row rows → filter p rows ≡ row ∷ []) → (b : Bool) → p x ≡ b → (x ≡ row) ⊎ IsIn row rows → filter p (x ∷ rows) ≡ row ∷ []
    by more true f (inl same) = rw (f, none (ap row_key same), same) refl
    by more true f (inr j) = absurd (less_itself x.key (subst (λ key. key_cmp x.key key ≡ Less) (sym (only x (inl refl) f)) (of_each (λ z. key_cmp x.key z.key ≡ Less) rows row up.0 j)))
    by more false f (inl same) = let g : p x ≡ true = ap p same ∙ e in let h : false ≡ true = sym f ∙ g in cc
    by more false f (inr j) = rw f (more j)

module _ (rows : List Row) (version : ℕ) (drafted : AreDrafted rows) (not_live : version ≢ 0) where
  own_low : (row : Row) → IsIn row rows → (row.key.version == version) ≡ true → entity_number row.key.entity < 24
  own_low row i e = let is = own_edited rows version drafted not_live row i e in below_drafts row (part_member is.root row is.part)

  module _ (draft : Row) (there : row_at rows (draft_key version) ≡ Some draft) where
    draft_in : IsIn draft rows
    draft_in = in_found rows (draft_key version) draft there

    key : draft.key ≡ draft_key version
    key = found_key rows (draft_key version) draft there

    log_high : (other : Row) → (is_draft version other || is_commit version other) ≡ true → 23 < entity_number other.key.entity
    log_high other e = by (is_draft version other) refl
      where
        by : (b : Bool) → is_draft version other ≡ b → 23 < entity_number other.key.entity
        by true f = let same : entity_number other.key.entity ≡ 24 = ap (λ (k : Key). entity_number k.entity) (draft_is version other f) in omega arith
        by false f =
            let g : is_commit version other ≡ true = sym (ap (λ b. b || is_commit version other) f) ∙ e in
            let same : 25 ≡ entity_number other.key.entity = eqb-true 25 (entity_number other.key.entity) (is_commit_entity version other g) in omega arith

    log_apart : (row other : Row) → is_draft version row ≡ true → is_commit version other ≡ true → key_cmp row.key other.key ≡ Less
    log_apart row other e f =
        let low : entity_number row.key.entity ≡ 24 = ap (λ (k : Key). entity_number k.entity) (draft_is version row e) in
        let high : 25 ≡ entity_number other.key.entity = eqb-true 25 (entity_number other.key.entity) (is_commit_entity version other f) in
        entity_below row.key other.key (omega arith)

    -- one behind the other
    pub draft_rows : filter (is_of_draft version) rows ≡ of_version version rows ++ draft ∷ commits rows version
    draft_rows =
        cut_in_two (λ row. row.key.version == version) (λ row. is_draft version row || is_commit version row) rows drafted.in_order
        (λ row other i j e f. let low = own_low row i e in let high = log_high other f in entity_below row.key other.key (omega arith))
        ∙ ap (λ ys. of_version version rows ++ ys)
        (cut_in_two (is_draft version) (is_commit version) rows drafted.in_order (λ row other i j e f. log_apart row other e f)
        ∙ ap (λ ys. ys ++ commits rows version) (only_one (is_draft version) rows draft drafted.in_order draft_in (draft_passes version draft key) (λ other j e. draft_is version other e ∙ sym key)))

    -- what the draft says of its commits
    pub numbered : (count_up 1 (commits rows version) && is_number (field_of draft COMMITS) (length (commits rows version))) ≡ true
    numbered =
        let passes : passes_draft rows draft ≡ true = passes_each rows version drafted not_live draft draft_in in
        let has : has_its_commits rows draft ≡ true = (and_parts _ _ (and_parts _ _ passes).1).1 in
        let same : (not (is_entity E.Draft draft.key.entity) || (count_up 1 (commits rows draft.key.id) && is_number (field_of draft COMMITS) (length (commits rows draft.key.id)))) ≡ true = has in
        subst (λ (k : Key). (not (is_entity E.Draft k.entity) || (count_up 1 (commits rows k.id) && is_number (field_of draft COMMITS) (length (commits rows k.id)))) ≡ true) key same

    -- their keys
    pub draft_keys : map row_key (filter (is_of_draft version) rows) ≡ map row_key (of_version version rows) ++ draft_key version ∷ commit_keys version (numbers 1 (length (commits rows version)))
    draft_keys =
        ap (map row_key) draft_rows
        ∙ (map-append row_key (of_version version rows) (draft ∷ commits rows version)
        ∙ ap (λ ys. map row_key (of_version version rows) ++ ys)
        (ap (λ k. k ∷ map row_key (commits rows version)) key
        ∙ ap (λ ks. draft_key version ∷ ks) (keys_up version 1 (commits rows version) (λ row i. (of_commits rows version drafted row i).passes) (and_parts _ _ numbered).0)))

    -- the keys that are found one after the other
    pub keys_are : (found pushed all : List Key) (own : Key) (count : ℕ) → found ≡ map row_key (of_version version rows) → own ≡ draft_key version → pushed ≡ found ++ own ∷ [] → count ≡ length (commits rows version)
        → all ≡ pushed ++ commit_keys version (numbers 1 count) → all ≡ map row_key (filter (is_of_draft version) rows)
    keys_are found pushed all own count e k p n a =
        let rest : List Key = commit_keys version (numbers 1 (length (commits rows version))) in
        let again : (map row_key (of_version version rows) ++ draft_key version ∷ []) ++ rest ≡ map row_key (of_version version rows) ++ draft_key version ∷ rest = simp append_assoc in
        a
        ∙ (ap (λ ks. ks ++ commit_keys version (numbers 1 count)) p
        ∙ (ap (λ m. (found ++ own ∷ []) ++ commit_keys version (numbers 1 m)) n
        ∙ (ap (λ k. (found ++ k ∷ []) ++ rest) k
        ∙ (ap (λ f. (f ++ draft_key version ∷ []) ++ rest) e ∙ (again ∙ sym draft_keys)))))
