-- The live rows that a draft of a root edits, found by what refers to the root.
use Rattle.std.proofs.Common.{◌≡◌, ℕ, Bool, true, false, ◌&&◌, ◌||◌, ◌==◌, List, [], ◌∷◌, refl, sym, ap, subst, ◌∙◌, Option, Some, None, Result, Ok, Err, IfOk}
use Rattle.std.specs.Prelude.{map, is_some}
use Rattle.std.specs.List.{AllByRecursion, list_all}
use Rattle.std.proofs.lemmas.Bool.{and_parts, and_from, eqb-true, eq-eqb, false≢true}
use Rattle.std.proofs.lemmas.List.Elements.{filter_agree}
use Rattle.closure.specs.Closure.{IsIn}
use Rattle.closure.proofs.Members.{all_at, in_filter, of_filter}
use Rattle.shop_defs.specs.declared.entity.Entity.{Entity}
use Rattle.shop_defs.specs.declared.entity.Entity.TheVariants as E
use Rattle.shop_defs.specs.declared.key.Key.{Key}
use Rattle.shop_defs.specs.declared.row.Row.{Row}
use Rattle.shop_defs.specs.declared.table.EntityInfo.{EntityInfo}
use Rattle.shop_defs.specs.declared.table.KeyForm.{KeyForm}
use Rattle.shop_defs.specs.declared.table.KeyForm.TheVariants.{OnePart, TwoParts}
use Rattle.shop_defs.specs.declared.table.Part.TheVariants as P
use Rattle.shop_defs.specs.declared.table.TheConstants.{REFERENCES}
use Rattle.shop_defs.specs.Entities.{entity_number}
use Rattle.shop_defs.specs.Fitting.{row_key_fits, line_key_fits}
use Rattle.shop_defs.specs.Keys.{key_cmp}
use Rattle.shop_defs.specs.Rows.{row_key, row_at, IsInKeyOrder}
use Rattle.shop_defs.specs.Tables.{info_of}
use Rattle.shop_defs.proofs.EachLine.{same_entity}
use Rattle.shop_defs.proofs.Keys.{key_cmp_total}
use Rattle.shop_operations.specs.References.{is_entity, is_id, is_live, live, part_of, refers_at}
use Rattle.shop_rows.specs.Lookups.{referrers_by}
use Rattle.shop_soundness.proofs.Lists.{of_each, each_of}
use Rattle.shop_drafts.specs.Aggregates.{is_member}
use Rattle.shop_drafts.specs.Making.{root_key}
use Rattle.shop_drafts.specs.declared.aggregate.Member.{Member}
use Rattle.shop_drafts.specs.declared.aggregate.Root.{Root}
use Rattle.shop_drafts.specs.declared.aggregate.TheConstants.{MEMBERS}
use Rattle.shop_drafts.proofs.Keys.{found_key}
use Rattle.shop_drafts.proofs.Orders.{filter_none}
use Rattle.shop_write.specs.Writes.{has_one_part, line_has_one_part}
use Rattle.shop_write.proofs.InOrder.{ascends_filter}
use Rattle.shop_version.specs.Taking.{IsMember, parts_of}
use Rattle.shop_version.proofs.Found.{in_found}
use Rattle.shop_version.proofs.Kept.{only_one}

or_no : (b : Bool) → (b || false) ≡ b
or_no true = refl
or_no false = refl

-- ---- what is part of a root refers to it, by one reference

-- rows of the member's entity refer to the root by the part that the member names
abbrev IsByReference : Member → Type 0
IsByReference member = (row : Row) (id : ℕ) → is_entity member.entity row.key.entity ≡ true → refers_at REFERENCES row (entity_number member.root) id ≡ is_id (part_of member.part row) id

of_entity : (of : Entity) (P : Row → Type 0) → ((key : Key) (row : Row) → P (record row { key = record key { entity = of } })) → (row : Row) → is_entity of row.key.entity ≡ true → P row
of_entity of P holds row e =
    let same : of ≡ row.key.entity = same_entity of row.key.entity (eqb-true _ _ e) in
    subst (λ (entity : Entity). P (record row { key = record row.key { entity = entity } })) same (holds row.key row)

-- of each line: what is no root refers to the root
abbrev IsFound : Member → Type 0
IsFound member = is_entity member.entity member.root ≡ false → IsByReference member

category_translation : (row : Row) (id : ℕ) → is_entity E.CategoryTranslation row.key.entity ≡ true → refers_at REFERENCES row 3 id ≡ (row.key.id == id)
unfolding refers_at
category_translation row id e = of_entity E.CategoryTranslation (λ (r : Row). refers_at REFERENCES r 3 id ≡ (r.key.id == id)) (λ key r. or_no (key.id == id)) row e

product_translation : (row : Row) (id : ℕ) → is_entity E.ProductTranslation row.key.entity ≡ true → refers_at REFERENCES row 5 id ≡ (row.key.id == id)
unfolding refers_at
product_translation row id e = of_entity E.ProductTranslation (λ (r : Row). refers_at REFERENCES r 5 id ≡ (r.key.id == id)) (λ key r. or_no (key.id == id)) row e

product_category : (row : Row) (id : ℕ) → is_entity E.ProductCategory row.key.entity ≡ true → refers_at REFERENCES row 5 id ≡ (row.key.id == id)
unfolding refers_at
product_category row id e = of_entity E.ProductCategory (λ (r : Row). refers_at REFERENCES r 5 id ≡ (r.key.id == id)) (λ key r. or_no (key.id == id)) row e

product_price : (row : Row) (id : ℕ) → is_entity E.ProductPrice row.key.entity ≡ true → refers_at REFERENCES row 5 id ≡ is_id (part_of (P.Field 1) row) id
unfolding refers_at
product_price row id e = of_entity E.ProductPrice (λ (r : Row). refers_at REFERENCES r 5 id ≡ is_id (part_of (P.Field 1) r) id) (λ key r. or_no (is_id (part_of (P.Field 1) r) id)) row e

members_found : AllByRecursion IsFound MEMBERS
members_found = (λ e. absurd (cc), (λ e. category_translation, (λ e. absurd (cc), (λ e. product_translation, (λ e. product_category, (λ e. product_price, tt))))))

-- of each line: a root has keys of one part, and holds its id in the first
abbrev IsRootLine : Member → Type 0
IsRootLine member = is_entity member.entity member.root ≡ true → (has_one_part member.entity ≡ true) × (member.part ≡ P.Id)

root_lines : AllByRecursion IsRootLine MEMBERS
unfolding has_one_part info_of
root_lines = (λ e. (refl, refl), (λ e. absurd (cc), (λ e. (refl, refl), (λ e. absurd (cc), (λ e. absurd (cc), (λ e. absurd (cc), tt))))))

-- a key of one part has no second
no_second : (line : Option EntityInfo) (id second : ℕ) → line_has_one_part line ≡ true → line_key_fits line id second ≡ true → 0 ≡ second
no_second None id second one fits = absurd (false≢true one)
no_second (Some info) id second one fits = by info.key one fits
  where
    by : (form : KeyForm) → line_has_one_part (Some (record info { key = form })) ≡ true → line_key_fits (Some (record info { key = form })) id second ≡ true → 0 ≡ second
    by OnePart o f = sym (eqb-true second 0 (and_parts _ _ f).1)
    by TwoParts o f = absurd (false≢true o)

no_second_of : (row : Row) → has_one_part row.key.entity ≡ true → row_key_fits row.key ≡ true → 0 ≡ row.key.second
unfolding has_one_part
no_second_of row one fits = no_second (info_of row.key.entity) row.key.id row.key.second one fits

-- ---- the rows by a member

module _ (rows : List Row) (root : Root) (member : Member) (is : IsMember member) where
  -- none by a member of another root
  pub other_parts : is_entity member.root root.entity ≡ false → [] ≡ map row_key (parts_of root member (live rows))
  other_parts e = sym (ap (map row_key) (filter_none (λ row. is_member root row member) (live rows) (each_of (λ row. is_member root row member ≡ false) (live rows) (λ row i. rw e refl))))

  -- those that refer to the root
  pub referring_parts : is_entity member.root root.entity ≡ true → is_entity member.entity root.entity ≡ false → referrers_by member.entity (live rows) (entity_number root.entity) root.id ≡ map row_key (parts_of root member (live rows))
  referring_parts e f = ap (map row_key) (filter_agree (λ row. is_entity member.entity row.key.entity && refers_at REFERENCES row (entity_number root.entity) root.id) (λ row. is_member root row member) (λ row. each row (is_entity member.entity row.key.entity) refl) (live rows))
    where
      number : entity_number member.root ≡ entity_number root.entity
      number = eqb-true _ _ e

      apart : is_entity member.entity member.root ≡ false
      apart = ap (λ n. entity_number member.entity == n) number ∙ f

      each : (row : Row) (b : Bool) → is_entity member.entity row.key.entity ≡ b → (is_entity member.entity row.key.entity && refers_at REFERENCES row (entity_number root.entity) root.id) ≡ is_member root row member
      each row true g =
          let found = of_each IsFound MEMBERS member members_found is apart row root.id g in
          rw (e, g) (ap (λ n. refers_at REFERENCES row n root.id) (sym number) ∙ found)
      each row false g = rw (e, g) refl

  -- the root itself
  module _ (up : IsInKeyOrder rows) (formed : list_all (λ row. row_key_fits row.key) rows ≡ true) (there : is_some (row_at rows (root_key root)) ≡ true) where
    pub root_part : is_entity member.root root.entity ≡ true → is_entity member.entity root.entity ≡ true → root_key root ∷ [] ≡ map row_key (parts_of root member (live rows))
    root_part e f = by (row_at rows (root_key root)) refl there
      where
        number : entity_number member.root ≡ entity_number root.entity
        number = eqb-true _ _ e

        own : is_entity member.entity member.root ≡ true
        own = ap (λ n. entity_number member.entity == n) number ∙ f

        line : (has_one_part member.entity ≡ true) × (member.part ≡ P.Id)
        line = of_each IsRootLine MEMBERS member root_lines is own

        entity : member.entity ≡ root.entity
        entity = same_entity member.entity root.entity (eqb-true _ _ f)

        test : (row : Row) → is_member root row member ≡ (is_entity root.entity row.key.entity && (row.key.id == root.id))
        test row = rw e (ap (λ part. is_entity member.entity row.key.entity && is_id (part_of part row) root.id) line.1 ∙ ap (λ (of : Entity). is_entity of row.key.entity && (row.key.id == root.id)) entity)

        -- a live row that passes has the root's key
        key_of : (other : Row) → IsIn other (live rows) → is_member root other member ≡ true → other.key ≡ root_key root
        key_of other i g =
            let found = of_filter is_live rows other i in
            let parts = and_parts (is_entity root.entity other.key.entity) (other.key.id == root.id) (sym (test other) ∙ g) in
            let of : other.key.entity ≡ root.entity = sym (same_entity root.entity other.key.entity (eqb-true _ _ parts.0)) in
            let at : other.key.version ≡ 0 = eqb-true other.key.version 0 found.passes in
            let id : other.key.id ≡ root.id = eqb-true other.key.id root.id parts.1 in
            let one : has_one_part other.key.entity ≡ true = subst (λ (of : Entity). has_one_part of ≡ true) (entity ∙ sym of) line.0 in
            let second : 0 ≡ other.key.second = no_second_of other one (all_at (λ row. row_key_fits row.key) rows other formed found.is_in) in
            λ j. record { entity = of j; version = at j; id = id j; second = (sym second) j }

        by : (found : Option Row) → row_at rows (root_key root) ≡ found → is_some found ≡ true → root_key root ∷ [] ≡ map row_key (parts_of root member (live rows))
        by None g h = absurd (false≢true h)
        by (Some row) g h =
            let key : row.key ≡ root_key root = found_key rows (root_key root) row g in
            let alive : is_live row ≡ true = ap (λ (k : Key). k.version == 0) key in
            let in_live : IsIn row (live rows) = in_filter is_live rows row (in_found rows (root_key root) row g) alive in
            let passes : is_member root row member ≡ true = test row ∙ (ap (λ (k : Key). is_entity root.entity k.entity && (k.id == root.id)) key ∙ and_from _ _ (eq-eqb (entity_number root.entity) (entity_number root.entity) refl) (eq-eqb root.id root.id refl)) in
            let only = only_one (λ row. is_member root row member) (live rows) row (ascends_filter key_cmp row_key key_cmp_total is_live rows up) in_live passes (λ other i q. key_of other i q ∙ sym key) in
            ap (λ k. k ∷ []) (sym key) ∙ sym (ap (map row_key) only)

-- keys that are found, under another name
pub renamed : {E : Type 0} (answer : Result (List Key) E) (keys others : List Key) → IfOk answer (λ found. found ≡ keys) → keys ≡ others → IfOk answer (λ found. found ≡ others)
renamed (Ok found) keys others is e = is ∙ e
renamed (Err fault) keys others is e = tt
