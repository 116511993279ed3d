-- Where no row owns too many rows, no row has an owner with too many.
use Rattle.std.proofs.Common.{◌≡◌, ℕ, ◌≤◌, Bool, true, false, ◌&&◌, List, Option, Some, None, refl, sym, ap, subst, ◌∙◌}
use Rattle.std.specs.Prelude.{not, nat_eq}
use Rattle.std.specs.List.{list_any, list_all}
use Rattle.std.proofs.lemmas.Bool.{and_from, and_parts, both_ways, eqb-true, false_from_ne_true, leb-true}
use Rattle.closure.specs.Closure.{IsIn}
use Rattle.closure.proofs.Members.{Found, any_is, any_of, all_at, of_filter}
use Rattle.shop_defs.specs.declared.entity.Entity.{Entity}
use Rattle.shop_defs.specs.declared.row.Row.{Row}
use Rattle.shop_defs.specs.declared.table.OwnerLimit.{OwnerLimit}
use Rattle.shop_defs.specs.declared.table.Part.{Part}
use Rattle.shop_defs.specs.declared.table.Part.TheVariants as P
use Rattle.shop_defs.specs.declared.table.Reference.{Reference}
use Rattle.shop_defs.specs.declared.table.TheConstants.{REFERENCES, OWNER_LIMITS}
use Rattle.shop_defs.proofs.EachLine.{same_entity}
use Rattle.shop_operations.specs.References.{is_entity, is_live, is_grounded, is_met, is_one, live, named, part_of}
use Rattle.shop_operations.specs.Upserts.{is_of_tree, owner_is_full}
use Rattle.shop_rows.specs.Owners.{count_owned}
use Rattle.shop_rows.specs.Searches.{same_part}
use Rattle.shop_check.specs.Found.{is_owner_of, is_within, owners_are_within}
use Rattle.shop_check.specs.Standing.{breaks_reference, up_to}
use Rattle.shop_check.proofs.Counted.{owner_not_full, no_owner_full}

-- rows of each limit name their owner by a reference
owners_are_named : list_all (λ limit. list_any (λ reference. is_entity reference.entity limit.entity && same_part reference.part limit.owner) REFERENCES) OWNER_LIMITS ≡ true
owners_are_named = refl

same_part_is : (a b : Part) → same_part a b ≡ true → a ≡ b
same_part_is P.Id P.Id e = refl
same_part_is P.Id P.Second e = cc
same_part_is P.Id (P.Field n) e = cc
same_part_is P.Second P.Id e = cc
same_part_is P.Second P.Second e = refl
same_part_is P.Second (P.Field n) e = cc
same_part_is (P.Field n) P.Id e = cc
same_part_is (P.Field n) P.Second e = cc
same_part_is (P.Field n) (P.Field m) e = ap P.Field (eqb-true n m e)

-- an owner that is there
record HasOwner (rows : List Row) (limit : OwnerLimit) (id : ℕ) : Type 0 where
  owner : Row
  is_in : IsIn owner rows
  of : is_owner_of REFERENCES limit owner.key.entity ≡ true
  same : owner.key.id ≡ id

grounded_of : (a b c : Bool) → (a && not (b && c)) ≡ false → a ≡ true → b ≡ true
grounded_of true true c e f = refl
grounded_of true false c e f = cc
grounded_of false b c e f = cc

module _ (rows : List Row) (row : Row) (alive : is_live row ≡ true) (kept : breaks_reference rows row ≡ false) where
  met : (reference : Reference) → IsIn reference REFERENCES → is_met reference (live rows) row ≡ true
  unfolding breaks_reference is_grounded
  met reference i =
      all_at (λ r. is_met r (live rows) row) REFERENCES reference
      (grounded_of (is_live row) (list_all (λ r. is_met r (live rows) row) REFERENCES) (list_all (λ r. is_of_tree r (live rows) row) REFERENCES) kept alive) i

  owner_there : (limit : OwnerLimit) → IsIn limit OWNER_LIMITS → is_entity limit.entity row.key.entity ≡ true → (id : ℕ) → part_of limit.owner row ≡ Some id → HasOwner rows limit id
  owner_there limit i entity id names =
      by (any_of (λ reference. is_entity reference.entity limit.entity && same_part reference.part limit.owner) REFERENCES (all_at (λ l. list_any (λ reference. is_entity reference.entity l.entity && same_part reference.part l.owner) REFERENCES) OWNER_LIMITS limit owners_are_named i))
    where
      found : (reference : Reference) → IsIn reference REFERENCES → is_entity reference.entity limit.entity ≡ true → same_part reference.part limit.owner ≡ true → Found (is_one reference.of id) (live rows) → HasOwner rows limit id
      found reference j same part f =
          let both = and_parts (is_entity reference.of f.one.key.entity) (nat_eq id f.one.key.id) f.passes in
          record {
            owner = f.one;
            is_in = (of_filter is_live rows f.one f.is_in).is_in;
            of = any_is (λ r. is_entity r.entity limit.entity && (same_part r.part limit.owner && is_entity r.of f.one.key.entity)) REFERENCES reference j (and_from _ _ same (and_from _ _ part both.0));
            same = sym (eqb-true id f.one.key.id both.1);
          }

      by : Found (λ reference. is_entity reference.entity limit.entity && same_part reference.part limit.owner) REFERENCES → HasOwner rows limit id
      by f =
          let both = and_parts (is_entity f.one.entity limit.entity) (same_part f.one.part limit.owner) f.passes in
          let one : f.one.entity ≡ limit.entity = same_entity f.one.entity limit.entity (eqb-true _ _ both.0) in
          let own : is_entity f.one.entity row.key.entity ≡ true = subst (λ (e : Entity). is_entity e row.key.entity ≡ true) (sym one) entity in
          let part : part_of f.one.part row ≡ Some id = ap (λ (p : Part). part_of p row) (same_part_is f.one.part limit.owner both.1) ∙ names in
          let name : named f.one row ≡ Some id = rw own part in
          let there : list_any (is_one f.one.of id) (live rows) ≡ true = rw name at (met f.one f.is_in) in
          found f.one f.is_in both.0 both.1 (any_of (is_one f.one.of id) (live rows) there)

  module _ (within : owners_are_within rows ≡ true) where
    few_of : (limit : OwnerLimit) → IsIn limit OWNER_LIMITS → (owner : Row) → IsIn owner rows → is_owner_of REFERENCES limit owner.key.entity ≡ true → count_owned limit (live rows) owner.key.id ≤ limit.most
    unfolding owners_are_within
    few_of limit i owner j of =
        let all : list_all (is_within rows owner) OWNER_LIMITS ≡ true = all_at (λ o. list_all (is_within rows o) OWNER_LIMITS) rows owner within j in
        let one : is_within rows owner limit ≡ true = all_at (is_within rows owner) OWNER_LIMITS limit all i in
        leb-true (count_owned limit (live rows) owner.key.id) limit.most (rw of at one)

    not_full : (limit : OwnerLimit) → IsIn limit OWNER_LIMITS → is_entity limit.entity row.key.entity ≡ true → owner_is_full (live (up_to rows row)) row limit ≡ false
    not_full limit i entity = by (part_of limit.owner row) refl
      where
        by : (part : Option ℕ) → part_of limit.owner row ≡ part → owner_is_full (live (up_to rows row)) row limit ≡ false
        by None e = sym (no_owner_full rows row limit e)
        by (Some id) e =
            let h = owner_there limit i entity id e in
            sym (owner_not_full rows row limit id e (subst (λ (n : ℕ). count_owned limit (live rows) n ≤ limit.most) h.same (few_of limit i h.owner h.is_in h.of)))

    -- where no row owns too many, none of a row that refers to what is there is full
    pub none_full : false ≡ list_any (owner_is_full (live (up_to rows row)) row) OWNER_LIMITS
    none_full = sym (false_from_ne_true _ (λ e. by (any_of (owner_is_full (live (up_to rows row)) row) OWNER_LIMITS e)))
      where
        by : Found (owner_is_full (live (up_to rows row)) row) OWNER_LIMITS → ⊥
        by f =
            let entity = (and_parts (is_entity f.one.entity row.key.entity) _ f.passes).0 in
            both_ways (owner_is_full (live (up_to rows row)) row f.one) (not_full f.one f.is_in entity) f.passes
