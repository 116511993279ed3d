-- What holds of a line that is found in a table.
use Rattle.std.proofs.Common.{◌≡◌, ℕ, zero, suc, ◌+◌, ◌-◌, ◌<◌, ◌≤◌, true, false, Bool, List, [], ◌∷◌, length, Option, Some, refl, sym, ap, subst, cond, nat_eq, eq-eqb, arith}
use Rattle.std.specs.Prelude.{◌&&◌, ◌==◌, nat_le, slice_index_or, IsSome}
use Rattle.std.specs.List.{find}
use Rattle.std.specs.Str.{bytes_eq}
use Rattle.std.proofs.lemmas.Bool.{and_parts, leb-true, eqb-true}
use Rattle.std.proofs.lemmas.Slice.Eq.{bytes_eq-Decides}
use Rattle.shop_defs.specs.declared.entity.Entity.{Entity}
use Rattle.shop_defs.specs.Entities.{entity_number}
use Rattle.shop_defs.specs.declared.table.EntityInfo.{EntityInfo}
use Rattle.shop_defs.specs.declared.table.FieldInfo.{FieldInfo}
use Rattle.shop_defs.specs.declared.table.TheConstants.{ENTITIES}
use Rattle.shop_defs.specs.Texts.{entity_text, field_text}
use Rattle.shop_defs.specs.Tables.{info_of, entity_in, name_in, number_in}
use Rattle.shop_defs.proofs.TableLaws.{counts_up, entities_numbered}
use Rattle.shop_defs.proofs.EachLine.{each_entity}

-- in a list that counts up, the element at a place is found by its number
at_its_number : {X : Type 0} (number : X → ℕ) (first : ℕ) (xs : List X) (k : ℕ) (other : X) → counts_up number first xs ≡ true → k < length xs → find (λ x. number x == first + k) xs ≡ Some (slice_index_or xs k other)
at_its_number number first [] k other counts short = absurd (omega arith)
at_its_number number first (x ∷ rest) zero other counts short =
    let is : number x ≡ first = eqb-true (number x) first (and_parts _ _ counts).0 in
    let same : number x ≡ first + 0 = omega arith in
    rw (eq-eqb (number x) (first + 0) same) refl
at_its_number number first (x ∷ rest) (suc k) other counts short =
    let is : number x ≡ first = eqb-true (number x) first (and_parts _ _ counts).0 in
    let next : first + suc k ≡ (first + 1) + k = omega arith in
    let more = at_its_number number (first + 1) rest k other (and_parts _ _ counts).1 (omega arith) in
    subst (λ n. find (λ y. number y == n) (x ∷ rest) ≡ Some (slice_index_or rest k other)) (sym next) (by (number x == (first + 1) + k) refl is more)
  where
    by : (same : Bool) → (number x == (first + 1) + k) ≡ same → number x ≡ first → find (λ y. number y == (first + 1) + k) rest ≡ Some (slice_index_or rest k other) → cond same (Some x) (find (λ y. number y == (first + 1) + k) rest) ≡ Some (slice_index_or rest k other)
    by true e is more = let over : number x ≡ (first + 1) + k = eqb-true _ _ e in absurd (omega arith)
    by false e is more = more

-- the numbers of entities are from 1 on, and as many as there are lines
has_place : Entity → Bool
has_place entity = nat_le 1 (entity_number entity) && nat_le (entity_number entity) (length ENTITIES)

entity_places : (entity : Entity) → (1 ≤ entity_number entity) × (entity_number entity ≤ length ENTITIES)
unfolding has_place
entity_places entity =
    let parts = and_parts _ _ (each_entity has_place refl entity) in
    (leb-true _ _ parts.0, leb-true _ _ parts.1)

-- an entity's line stands at its number
pub info_at : (entity : Entity) (other : EntityInfo) → info_of entity ≡ Some (slice_index_or ENTITIES (entity_number entity - 1) other)
unfolding info_of
info_at entity other =
    let places = entity_places entity in
    let from : 1 ≤ entity_number entity = places.0 in
    let to : entity_number entity ≤ length ENTITIES = places.1 in
    let place : 1 + (entity_number entity - 1) ≡ entity_number entity = omega arith in
    let short : entity_number entity - 1 < length ENTITIES = omega arith in
    subst (λ n. find (λ info. entity_number info.entity == n) ENTITIES ≡ Some (slice_index_or ENTITIES (entity_number entity - 1) other)) place (at_its_number (λ (info : EntityInfo). entity_number info.entity) 1 ENTITIES (entity_number entity - 1) other entities_numbered short)

-- an entity that is found by a name has it
pub entity_in-named : (table : List EntityInfo) (name : List ℕ) (info : EntityInfo) → entity_in table name ≡ Some info → entity_text info.entity ≡ name
entity_in-named [] name info found = cc
entity_in-named (first ∷ rest) name info found = by (entity_in-named rest name info) (bytes_eq (entity_text first.entity) name) refl found
  where
    by : (entity_in rest name ≡ Some info → entity_text info.entity ≡ name) → (same : Bool) → bytes_eq (entity_text first.entity) name ≡ same → cond same (Some first) (entity_in rest name) ≡ Some info → entity_text info.entity ≡ name
    by more true is found =
        let same : first ≡ info = cc in
        rw (← same) ((bytes_eq-Decides _ _).0 is)
    by more false is found = more found

-- a line is found by its own number
is_first : (first : FieldInfo) (rest : List FieldInfo) (number : ℕ) → first.number ≡ number → IsSome (number_in (first ∷ rest) number)
is_first first rest number same = rw (eq-eqb first.number number same) refl

-- where one is found among the rest, one is found
is_later : (first : FieldInfo) (rest : Option FieldInfo) (same : Bool) → IsSome rest → IsSome (cond same (Some first) rest)
is_later first rest true more = refl
is_later first rest false more = more

-- where a field stands, one is found by its number
pub number_in-of_name_in : (table : List FieldInfo) (name : List ℕ) (field : FieldInfo) → name_in table name ≡ Some field → IsSome (number_in table field.number)
number_in-of_name_in [] name field found = cc
number_in-of_name_in (first ∷ rest) name field found = by (number_in-of_name_in rest name field) (bytes_eq (field_text first.name) name) found
  where
    by : (name_in rest name ≡ Some field → IsSome (number_in rest field.number)) → (same : Bool) → cond same (Some first) (name_in rest name) ≡ Some field → IsSome (number_in (first ∷ rest) field.number)
    by more true found =
        let same : first ≡ field = cc in
        is_first first rest field.number (ap (λ (line : FieldInfo). line.number) same)
    by more false found = is_later first (number_in rest field.number) (nat_eq first.number field.number) (more found)
