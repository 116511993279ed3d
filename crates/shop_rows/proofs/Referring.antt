-- Which topics find children, and the rows of an owner.
use Rattle.std.proofs.Common.{◌≡◌, ℕ, Bool, true, false, not, ◌==◌, ◌&&◌, ◌||◌, List, [], ◌∷◌, Option, Some, None, find, if◌then◌else◌, refl, sym, ap, subst, ◌∙◌}
use Rattle.std.specs.List.{list_all}
use Rattle.std.specs.Option.{option_and_then}
use borrow.Author.Tests.{eqb-true, eq-eqb}
use Rattle.shop_defs.specs.declared.entity.Entity.{Entity}
use Rattle.shop_defs.specs.declared.row.Row.{Row}
use Rattle.shop_defs.specs.declared.table.OwnerLimit.{OwnerLimit}
use Rattle.shop_defs.specs.declared.table.Part.{Part}
use Rattle.shop_defs.specs.declared.table.Part.TheVariants as P
use Rattle.shop_defs.specs.declared.table.Reference.{Reference}
use Rattle.shop_defs.specs.declared.table.TheConstants.{REFERENCES}
use Rattle.shop_defs.specs.Entities.{entity_number}
use Rattle.shop_defs.specs.References.{acts_on_delete}
use Rattle.shop_operations.specs.Parents.{is_parental, parent_id}
use Rattle.shop_operations.specs.References.{is_entity, is_id, part_of, named, refers_at}
use Rattle.shop_rows.specs.Owners.{belongs}
use Rattle.shop_rows.specs.Searches.{same_part, is_from, is_live_of}

-- ---- parents

-- rows refer to rows of their own entity
abbrev is_to_itself : Reference → Bool
is_to_itself reference = is_entity reference.entity reference.of

-- no other reference of the entity is one to itself
abbrev is_the_last : Reference → List Reference → Bool
is_the_last reference table = list_all (λ other. not (is_to_itself other && is_entity other.entity reference.entity)) table

-- a delete looks at each reference of an entity to itself, and each entity has one at most
abbrev has_one_parent : List Reference → Bool
has_one_parent [] = true
has_one_parent (reference ∷ table) = (not (is_to_itself reference) || (acts_on_delete reference && is_the_last reference table)) && has_one_parent table

-- so it is in the table of the references
one_parent : has_one_parent REFERENCES ≡ true
one_parent = refl

and_first : (a b : Bool) → (a && b) ≡ true → a ≡ true
and_first true b e = refl
and_first false b e = absurd (cc)

and_second : (a b : Bool) → (a && b) ≡ true → b ≡ true
and_second true b e = e
and_second false b e = absurd (cc)

-- what the reference says of the row
abbrev says : Reference → Row → Entity → ℕ → Bool
says reference row of id = acts_on_delete reference && ((entity_number reference.of == entity_number of) && is_id (named reference row) id)

named_of_other : (reference : Reference) (row : Row) → is_entity reference.entity row.key.entity ≡ false → named reference row ≡ None
named_of_other reference row e = ap (λ (b : Bool). if b then part_of reference.part row else None) e

-- a reference that isn't of the row's entity, or not to it, says nothing
says_no : (reference : Reference) (row : Row) (id : ℕ) → (is_entity reference.entity row.key.entity && is_entity reference.of row.key.entity) ≡ false → says reference row row.key.entity id ≡ false
says_no reference row id e = by (acts_on_delete reference) (is_entity reference.of row.key.entity) (is_entity reference.entity row.key.entity) refl refl
  where
    never : (a : Bool) → (a && false) ≡ false
    never true = refl
    never false = refl

    by : (a o s : Bool) → is_entity reference.of row.key.entity ≡ o → is_entity reference.entity row.key.entity ≡ s → (a && (is_entity reference.of row.key.entity && is_id (named reference row) id)) ≡ false
    by a false s f g = ap (λ (b : Bool). a && (b && is_id (named reference row) id)) f ∙ never a
    by a true false f g = (λ i. a && (f i && is_id (named_of_other reference row g i) id)) ∙ never a
    by a true true f g = absurd (let both : (true && true) ≡ false = (λ i. sym g i && sym f i) ∙ e in cc)

-- the rest says nothing where none of it is of the row's entity to itself
rest_says_no : (table : List Reference) (reference : Reference) (row : Row) (id : ℕ) → is_entity reference.entity row.key.entity ≡ true → is_the_last reference table ≡ true → refers_at table row (entity_number row.key.entity) id ≡ false
unfolding refers_at
rest_says_no [] reference row id own e = refl
rest_says_no (other ∷ table) reference row id own e =
    λ i. says_no other row id (apart (is_entity other.entity row.key.entity) (is_entity other.of row.key.entity) refl refl) i || rest_says_no table reference row id own (and_second _ _ e) i
  where
    same_entity : entity_number reference.entity ≡ entity_number row.key.entity
    same_entity = eqb-true _ _ own

    apart : (s o : Bool) → is_entity other.entity row.key.entity ≡ s → is_entity other.of row.key.entity ≡ o → (is_entity other.entity row.key.entity && is_entity other.of row.key.entity) ≡ false
    apart false o f g = ap (λ (b : Bool). b && is_entity other.of row.key.entity) f
    apart true false f g = λ i. f i && g i
    apart true true f g =
        let one : entity_number other.entity ≡ entity_number row.key.entity = eqb-true _ _ f in
        let two : entity_number other.of ≡ entity_number row.key.entity = eqb-true _ _ g in
        let itself : is_to_itself other ≡ true = eq-eqb _ _ (one ∙ sym two) in
        let of_one : is_entity other.entity reference.entity ≡ true = eq-eqb _ _ (one ∙ sym same_entity) in
        let no : not (is_to_itself other && is_entity other.entity reference.entity) ≡ true = and_first _ _ e in
        absurd (let bad : not (true && true) ≡ true = (λ i. not (sym itself i && sym of_one i)) ∙ no in cc)

-- a row refers to a row of its own entity just by its parent
parents_refer : (table : List Reference) (row : Row) (id : ℕ) → has_one_parent table ≡ true → refers_at table row (entity_number row.key.entity) id ≡ is_id (parent_id table row) id
unfolding refers_at parent_id
parents_refer [] row id one = refl
parents_refer (reference ∷ table) row id one = by (is_entity reference.entity row.key.entity) (is_entity reference.of row.key.entity) refl refl (parents_refer table row id (and_second (not (is_to_itself reference) || (acts_on_delete reference && is_the_last reference table)) (has_one_parent table) one))
  where
    or_false : (b : Bool) → (b || false) ≡ b
    or_false true = refl
    or_false false = refl

    pass : (b a c : Bool) → b ≡ true → (not b || (a && c)) ≡ true → (a && c) ≡ true
    pass true a c e f = f
    pass false a c e f = absurd (cc)

    search : Bool → Option ℕ
    search b = option_and_then (λ found. named found row) (if b then Some reference else find (is_parental row.key.entity) table)

    by : (s o : Bool) → is_entity reference.entity row.key.entity ≡ s → is_entity reference.of row.key.entity ≡ o → refers_at table row (entity_number row.key.entity) id ≡ is_id (parent_id table row) id
        → refers_at (reference ∷ table) row (entity_number row.key.entity) id ≡ is_id (parent_id (reference ∷ table) row) id
    by true true f g more =
        let itself : is_to_itself reference ≡ true = eq-eqb (entity_number reference.entity) (entity_number reference.of) (eqb-true (entity_number reference.entity) (entity_number row.key.entity) f ∙ sym (eqb-true (entity_number reference.of) (entity_number row.key.entity) g)) in
        let both : (acts_on_delete reference && is_the_last reference table) ≡ true = pass (is_to_itself reference) (acts_on_delete reference) (is_the_last reference table) itself (and_first (not (is_to_itself reference) || (acts_on_delete reference && is_the_last reference table)) (has_one_parent table) one) in
        let acts : acts_on_delete reference ≡ true = and_first (acts_on_delete reference) (is_the_last reference table) both in
        let last : is_the_last reference table ≡ true = and_second (acts_on_delete reference) (is_the_last reference table) both in
        (λ i. (acts i && (g i && is_id (named reference row) id)) || rest_says_no table reference row id f last i)
        ∙ (or_false (is_id (named reference row) id) ∙ sym (λ i. is_id (search (f i && g i)) id))
    by true false f g more = (λ i. says_no reference row id (λ j. f j && g j) i || more i) ∙ sym (λ i. is_id (search (f i && g i)) id)
    by false o f g more = (λ i. says_no reference row id (ap (λ (b : Bool). b && is_entity reference.of row.key.entity) f) i || more i) ∙ sym (λ i. is_id (search (f i && g i)) id)

-- the rows of an entity that refer to one of their entity are its children
pub child_is : (row : Row) (entity : Entity) (version parent : ℕ)
    → (((row.key.version == version) && refers_at REFERENCES row (entity_number entity) parent) && (entity_number row.key.entity == entity_number entity))
    ≡ ((row.key.version == version) && (is_entity entity row.key.entity && is_id (parent_id REFERENCES row) parent))
child_is row entity version parent = by (entity_number row.key.entity == entity_number entity) refl
  where
    flip : (b : Bool) → (entity_number row.key.entity == entity_number entity) ≡ b → is_entity entity row.key.entity ≡ b
    flip true e = eq-eqb _ _ (sym (eqb-true _ _ e))
    flip false e = other (is_entity entity row.key.entity) refl
      where
        other : (c : Bool) → is_entity entity row.key.entity ≡ c → is_entity entity row.key.entity ≡ false
        other true f = let back : (entity_number row.key.entity == entity_number entity) ≡ true = eq-eqb _ _ (sym (eqb-true _ _ f)) in absurd (cc)
        other false f = f

    yes : (v r : Bool) → ((v && r) && true) ≡ (v && (true && r))
    yes true true = refl
    yes true false = refl
    yes false r = refl

    no : (v r p : Bool) → ((v && r) && false) ≡ (v && (false && p))
    no true true p = refl
    no true false p = refl
    no false r p = refl

    by : (b : Bool) → (entity_number row.key.entity == entity_number entity) ≡ b
        → (((row.key.version == version) && refers_at REFERENCES row (entity_number entity) parent) && (entity_number row.key.entity == entity_number entity))
        ≡ ((row.key.version == version) && (is_entity entity row.key.entity && is_id (parent_id REFERENCES row) parent))
    by true e =
        (λ i. ((row.key.version == version) && refers_at REFERENCES row (sym (eqb-true _ _ e) i) parent) && e i)
        ∙ ((λ i. ((row.key.version == version) && parents_refer REFERENCES row parent one_parent i) && true)
        ∙ (yes (row.key.version == version) (is_id (parent_id REFERENCES row) parent) ∙ sym (λ i. (row.key.version == version) && (flip true e i && is_id (parent_id REFERENCES row) parent))))
    by false e =
        ap (λ (b : Bool). ((row.key.version == version) && refers_at REFERENCES row (entity_number entity) parent) && b) e
        ∙ (no (row.key.version == version) (refers_at REFERENCES row (entity_number entity) parent) (is_id (parent_id REFERENCES row) parent)
        ∙ sym (ap (λ (b : Bool). (row.key.version == version) && (b && is_id (parent_id REFERENCES row) parent)) (flip false e)))

-- ---- owners

part_is : (a b : Part) → same_part a b ≡ true → a ≡ b
part_is P.Id P.Id e = refl
part_is P.Id P.Second e = absurd (cc)
part_is P.Id (P.Field b) e = absurd (cc)
part_is P.Second P.Id e = absurd (cc)
part_is P.Second P.Second e = refl
part_is P.Second (P.Field b) e = absurd (cc)
part_is (P.Field a) P.Id e = absurd (cc)
part_is (P.Field a) P.Second e = absurd (cc)
part_is (P.Field a) (P.Field b) e = ap (λ (n : ℕ). P.Field n) (eqb-true a b e)

-- a reference of the table that passes the test and says that the row refers
found_refers : (table : List Reference) (test : Reference → Bool) (row : Row) (number id : ℕ) (reference : Reference) → find test table ≡ Some reference
    → (test reference ≡ true → (acts_on_delete reference && ((entity_number reference.of == number) && is_id (named reference row) id)) ≡ true) → refers_at table row number id ≡ true
unfolding refers_at
found_refers [] test row number id reference found says_so = absurd (cc)
found_refers (first ∷ table) test row number id reference found says_so = by (found_refers table test row number id reference) (test first) refl
  where
    some_is : (x y : Reference) → Some x ≡ Some y → x ≡ y
    some_is x y e = cc

    speaks : Reference → Bool
    speaks r = acts_on_delete r && ((entity_number r.of == number) && is_id (named r row) id)

    or_true : (a b : Bool) → b ≡ true → (a || b) ≡ true
    or_true true b e = refl
    or_true false b e = e

    by : (find test table ≡ Some reference → (test reference ≡ true → speaks reference ≡ true) → refers_at table row number id ≡ true) → (b : Bool) → test first ≡ b → refers_at (first ∷ table) row number id ≡ true
    by more true e =
        let same : first ≡ reference = some_is first reference (sym (ap (λ (b : Bool). if b then Some first else find test table) e) ∙ found) in
        let yes : speaks first ≡ true = subst (λ (r : Reference). (acts_on_delete r && ((entity_number r.of == number) && is_id (named r row) id)) ≡ true) (sym same) (says_so (subst (λ (r : Reference). test r ≡ true) same e)) in
        ap (λ (b : Bool). b || refers_at table row number id) yes
    by more false e = or_true (speaks first) (refers_at table row number id) (more (sym (ap (λ (b : Bool). if b then Some first else find test table) e) ∙ found) says_so)

-- the rows of an owner refer to it, where their part is a reference that a delete looks at
pub owned_refers : (limit : OwnerLimit) (owner : ℕ) (row : Row) (reference : Reference) → find (is_from limit.entity limit.owner) REFERENCES ≡ Some reference → is_live_of limit owner row ≡ true
    → (((row.key.version == 0) && refers_at REFERENCES row (entity_number reference.of) owner) && (entity_number row.key.entity == entity_number limit.entity)) ≡ true
owned_refers limit owner row reference found live =
    let version : (row.key.version == 0) ≡ true = and_first _ _ live in
    let owned : belongs limit owner row ≡ true = and_second _ _ live in
    let entity : is_entity limit.entity row.key.entity ≡ true = and_first _ _ owned in
    let named_owner : is_id (part_of limit.owner row) owner ≡ true = and_second _ _ owned in
    let of_row : (entity_number row.key.entity == entity_number limit.entity) ≡ true = eq-eqb _ _ (sym (eqb-true _ _ entity)) in
    let refers : refers_at REFERENCES row (entity_number reference.of) owner ≡ true = found_refers REFERENCES (is_from limit.entity limit.owner) row (entity_number reference.of) owner reference found (λ test. it_says entity named_owner test) in
    λ i. (version i && refers i) && of_row i
  where
    it_says : is_entity limit.entity row.key.entity ≡ true → is_id (part_of limit.owner row) owner ≡ true → is_from limit.entity limit.owner reference ≡ true
        → (acts_on_delete reference && ((entity_number reference.of == entity_number reference.of) && is_id (named reference row) owner)) ≡ true
    it_says entity named_owner test =
        let own : is_entity reference.entity limit.entity ≡ true = and_first (is_entity reference.entity limit.entity) (same_part reference.part limit.owner && acts_on_delete reference) test in
        let rest : (same_part reference.part limit.owner && acts_on_delete reference) ≡ true = and_second (is_entity reference.entity limit.entity) (same_part reference.part limit.owner && acts_on_delete reference) test in
        let acts : acts_on_delete reference ≡ true = and_second (same_part reference.part limit.owner) (acts_on_delete reference) rest in
        let part : reference.part ≡ limit.owner = part_is reference.part limit.owner (and_first (same_part reference.part limit.owner) (acts_on_delete reference) rest) in
        let of_row : is_entity reference.entity row.key.entity ≡ true = eq-eqb (entity_number reference.entity) (entity_number row.key.entity) (eqb-true (entity_number reference.entity) (entity_number limit.entity) own ∙ eqb-true (entity_number limit.entity) (entity_number row.key.entity) entity) in
        let name : named reference row ≡ part_of limit.owner row = ap (λ (b : Bool). if b then part_of reference.part row else None) of_row ∙ ap (λ (p : Part). part_of p row) part in
        λ i. acts i && (eq-eqb (entity_number reference.of) (entity_number reference.of) refl i && (ap (λ (n : Option ℕ). is_id n owner) name ∙ named_owner) i)
