-- What a rule on all lines of the tables says of one entity and of one of its fields.
use Rattle.std.proofs.Common.{◌≡◌, ℕ, ◌+◌, ◌<◌, true, false, Bool, List, [], ◌∷◌, Option, Some, None, cond, eq-eqb, refl, sym, ap, subst, ◌∙◌, arith}
use Rattle.std.specs.Prelude.{◌&&◌, ◌==◌}
use Rattle.std.specs.List.{find, list_all, AllByRecursion}
use Rattle.std.specs.Option.{option_map}
use Rattle.std.proofs.lemmas.Bool.{eqb-true}
use Rattle.shop_defs.specs.declared.entity.Entity.{Entity}
use Rattle.shop_defs.specs.declared.entity.Entity.TheVariants as E
use Rattle.shop_defs.specs.Entities.{entity_number}
use Rattle.shop_defs.specs.declared.table.EntityInfo.{EntityInfo}
use Rattle.shop_defs.specs.declared.table.FieldInfo.{FieldInfo}
use Rattle.shop_defs.specs.declared.table.TheConstants.{ENTITIES}
use Rattle.shop_defs.specs.Texts.{entity_text, field_text}
use Rattle.shop_defs.specs.Tables.{fields_of, info_of, entity_named, field_at, field_named, field_with_name, number_in, name_in}
use Rattle.shop_defs.specs.Checks.{null_or_fits}
use Rattle.shop_defs.specs.Presets.{preset_of}
use Rattle.shop_defs.proofs.TableLaws.{of_all_fields, is_of, counts_up, counts_from, is_number, entities_numbered, entity_names_differ, fields_numbered, field_names_differ, presets_fit}

-- both of two tests hold
both : (a b : Bool) → (a && b) ≡ true → (a ≡ true) × (b ≡ true)
both true b h = (refl, h)
both false b h = cc

-- a test that each element passes, as a fact of each
pub each_passes : {X : Type 0} (rule : X → Bool) (xs : List X) → list_all rule xs ≡ true → AllByRecursion (λ x. rule x ≡ true) xs
each_passes rule [] all = tt
each_passes rule (x ∷ xs) all =
    let parts = both (rule x) (list_all rule xs) all in
    (parts.0, each_passes rule xs parts.1)

-- two facts of each element give a third
each_both : {X : Type 0} (P Q R : X → Type 0) → ((x : X) → P x → Q x → R x) → (xs : List X) → AllByRecursion P xs → AllByRecursion Q xs → AllByRecursion R xs
each_both P Q R step [] ps qs = tt
each_both P Q R step (x ∷ xs) ps qs = (step x ps.0 qs.0, each_both P Q R step xs ps.1 qs.1)

-- what holds of each element holds of the one that is found
pub of_found : {X : Type 0} (P : X → Type 0) (test : X → Bool) (xs : List X) (x : X) → AllByRecursion P xs → find test xs ≡ Some x → P x
of_found P test [] x all found = cc
of_found P test (first ∷ rest) x all found = by (test first) (of_found P test rest x all.1) found
  where
    by : (passes : Bool) → (find test rest ≡ Some x → P x) → cond passes (Some first) (find test rest) ≡ Some x → P x
    by true more is =
        let same : first ≡ x = cc in
        subst P same all.0
    by false more is = more is

-- each entity's line in the table is its own: the one proof that goes through all entities, and all others rest on it
pub line_entity : (entity : Entity) → option_map (λ info. info.entity) (info_of entity) ≡ Some entity
unfolding info_of
line_entity E.Language = refl
line_entity other = refl

-- a rule that all lines keep, an entity's line keeps
pub of_each : (rule : EntityInfo → Bool) → list_all rule ENTITIES ≡ true → (entity : Entity) (info : EntityInfo) → info_of entity ≡ Some info → rule info ≡ true
unfolding info_of
of_each rule all entity info found =
    of_found (λ line. rule line ≡ true) (λ line. entity_number line.entity == entity_number entity) ENTITIES info (each_passes rule ENTITIES all) found

-- a rule that the fields of all entities keep, an entity's fields keep
pub of_fields : (rule : Entity → FieldInfo → Bool) → of_all_fields rule ≡ true → (entity : Entity) → list_all (rule entity) (fields_of entity) ≡ true
of_fields rule all entity = by (info_of entity) refl (line_entity entity)
  where
    by : (line : Option EntityInfo) → info_of entity ≡ line → option_map (λ info. info.entity) line ≡ Some entity → list_all (rule entity) (fields_of entity) ≡ true
    by None is own = cc
    by (Some info) is own =
        let same : info.entity ≡ entity = cc in
        subst (λ of. list_all (rule of) (fields_of of) ≡ true) same (of_each (λ line. list_all (rule line.entity) (fields_of line.entity)) all entity info is)

-- ---- what is numbered

-- the numbers of a list that counts from a number above k are above k
above : {X : Type 0} (number : X → ℕ) (k first : ℕ) (xs : List X) → k < first → counts_up number first xs ≡ true → AllByRecursion (λ x. k < number x) xs
above number k first [] over counts = tt
above number k first (x ∷ rest) over counts =
    let parts = both (number x == first) (counts_up number (first + 1) rest) counts in
    let is = eqb-true (number x) first parts.0 in
    (omega arith, above number k (first + 1) rest (omega arith) parts.1)

-- the first element is found by its number
found_first : {X : Type 0} (number : X → ℕ) (x : X) (rest : Option X) (n : ℕ) → number x ≡ n → cond (number x == n) (Some x) rest ≡ Some x
found_first number x rest n same = rw (eq-eqb (number x) n same) refl

-- an element with another number is passed over
found_later : {X : Type 0} (number : X → ℕ) (x y : X) (rest : Option X) → number x < number y → rest ≡ Some y → cond (number x == number y) (Some x) rest ≡ Some y
found_later number x y rest over found = by (number x == number y) refl
  where
    by : (same : Bool) → (number x == number y) ≡ same → cond same (Some x) rest ≡ Some y
    by true is = let e = eqb-true (number x) (number y) is in absurd (omega arith)
    by false is = found

-- each element of a list that counts up is found by its number
numbers_found : {X : Type 0} (number : X → ℕ) (first : ℕ) (xs : List X) → counts_up number first xs ≡ true → AllByRecursion (λ x. find (λ other. number other == number x) xs ≡ Some x) xs
numbers_found number first [] counts = tt
numbers_found number first (x ∷ rest) counts =
    let parts = both (number x == first) (counts_up number (first + 1) rest) counts in
    let is = eqb-true (number x) first parts.0 in
    let over = above number (number x) (first + 1) rest (omega arith) parts.1 in
    (found_first number x (find (λ other. number other == number x) rest) (number x) refl, each_both (λ y. number x < number y) (λ y. find (λ other. number other == number y) rest ≡ Some y) (λ y. find (λ other. number other == number y) (x ∷ rest) ≡ Some y) (λ y. found_later number x y (find (λ other. number other == number y) rest)) rest over (numbers_found number (first + 1) rest parts.1))

-- ---- entities

-- a test that the entity of each line passes, each entity passes: what holds of all entities is computed, over the table, and proved by this
pub each_entity : (test : Entity → Bool) → list_all (λ info. test info.entity) ENTITIES ≡ true → (entity : Entity) → test entity ≡ true
each_entity test all entity = by (info_of entity) refl (line_entity entity)
  where
    by : (line : Option EntityInfo) → info_of entity ≡ line → option_map (λ info. info.entity) line ≡ Some entity → test entity ≡ true
    by None is own = cc
    by (Some info) is own =
        let same : info.entity ≡ entity = cc in
        subst (λ of. test of ≡ true) same (of_each (λ line. test line.entity) all entity info is)

-- an entity is found by its number
pub entity_found : (entity : Entity) → option_map (λ info. info.entity) (find (λ info. entity_number info.entity == entity_number entity) ENTITIES) ≡ Some entity
unfolding info_of
entity_found = line_entity

-- entities with one number are one
pub same_entity : (a b : Entity) → entity_number a ≡ entity_number b → a ≡ b
same_entity a b e =
    let chain : Some a ≡ Some b = sym (entity_found a) ∙ (ap (λ n. option_map (λ info. info.entity) (find (λ info. entity_number info.entity == n) ENTITIES)) e ∙ entity_found b) in
    cc

-- an entity is found by its name, so no two have the same
pub entity_named-text : (entity : Entity) → entity_named (entity_text entity) ≡ Some entity
entity_named-text entity = by (entity_named (entity_text entity)) (each_entity (λ of. is_of (entity_named (entity_text of)) of) entity_names_differ entity)
  where
    by : (found : Option Entity) → is_of found entity ≡ true → found ≡ Some entity
    by None is = cc
    by (Some of) is = ap Some (same_entity of entity (eqb-true _ _ is))

-- the line that is found by the number of an entity's line is that line
pub named_line : AllByRecursion (λ info. info_of info.entity ≡ Some info) ENTITIES
unfolding info_of
named_line = numbers_found (λ (info : EntityInfo). entity_number info.entity) 1 ENTITIES entities_numbered

-- ---- fields

-- a field stands where its number and its name are looked up
pub record IsLineOf (entity : Entity) (field : FieldInfo) : Type 0 where
  pub by_number : field_at entity field.number ≡ Some field
  pub by_name : field_with_name entity (field_text field.name) ≡ Some field

-- a line is found by its name, where the line that is found has its number
name_found : (table : List FieldInfo) (field : FieldInfo) → AllByRecursion (λ line. number_in table line.number ≡ Some line) table → is_number field.number (option_map (λ line. line.number) (name_in table (field_text field.name))) ≡ true → number_in table field.number ≡ Some field → name_in table (field_text field.name) ≡ Some field
name_found table field all is number = by (name_in table (field_text field.name)) refl is
  where
    by : (found : Option FieldInfo) → name_in table (field_text field.name) ≡ found → is_number field.number (option_map (λ line. line.number) found) ≡ true → found ≡ Some field
    by None found same = cc
    by (Some other) found same =
        let equal : field.number ≡ other.number = eqb-true field.number other.number same in
        let there : number_in table other.number ≡ Some other = of_found (λ line. number_in table line.number ≡ Some line) _ table other all found in
        (sym there) ∙ (ap (number_in table) (sym equal) ∙ number)

-- the fields of each entity are numbered from 1 on
pub numbered : (entity : Entity) → counts_from 1 (fields_of entity) ≡ true
numbered entity = by (info_of entity) refl (line_entity entity)
  where
    by : (line : Option EntityInfo) → info_of entity ≡ line → option_map (λ info. info.entity) line ≡ Some entity → counts_from 1 (fields_of entity) ≡ true
    by None is own = cc
    by (Some info) is own =
        let same : info.entity ≡ entity = cc in
        subst (λ of. counts_from 1 (fields_of of) ≡ true) same (of_each (λ line. counts_from 1 (fields_of line.entity)) fields_numbered entity info is)

-- each field of an entity is such a line
pub each_line : (entity : Entity) → AllByRecursion (IsLineOf entity) (fields_of entity)
each_line entity =
    let table = fields_of entity in
    let numbers = numbers_found (λ (field : FieldInfo). field.number) 1 table (numbered entity) in
    let names = each_passes (λ field. is_number field.number (field_named entity (field_text field.name))) table (of_fields (λ of field. is_number field.number (field_named of (field_text field.name))) field_names_differ entity) in
    each_both (λ field. number_in table field.number ≡ Some field) (λ field. is_number field.number (field_named entity (field_text field.name)) ≡ true) (IsLineOf entity)
    (λ field number name. record { by_number = number; by_name = name_found table field numbers name number })
    table numbers names

-- what a field holds where it would be null fits its kind
pub preset_fits : (entity : Entity) (number : ℕ) (field : FieldInfo) → field_at entity number ≡ Some field → null_or_fits field.kind (preset_of field) ≡ true
preset_fits entity number field found =
    of_found (λ line. null_or_fits line.kind (preset_of line) ≡ true) (λ line. line.number == number) (fields_of entity) field (each_passes _ (fields_of entity) (of_fields (λ of line. null_or_fits line.kind (preset_of line)) presets_fit entity)) found
