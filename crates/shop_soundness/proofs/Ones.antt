-- A reference names one row at most, where the keys of rows fit.
use Rattle.std.proofs.Common.{◌≡◌, ℕ, true, List, refl, sym, ap, subst, ◌∙◌, Option, Some, None}
use Rattle.std.specs.Prelude.{◌==◌, not}
use Rattle.std.proofs.lemmas.Bool.{and_parts, eqb-true}
use Rattle.shop_defs.specs.declared.entity.Entity.{Entity}
use Rattle.shop_defs.specs.declared.key.Key.{Key}
use Rattle.shop_defs.specs.declared.row.Row.{Row}
use Rattle.shop_defs.specs.declared.table.EntityInfo.{EntityInfo}
use Rattle.shop_defs.specs.declared.table.KeyForm.{KeyForm}
use Rattle.shop_defs.specs.declared.table.KeyForm.TheVariants.{OnePart, TwoParts}
use Rattle.shop_defs.specs.declared.table.Reference.{Reference}
use Rattle.shop_defs.specs.declared.table.TheConstants.{REFERENCES}
use Rattle.shop_defs.specs.Entities.{entity_number}
use Rattle.shop_defs.specs.Fitting.{key_fits, line_key_fits, row_key_fits}
use Rattle.shop_defs.specs.Tables.{info_of}
use Rattle.shop_defs.proofs.EachLine.{same_entity}
use Rattle.shop_operations.specs.References.{is_entity, is_one}
use Rattle.shop_operations.specs.Views.{IsInPlaceOrder}
use Rattle.closure.specs.Closure.{IsIn}
use Rattle.closure.proofs.Members.{all_at}
use Rattle.shop_soundness.proofs.Places.{AreFormed}
use Rattle.shop_soundness.proofs.Places.{AtOnePlace, same_row}
use Rattle.shop_soundness.proofs.Tables.{line_has_one_part, has_one_part, named_have_one_part}

-- the second part of a key of one part is 0
second_is_zero : (line : Option EntityInfo) (id second : ℕ) → line_has_one_part line ≡ true → line_key_fits line id second ≡ true → second ≡ 0
second_is_zero None id second one fits = cc
second_is_zero (Some info) id second one fits = by info.key refl
  where
    by : (form : KeyForm) → info.key ≡ form → second ≡ 0
    by OnePart e =
        let whole : key_fits OnePart id second ≡ true = subst (λ (form : KeyForm). key_fits form id second ≡ true) e fits in
        eqb-true second 0 (and_parts (not (id == 0)) (second == 0) whole).1
    by TwoParts e = cc

-- the key is of that entity and id, and has no second part
pub record IsOneKey (of : Entity) (id : ℕ) (key : Key) : Type 0 where
  pub entity : of ≡ key.entity
  pub id_is : id ≡ key.id
  pub second : key.second ≡ 0

pub one_key : (of : Entity) (id : ℕ) (row : Row) → has_one_part of ≡ true → row_key_fits row.key ≡ true → is_one of id row ≡ true → IsOneKey of id row.key
one_key of id row one fits is =
    let parts = and_parts (is_entity of row.key.entity) (id == row.key.id) is in
    let entity = same_entity of row.key.entity (eqb-true _ _ parts.0) in
    let own : has_one_part row.key.entity ≡ true = subst (λ (e : Entity). has_one_part e ≡ true) entity one in
    record { entity = entity; id_is = eqb-true _ _ parts.1; second = second_is_zero (info_of row.key.entity) row.key.id row.key.second own fits }

one_place : (of : Entity) (id : ℕ) (a b : Key) → IsOneKey of id a → IsOneKey of id b → AtOnePlace a b
one_place of id a b s t = record { entity = ap entity_number (sym s.entity ∙ t.entity); id = sym s.id_is ∙ t.id_is; second = s.second ∙ sym t.second }

-- rows of the entity with the id are at one place, where the entity is referred to
pub one_at : (reference : Reference) → IsIn reference REFERENCES → (id : ℕ) (a b : Row) → row_key_fits a.key ≡ true → row_key_fits b.key ≡ true → is_one reference.of id a ≡ true → is_one reference.of id b ≡ true → AtOnePlace a.key b.key
one_at reference i id a b f g s t =
    let one : has_one_part reference.of ≡ true = all_at (λ r. has_one_part r.of) REFERENCES reference named_have_one_part i in
    one_place reference.of id a.key b.key (one_key reference.of id a one f s) (one_key reference.of id b one g t)

-- and they are one row
pub one_alone : (rows : List Row) → IsInPlaceOrder rows → AreFormed rows → (reference : Reference) → IsIn reference REFERENCES → (id : ℕ) (a b : Row) → IsIn a rows → IsIn b rows → is_one reference.of id a ≡ true → is_one reference.of id b ≡ true → a ≡ b
one_alone rows up keys reference within id a b i j s t =
    same_row rows a b up i j (one_at reference within id a b (all_at (λ r. row_key_fits r.key) rows a keys i) (all_at (λ r. row_key_fits r.key) rows b keys j) s t)
