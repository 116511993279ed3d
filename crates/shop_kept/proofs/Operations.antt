-- The law of the reader, for fields and operations.
use Rattle.std.proofs.Common.{◌≡◌, ℕ, zero, suc, ◌^◌, ◌<◌, Bool, true, false, cond, eqb, List, [], ◌∷◌, ◌++◌, length, Option, Some, refl, sym, ap, ◌∙◌, arith}
use Rattle.std.specs.Prelude.{nat_lt}
use Rattle.std.specs.List.{AllByRecursion}
use Rattle.std.specs.Option.{option_map}
use Rattle.std.specs.Int.{w32, w128, to_be_bytes}
use Rattle.std.proofs.lemmas.Bool.{eqb-true, ltb-true}
use Rattle.shop_defs.specs.declared.entity.Entity.{Entity}
use Rattle.shop_defs.specs.declared.table.EntityInfo.{EntityInfo}
use Rattle.shop_defs.specs.declared.table.TheConstants.{ENTITIES}
use Rattle.shop_defs.specs.Entities.{entity_number}
use Rattle.shop_defs.specs.declared.op.Op.{Op}
use Rattle.shop_defs.specs.declared.op.OpKind.{OpKind}
use Rattle.shop_defs.specs.declared.op.OpKind.TheVariants.{Upsert, Delete}
use Rattle.shop_defs.specs.declared.value.Value.{Value}
use Rattle.shop_defs.proofs.EachLine.{each_entity, entity_found}
use Rattle.shop_kept.specs.Readers.{Reader, byte_at, number_at, counted_at}
use Rattle.shop_kept.specs.Spelling.{kept_value, kept_given, kept_field, kept_fields, kind_number, kept_op, kept_ops, rises, IsValue, IsGiven, IsField, AreFields, IsOp, AreOps}
use Rattle.shop_kept.specs.Reading.{value_at, given_at, field_at, fields_at, kind_numbered, kind_at, info_in, entity_numbered, entity_at, OpParts, op_of, op_at, ops_at, body_at}
use Rattle.shop_kept.proofs.Readable.{IsRead, some_is, refit, read_number, read_byte, read_pair, read_as, read_choice, read_such, read_counted}
use Rattle.shop_kept.proofs.Words.{wide32}
use Rattle.shop_kept.proofs.Values.{read_id, read_value, read_given}

pub read_fields : {X : Type 0} (s : X → List ℕ) (F : X → Type 0) (r : Reader X) → IsRead s F r → IsRead (kept_fields s) (AreFields F) (fields_at r)
read_fields s F r R =
    let one = read_pair (λ (b : ℕ). b ∷ []) (λ b. b < 256) byte_at read_byte s F r R in
    let all = read_counted (λ (b : ℕ). b ∷ []) (λ b. b < 256) byte_at read_byte (kept_field s) (IsField F) (field_at r) one in
    let rising = read_such (kept_fields s) (λ fields. (length fields < 256) × AllByRecursion (IsField F) fields) (counted_at byte_at (field_at r)) all (rises 0) in
    refit (kept_fields s) _ (fields_at r) rising (AreFields F) (λ fields fits. (fits.0.0, fits.0.1, fits.1)) (λ fields fits. ((fits.0, fits.1), fits.2))

kind_chosen : (n : ℕ) (k : OpKind) → kind_numbered n ≡ Some k → n ≡ kind_number k
kind_chosen zero k e = absurd cc
kind_chosen (suc zero) k e = ap kind_number (some_is Upsert k e)
kind_chosen (suc (suc zero)) k e = ap kind_number (some_is Delete k e)
kind_chosen (suc (suc (suc n))) k e = absurd cc

kind_given : (k : OpKind) → kind_numbered (kind_number k) ≡ Some k
kind_given Upsert = refl
kind_given Delete = refl

kind_small : (k : OpKind) → kind_number k < 256
kind_small Upsert = omega arith
kind_small Delete = omega arith

abbrev entity_in : List EntityInfo → ℕ → Option Entity
entity_in table n = option_map (λ info. info.entity) (info_in table n)

chosen_in : (table : List EntityInfo) (n : ℕ) (k : Entity) → entity_in table n ≡ Some k → n ≡ entity_number k
chosen_in [] n k e = absurd cc
chosen_in (info ∷ table) n k e = by (chosen_in table n k) (eqb (entity_number info.entity) n) refl e
  where
    by : (entity_in table n ≡ Some k → n ≡ entity_number k) → (same : Bool) → eqb (entity_number info.entity) n ≡ same → option_map (λ line. line.entity) (cond same (Some info) (info_in table n)) ≡ Some k → n ≡ entity_number k
    by more true is e = sym (eqb-true _ _ is) ∙ ap entity_number (some_is info.entity k e)
    by more false is e = more e

entity_chosen : (n : ℕ) (k : Entity) → entity_numbered n ≡ Some k → n ≡ entity_number k
unfolding entity_numbered
entity_chosen n k e = chosen_in ENTITIES n k e

entity_given : (k : Entity) → entity_numbered (entity_number k) ≡ Some k
unfolding entity_numbered
entity_given = entity_found

entity_small : (k : Entity) → entity_number k < 256
entity_small k = ltb-true _ _ (each_entity (λ entity. nat_lt (entity_number entity) 256) refl k)

read_kind : IsRead (λ k. kind_number k ∷ []) (λ k. Unit {0}) kind_at
read_kind = read_choice (λ (b : ℕ). b ∷ []) (λ b. b < 256) byte_at read_byte kind_numbered kind_number kind_chosen kind_given kind_small

read_entity : IsRead (λ k. entity_number k ∷ []) (λ k. Unit {0}) entity_at
read_entity = read_choice (λ (b : ℕ). b ∷ []) (λ b. b < 256) byte_at read_byte entity_numbered entity_number entity_chosen entity_given entity_small

parts_of : Op → OpParts
parts_of op = (op.kind, (op.entity, (op.id, (op.second, op.fields))))

read_op : IsRead kept_op IsOp op_at
unfolding op_at parts_of
read_op =
    let fields = read_fields kept_given IsGiven given_at read_given in
    let second = read_pair (to_be_bytes w128) (λ n. n < 2 ^ 128) (number_at w128) read_id (kept_fields kept_given) (AreFields IsGiven) (fields_at given_at) fields in
    let id = read_pair (to_be_bytes w128) (λ n. n < 2 ^ 128) (number_at w128) read_id _ _ _ second in
    let entity = read_pair (λ k. entity_number k ∷ []) (λ k. Unit {0}) entity_at read_entity _ _ _ id in
    let all = read_pair (λ k. kind_number k ∷ []) (λ k. Unit {0}) kind_at read_kind _ _ _ entity in
    read_as _ _ _ all op_of parts_of IsOp (λ x f. refl) (λ y f. refl) (λ x f. (f.1.1.0, f.1.1.1.0, f.1.1.1.1)) (λ y f. (tt, (tt, (f.0, (f.1, f.2)))))

read_ops : IsRead kept_ops AreOps ops_at
read_ops = read_counted (to_be_bytes w32) (λ n. n < 2 ^ 32) (number_at w32) (read_number w32 (2 ^ 32) wide32) kept_op IsOp op_at read_op

abbrev pub kept_body : List (ℕ × Value) × List Op → List ℕ
kept_body body = kept_fields kept_value body.0 ++ kept_ops body.1

abbrev pub IsBody : List (ℕ × Value) × List Op → Type 0
IsBody body = AreFields IsValue body.0 × AreOps body.1

pub read_body : IsRead kept_body IsBody body_at
read_body = read_pair (kept_fields kept_value) (AreFields IsValue) (fields_at value_at) (read_fields kept_value IsValue value_at read_value) kept_ops AreOps ops_at read_ops
