-- An operation, member by member, with what is left of the members as they are taken out.
use Rattle.std.proofs.Common.{◌≡◌, ℕ, List, codes, Option, Some, None, option_and_then, Result, Ok, Err, refl, sym, ap, ◌∙◌}
use Rattle.serde_json.specs.Data.{Members}
use Rattle.shop_defs.specs.declared.op.OpKind.{OpKind}
use Rattle.shop_defs.specs.declared.op.OpKind.TheVariants.{Upsert, Delete}
use Rattle.shop_requests.specs.Operations.{Given}
use Rattle.body_json.specs.declared.fault.BodyFault.{BodyFault}
use Rattle.body_json.specs.declared.fault.BodyFault.TheVariants.{BadJson, BadShape, NoMemory}
use Rattle.body_json.specs.LeftMembers.{without, without_fields}
use Rattle.body_json.specs.Pointers.{member_pointer, IsFaultAt, Answers}
use Rattle.body_json.specs.Shapes.{kind_in, entity_in, id_in, id_of_data, second_in, fields_in, if_given, names, unknown, operation}
use Rattle.body_json.proofs.TakenOut.{get_member-without, unknown-without}

-- a fault at the first wrong place is the answer
pub named : {A : Type 0} (meant : Result A (List ℕ)) (pointer : List ℕ) (fault : BodyFault) → meant ≡ Err pointer → IsFaultAt pointer fault → Answers meant (Err fault)
named meant pointer BadJson e is = is
named meant pointer (BadShape p) e is = e ∙ ap Err (sym is)
named meant pointer NoMemory e is = tt

-- ---- what is found in the members that are left once the entity is taken out, and then the fields

module _ (ms left : Members) (e : left ≡ without (codes "entity") ms) where
  pub id_whole : (found : Option ℕ) → found ≡ id_in left → found ≡ id_in ms
  id_whole found is = is ∙ ap id_in e ∙ ap (option_and_then id_of_data) (get_member-without (codes "id") (codes "entity") ms refl)

  pub second_whole : (found : Option ℕ) → found ≡ second_in left → found ≡ second_in ms
  second_whole found is = is ∙ ap second_in e ∙ ap (if_given 0 id_of_data) (get_member-without (codes "second") (codes "entity") ms refl)

  fields_in-without : (kind : OpKind) → fields_in kind (without (codes "entity") ms) ≡ fields_in kind ms
  fields_in-without Upsert = rw (get_member-without (codes "fields") (codes "entity") ms refl) refl
  fields_in-without Delete = refl

  pub fields_whole : (kind : OpKind) (found : Option (List Given)) → found ≡ fields_in kind left → found ≡ fields_in kind ms
  fields_whole kind found is = is ∙ ap (fields_in kind) e ∙ fields_in-without kind

  unknown-left : (kind : OpKind) → unknown (names kind) (without_fields kind (without (codes "entity") ms)) ≡ unknown (names kind) ms
  unknown-left Upsert = unknown-without (names Upsert) (codes "fields") (without (codes "entity") ms) refl ∙ unknown-without (names Upsert) (codes "entity") ms refl
  unknown-left Delete = unknown-without (names Delete) (codes "entity") ms refl

  pub unknown_whole : (kind : OpKind) (last : Members) → last ≡ without_fields kind left → (found : Option (List ℕ)) → found ≡ unknown (names kind) last → found ≡ unknown (names kind) ms
  unknown_whole kind last rest found is = is ∙ ap (unknown (names kind)) (rest ∙ ap (without_fields kind) e) ∙ unknown-left kind

-- ---- each way in which an operation ends

module _ (at : ℕ) (ms : Members) where
  pub wrong_kind : None ≡ kind_in ms → operation at ms ≡ Err (member_pointer at (codes "op"))
  unfolding operation
  wrong_kind e = rw (← e) refl

  module _ (kind : OpKind) (k : Some kind ≡ kind_in ms) where
    pub wrong_entity : None ≡ entity_in ms → operation at ms ≡ Err (member_pointer at (codes "entity"))
    unfolding operation
    wrong_entity e = rw (← k, ← e) refl

    module _ (entity : List ℕ) (t : Some entity ≡ entity_in ms) where
      pub wrong_id : None ≡ id_in ms → operation at ms ≡ Err (member_pointer at (codes "id"))
      unfolding operation
      wrong_id e = rw (← k, ← t, ← e) refl

      module _ (id : ℕ) (i : Some id ≡ id_in ms) where
        pub wrong_second : None ≡ second_in ms → operation at ms ≡ Err (member_pointer at (codes "second"))
        unfolding operation
        wrong_second e = rw (← k, ← t, ← i, ← e) refl

        module _ (second : ℕ) (s : Some second ≡ second_in ms) where
          pub wrong_fields : None ≡ fields_in kind ms → operation at ms ≡ Err (member_pointer at (codes "fields"))
          unfolding operation
          wrong_fields e = rw (← k, ← t, ← i, ← s, ← e) refl

          module _ (fields : List Given) (f : Some fields ≡ fields_in kind ms) where
            pub wrong_name : (name : List ℕ) → Some name ≡ unknown (names kind) ms → operation at ms ≡ Err (member_pointer at name)
            unfolding operation
            wrong_name name e = rw (← k, ← t, ← i, ← s, ← f, ← e) refl

            pub whole : None ≡ unknown (names kind) ms → operation at ms ≡ Ok (record { kind = kind; entity = entity; id = id; second = second; fields = fields })
            unfolding operation
            whole e = rw (← k, ← t, ← i, ← s, ← f, ← e) refl
