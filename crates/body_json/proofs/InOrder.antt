-- The pointer names the first wrong place.
use Rattle.std.proofs.Common.{◌≡◌, ◌∙◌, ℕ, ◌+◌, List, [], ◌∷◌, Option, Some, None, option_map, Result, Ok, Err, Bool, true, false, if◌then◌else◌, refl}
use Rattle.std.specs.Result.{result_err}
use Rattle.serde_json.specs.Data.{Items, no_items, item, Members}
use Rattle.serde_json.specs.Events.{items_len}
use Rattle.serde_json.specs.Find.{as_array, as_object}
use Rattle.shop_defs.specs.declared.op.OpKind.{OpKind}
use Rattle.shop_requests.specs.declared.raw.RawOp.{RawOp}
use Rattle.shop_requests.specs.Operations.{Given}
use Rattle.body_json.specs.FirstPlaces.{first, places, wrong_in_element, wrong_in_elements, wrong_in_list, TheFirstIsNamed}
use Rattle.body_json.specs.Pointers.{member_pointer}
use Rattle.body_json.specs.Shapes.{kind_in, entity_in, id_in, second_in, fields_in, names, unknown, operation, element_of, element, elements, and_then, batch, batch_of, is_count}
use Rattle.body_json.proofs.Steps as step

module _ (at : ℕ) (ms : Members) where
  abbrev IsFirst : Type 0
  IsFirst = result_err (operation at ms) ≡ option_map (member_pointer at) (first (places ms))

  by_unknown : (kind : OpKind) (entity : List ℕ) (id second : ℕ) (fields : List Given) → Some kind ≡ kind_in ms → Some entity ≡ entity_in ms → Some id ≡ id_in ms → Some second ≡ second_in ms → Some fields ≡ fields_in kind ms
      → (u : Option (List ℕ)) → u ≡ unknown (names kind) ms → IsFirst
  by_unknown kind entity id second fields k t i s f None u = rw (step.whole at ms kind k entity t id i second s fields f u, ← k, ← t, ← i, ← s, ← f, ← u) refl
  by_unknown kind entity id second fields k t i s f (Some name) u = rw (step.wrong_name at ms kind k entity t id i second s fields f name u, ← k, ← t, ← i, ← s, ← f, ← u) refl

  by_fields : (kind : OpKind) (entity : List ℕ) (id second : ℕ) → Some kind ≡ kind_in ms → Some entity ≡ entity_in ms → Some id ≡ id_in ms → Some second ≡ second_in ms
      → (fs : Option (List Given)) → fs ≡ fields_in kind ms → IsFirst
  by_fields kind entity id second k t i s None f = rw (step.wrong_fields at ms kind k entity t id i second s f, ← k, ← t, ← i, ← s, ← f) refl
  by_fields kind entity id second k t i s (Some fields) f = by_unknown kind entity id second fields k t i s f _ refl

  by_second : (kind : OpKind) (entity : List ℕ) (id : ℕ) → Some kind ≡ kind_in ms → Some entity ≡ entity_in ms → Some id ≡ id_in ms → (ss : Option ℕ) → ss ≡ second_in ms → IsFirst
  by_second kind entity id k t i None s = rw (step.wrong_second at ms kind k entity t id i s, ← k, ← t, ← i, ← s) refl
  by_second kind entity id k t i (Some second) s = by_fields kind entity id second k t i s _ refl

  by_id : (kind : OpKind) (entity : List ℕ) → Some kind ≡ kind_in ms → Some entity ≡ entity_in ms → (is : Option ℕ) → is ≡ id_in ms → IsFirst
  by_id kind entity k t None i = rw (step.wrong_id at ms kind k entity t i, ← k, ← t, ← i) refl
  by_id kind entity k t (Some id) i = by_second kind entity id k t i _ refl

  by_entity : (kind : OpKind) → Some kind ≡ kind_in ms → (ts : Option (List ℕ)) → ts ≡ entity_in ms → IsFirst
  by_entity kind k None t = rw (step.wrong_entity at ms kind k t, ← k, ← t) refl
  by_entity kind k (Some entity) t = by_id kind entity k t _ refl

  by_kind : (ks : Option OpKind) → ks ≡ kind_in ms → IsFirst
  by_kind None k = rw (step.wrong_kind at ms k, ← k) refl
  by_kind (Some kind) k = by_entity kind k _ refl

in_element : (at : ℕ) (ms : Option Members) → result_err (element_of at ms) ≡ wrong_in_element at ms
in_element at None = refl
in_element at (Some ms) = by_kind at ms _ refl

-- an element, and those after it
one_more : (this : Result RawOp (List ℕ)) (more : Result (List RawOp) (List ℕ)) → result_err (and_then this (λ op. and_then more (λ ops. Ok (op ∷ ops)))) ≡ first (result_err this ∷ result_err more ∷ [])
one_more (Err place) more = refl
one_more (Ok op) (Ok ops) = refl
one_more (Ok op) (Err place) = refl

first-first : (place : Option (List ℕ)) (rest : List (Option (List ℕ))) → first (place ∷ first rest ∷ []) ≡ first (place ∷ rest)
first-first (Some name) rest = refl
first-first None rest = or_none (first rest) where
  or_none : (place : Option (List ℕ)) → first (place ∷ []) ≡ place
  or_none None = refl
  or_none (Some name) = refl

in_elements : (at : ℕ) (ds : Items) → result_err (elements at ds) ≡ first (wrong_in_elements at ds)
in_elements at no_items = refl
in_elements at (item d ds) =
    one_more (element at d) (elements (at + 1) ds) ∙ rw (in_element at (as_object d), in_elements (at + 1) ds) (first-first (wrong_in_element at (as_object d)) (wrong_in_elements (at + 1) ds))

in_count : (b : Bool) (ds : Items) → result_err (if b then elements 0 ds else Err []) ≡ (if b then first (wrong_in_elements 0 ds) else Some [])
in_count true ds = in_elements 0 ds
in_count false ds = refl

in_list : (ds : Option Items) → result_err (batch_of ds) ≡ wrong_in_list ds
in_list None = refl
in_list (Some ds) = in_count (is_count (items_len ds)) ds

pub first_is_named : TheFirstIsNamed
unfolding batch
first_is_named d = in_list (as_array d)
