-- A body that is an object, member by member.
use Rattle.std.proofs.Common.{◌≡◌, ℕ, ℤ, List, codes, Bool, true, false, Option, Some, None, is_some, Result, Ok, Err, refl, sym, ◌∙◌}
use Rattle.serde_json.specs.Data.{Members}
use Rattle.body_json.specs.declared.object.Form.TheVariants as F
use Rattle.body_json.specs.declared.object.DraftBody.{DraftBody}
use Rattle.body_json.specs.Objects.{names_of, amount_in, order_in, draft_members, amount_members, order_members}
use Rattle.body_json.specs.Pointers.{name_pointer}
use Rattle.body_json.specs.Shapes.{entity_in, id_in, unknown}

-- ---- a change of stock

module _ (ms : Members) where
  pub no_amount : None ≡ amount_in ms → amount_members ms ≡ Err (name_pointer (codes "amount"))
  unfolding amount_members
  no_amount e = rw (← e) refl

  module _ (amount : ℤ) (a : Some amount ≡ amount_in ms) where
    pub beside_amount : (name : List ℕ) → Some name ≡ unknown (names_of F.Amount) ms → amount_members ms ≡ Err (name_pointer name)
    unfolding amount_members
    beside_amount name e = rw (← a, ← e) refl

    pub amount_whole : None ≡ unknown (names_of F.Amount) ms → amount_members ms ≡ Ok amount
    unfolding amount_members
    amount_whole e = rw (← a, ← e) refl

  -- ---- an order of a cart

  pub no_order : None ≡ order_in ms → order_members ms ≡ Err (name_pointer (codes "order"))
  unfolding order_members
  no_order e = rw (← e) refl

  module _ (order : ℕ) (o : Some order ≡ order_in ms) where
    pub beside_order : (name : List ℕ) → Some name ≡ unknown (names_of F.Order) ms → order_members ms ≡ Err (name_pointer name)
    unfolding order_members
    beside_order name e = rw (← o, ← e) refl

    pub order_whole : None ≡ unknown (names_of F.Order) ms → order_members ms ≡ Ok order
    unfolding order_members
    order_whole e = rw (← o, ← e) refl

  -- ---- a new draft

  pub no_entity : None ≡ entity_in ms → draft_members ms ≡ Err (name_pointer (codes "entity"))
  unfolding draft_members
  no_entity e = rw (← e) refl

  pub not_there : (found : Option (List ℕ)) → false ≡ is_some found → None ≡ found
  not_there None e = refl
  not_there (Some text) e = absurd cc

  pub is_there : (found : Option (List ℕ)) → true ≡ is_some found → (text : List ℕ) × (Some text ≡ found)
  is_there None e = absurd cc
  is_there (Some text) e = (text, refl)

  module _ (entity : List ℕ) (t : Some entity ≡ entity_in ms) where
    pub no_root : None ≡ id_in ms → draft_members ms ≡ Err (name_pointer (codes "id"))
    unfolding draft_members
    no_root e = rw (← t, ← e) refl

    module _ (root : ℕ) (i : Some root ≡ id_in ms) where
      pub beside_root : (name : List ℕ) → Some name ≡ unknown (names_of F.Draft) ms → draft_members ms ≡ Err (name_pointer name)
      unfolding draft_members
      beside_root name e = rw (← t, ← i, ← e) refl

      pub draft_whole : None ≡ unknown (names_of F.Draft) ms → draft_members ms ≡ Ok (record { entity = entity; root = root })
      unfolding draft_members
      draft_whole e = rw (← t, ← i, ← e) refl
