-- The bodies that are objects: what they say, or the first wrong place in them.
use Rattle.std.specs.Prelude.{ℕ, ℤ, List, [], ◌∷◌, ◌++◌, codes, Option, Some, None, option_and_then, Result, Ok, Err}
use Rattle.serde_json.specs.Data.{Data, Members}
use Rattle.serde_json.specs.Find.{get_member, as_object}
use Rattle.shop_requests.specs.declared.raw.Raw.{Raw}
use Rattle.shop_requests.specs.declared.raw.Raw.TheVariants as R
use Rattle.body_json.specs.declared.object.DraftBody.{DraftBody}
use Rattle.body_json.specs.declared.object.Form.{Form}
use Rattle.body_json.specs.declared.object.Form.TheVariants as F
use Rattle.body_json.specs.Pointers.{name_pointer}
use Rattle.body_json.specs.Shapes.{and_then, entity_in, id_in, id_of_data, raw, unknown}

-- the names of the members of each body, in their order
abbrev pub names_of : Form → List (List ℕ)
names_of F.Draft = codes "entity" ∷ codes "id" ∷ []
names_of F.Amount = codes "amount" ∷ []
names_of F.Order = codes "order" ∷ []

-- the whole number that is given, where an i64 holds it
abbrev pub whole : Raw → Option ℤ
whole (R.Int n) = Some n
whole raw = None

abbrev pub amount_in : Members → Option ℤ
amount_in ms = option_and_then (λ d. whole (raw d)) (get_member (codes "amount") ms)

abbrev pub order_in : Members → Option ℕ
order_in ms = option_and_then id_of_data (get_member (codes "order") ms)

-- what is read of a member, if it is neither missing nor malformed
abbrev pub wanted : {A : Type 0} → List ℕ → Option A → Result A (List ℕ)
wanted name (Some a) = Ok a
wanted name None = Err (name_pointer name)

-- what is read, if no member has another name
abbrev pub if_alone : {A : Type 0} → Option (List ℕ) → A → Result A (List ℕ)
if_alone (Some name) a = Err (name_pointer name)
if_alone None a = Ok a

unfoldable pub draft_members : Members → Result DraftBody (List ℕ)
draft_members ms =
    and_then (wanted (codes "entity") (entity_in ms)) (λ entity.
    and_then (wanted (codes "id") (id_in ms)) (λ id.
    if_alone (unknown (names_of F.Draft) ms) (record { entity = entity; root = id })))

unfoldable pub amount_members : Members → Result ℤ (List ℕ)
amount_members ms = and_then (wanted (codes "amount") (amount_in ms)) (λ amount. if_alone (unknown (names_of F.Amount) ms) amount)

unfoldable pub order_members : Members → Result ℕ (List ℕ)
order_members ms = and_then (wanted (codes "order") (order_in ms)) (λ order. if_alone (unknown (names_of F.Order) ms) order)

-- what an object's members say; the whole value is wrong where it is no object
abbrev pub of_object : {A : Type 0} → (Members → Result A (List ℕ)) → Option Members → Result A (List ℕ)
of_object reads (Some ms) = reads ms
of_object reads None = Err []

-- the kind and the id of the row that a new draft is of
abbrev pub draft : Data → Result DraftBody (List ℕ)
draft d = of_object draft_members (as_object d)

-- how many pieces are added to a stock
abbrev pub amount : Data → Result ℤ (List ℕ)
amount d = of_object amount_members (as_object d)

-- the id that an order gets
abbrev pub order : Data → Result ℕ (List ℕ)
order d = of_object order_members (as_object d)
