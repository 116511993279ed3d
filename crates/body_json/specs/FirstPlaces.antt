-- What a pointer names: of the places of a batch, in their order, the first that is wrong.
use Rattle.std.specs.Prelude.{◌≡◌, ℕ, ◌+◌, List, [], ◌∷◌, codes, not, Bool, if◌then◌else◌, Option, Some, None, option_map, option_and_then}
use Rattle.std.specs.List.{list_any}
use Rattle.std.specs.Result.{result_err}
use Rattle.std.specs.Str.{bytes_eq}
use Rattle.serde_json.specs.Data.{Data, object, Items, no_items, item, Members}
use Rattle.serde_json.specs.Events.{items_len}
use Rattle.serde_json.specs.Find.{as_array, as_object, get_item}
use Rattle.shop_requests.specs.Operations.{Given, least_name}
use Rattle.body_json.specs.Bodies.{Reads}
use Rattle.body_json.specs.Pointers.{element_pointer, member_pointer}
use Rattle.body_json.specs.Shapes.{kind_in, entity_in, id_in, second_in, fields_in, names, unknown, given, is_count, batch}

-- the name of a member that is missing or malformed
abbrev pub if_none : {A : Type 0} → List ℕ → Option A → Option (List ℕ)
if_none name None = Some name
if_none name (Some a) = None

abbrev pub first : List (Option (List ℕ)) → Option (List ℕ)
first [] = None
first (None ∷ rest) = first rest
first (Some place ∷ rest) = Some place

-- the places of an operation, each with its name where it is wrong
abbrev pub places : Members → List (Option (List ℕ))
places ms =
    if_none (codes "op") (kind_in ms) ∷
    if_none (codes "entity") (entity_in ms) ∷
    if_none (codes "id") (id_in ms) ∷
    if_none (codes "second") (second_in ms) ∷
    option_and_then (λ kind. if_none (codes "fields") (fields_in kind ms)) (kind_in ms) ∷
    option_and_then (λ kind. unknown (names kind) ms) (kind_in ms) ∷ []

-- the first wrong place in an element
abbrev pub wrong_in_element : ℕ → Option Members → Option (List ℕ)
wrong_in_element at (Some ms) = option_map (member_pointer at) (first (places ms))
wrong_in_element at None = Some (element_pointer at)

abbrev pub wrong_in_elements : ℕ → Items → List (Option (List ℕ))
wrong_in_elements at no_items = []
wrong_in_elements at (item d ds) = wrong_in_element at (as_object d) ∷ wrong_in_elements (at + 1) ds

abbrev pub wrong_in_list : Option Items → Option (List ℕ)
wrong_in_list (Some ds) = if is_count (items_len ds) then first (wrong_in_elements 0 ds) else Some []
wrong_in_list None = Some []

-- a value is no batch exactly where a place is wrong, and the pointer names the first
abbrev pub TheFirstIsNamed : Type 0
TheFirstIsNamed = (d : Data) → result_err (batch d) ≡ wrong_in_list (as_array d)

-- the member has none of these names
abbrev pub is_other : List (List ℕ) → Given → Bool
is_other known member = not (list_any (bytes_eq member.0) known)

-- in an element of a body the first unknown member has the least name of all that are unknown
abbrev pub TheLeastIsNamed : Type 0
TheLeastIsNamed =
    (body : List ℕ) (d : Data) (ds : Items) (at : ℕ) (ms : Members) → Reads body d → as_array d ≡ Some ds → get_item at ds ≡ Some (object ms)
    → (known : List (List ℕ)) → unknown known ms ≡ least_name (is_other known) None (given ms)
