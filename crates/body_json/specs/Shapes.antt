-- The operations that a JSON value says, or the first wrong place in it.
use Rattle.std.specs.Prelude.{ℕ, ◌+◌, ◌^◌, ◌&&◌, pos, Bool, List, [], ◌∷◌, codes, if◌then◌else◌, nat_lt, nat_le, Option, Some, None, option_map, option_and_then, Result, Ok, Err}
use Rattle.std.specs.List.{list_any}
use Rattle.std.specs.Str.{bytes_eq}
use Rattle.serde_json.specs.Data.{Num, unsigned, negative, float, Data, null, boolean, number, string, array, object, Items, no_items, item, Members, no_members, member}
use Rattle.serde_json.specs.Events.{items_len}
use Rattle.serde_json.specs.Find.{get_member, as_str, as_array, as_object}
use Rattle.shop_defs.specs.declared.op.OpKind.{OpKind}
use Rattle.shop_defs.specs.declared.op.OpKind.TheVariants.{Upsert, Delete}
use Rattle.shop_requests.specs.declared.raw.RawOp.{RawOp}
use Rattle.shop_requests.specs.declared.raw.Raw.{Raw}
use Rattle.shop_requests.specs.declared.raw.Raw.TheVariants as R
use Rattle.shop_requests.specs.Ids.{id_of}
use Rattle.shop_requests.specs.Operations.{Given}
use Rattle.body_json.specs.Pointers.{element_pointer, member_pointer}

-- ---- what is given for a field

-- a number with a point or an exponent is read as a float, and so is -0, and a whole number past 64 bits
abbrev pub raw_number : Num → Raw
raw_number (unsigned n) = if nat_lt n (2 ^ 63) then R.Int (pos n) else R.Big n
raw_number (negative z) = R.Int z
raw_number (float x) = R.Other

abbrev pub raw : Data → Raw
raw null = R.Null
raw (boolean b) = R.Flag b
raw (number n) = raw_number n
raw (string s) = R.Text s
raw (array ds) = R.Other
raw (object ms) = R.Other

-- the fields that an object gives, in its order
abbrev pub given : Members → List Given
given no_members = []
given (member name d ms) = (name, raw d) ∷ given ms

-- ---- the members of an operation, by name: none where one is missing or malformed

abbrev pub kind_named : List ℕ → Option OpKind
kind_named name = if bytes_eq name (codes "upsert") then Some Upsert else (if bytes_eq name (codes "delete") then Some Delete else None)

abbrev pub kind_in : Members → Option OpKind
kind_in ms = option_and_then kind_named (option_and_then as_str (get_member (codes "op") ms))

abbrev pub entity_in : Members → Option (List ℕ)
entity_in ms = option_and_then as_str (get_member (codes "entity") ms)

-- the id that a value is
abbrev pub id_of_data : Data → Option ℕ
id_of_data d = option_and_then id_of (as_str d)

abbrev pub id_in : Members → Option ℕ
id_in ms = option_and_then id_of_data (get_member (codes "id") ms)

-- a member that may be left out
abbrev pub if_given : {A : Type 0} → A → (Data → Option A) → Option Data → Option A
if_given otherwise reads None = Some otherwise
if_given otherwise reads (Some d) = reads d

abbrev pub second_in : Members → Option ℕ
second_in ms = if_given 0 id_of_data (get_member (codes "second") ms)

-- a delete gives no fields
abbrev pub fields_in : OpKind → Members → Option (List Given)
fields_in Upsert ms = if_given [] (λ d. option_map given (as_object d)) (get_member (codes "fields") ms)
fields_in Delete ms = Some []

-- the names of the members that an operation of that kind may have
abbrev pub names : OpKind → List (List ℕ)
names Upsert = codes "op" ∷ codes "entity" ∷ codes "id" ∷ codes "second" ∷ codes "fields" ∷ []
names Delete = codes "op" ∷ codes "entity" ∷ codes "id" ∷ codes "second" ∷ []

-- the first member with another name, which is the least: members stand in the order of their names
abbrev pub unknown : List (List ℕ) → Members → Option (List ℕ)
unknown known no_members = None
unknown known (member name d ms) = if list_any (bytes_eq name) known then unknown known ms else Some name

-- ---- operations, or the pointer to the first wrong place

-- what is read of a member, if it is neither missing nor malformed
abbrev pub needed : {A : Type 0} → ℕ → List ℕ → Option A → Result A (List ℕ)
needed at name (Some a) = Ok a
needed at name None = Err (member_pointer at name)

-- what comes next, if nothing is wrong so far
abbrev pub and_then : {A B : Type 0} → Result A (List ℕ) → (A → Result B (List ℕ)) → Result B (List ℕ)
and_then (Ok a) next = next a
and_then (Err place) next = Err place

abbrev pub if_known : ℕ → Option (List ℕ) → RawOp → Result RawOp (List ℕ)
if_known at (Some name) op = Err (member_pointer at name)
if_known at None op = Ok op

-- the operation that the members of an element make
unfoldable pub operation : ℕ → Members → Result RawOp (List ℕ)
operation at ms =
    and_then (needed at (codes "op") (kind_in ms)) (λ kind.
    and_then (needed at (codes "entity") (entity_in ms)) (λ entity.
    and_then (needed at (codes "id") (id_in ms)) (λ id.
    and_then (needed at (codes "second") (second_in ms)) (λ second.
    and_then (needed at (codes "fields") (fields_in kind ms)) (λ fields.
    if_known at (unknown (names kind) ms) (record { kind = kind; entity = entity; id = id; second = second; fields = fields }))))))

abbrev pub element_of : ℕ → Option Members → Result RawOp (List ℕ)
element_of at (Some ms) = operation at ms
element_of at None = Err (element_pointer at)

-- the operation that the element with that number is
abbrev pub element : ℕ → Data → Result RawOp (List ℕ)
element at d = element_of at (as_object d)

-- the operations that the elements are, from that number on
abbrev pub elements : ℕ → Items → Result (List RawOp) (List ℕ)
elements at no_items = Ok []
elements at (item d ds) = and_then (element at d) (λ op. and_then (elements (at + 1) ds) (λ ops. Ok (op ∷ ops)))

-- how many operations a batch may have
abbrev pub is_count : ℕ → Bool
is_count count = nat_le 1 count && nat_le count 1000

abbrev pub batch_of : Option Items → Result (List RawOp) (List ℕ)
batch_of (Some ds) = if is_count (items_len ds) then elements 0 ds else Err []
batch_of None = Err []

-- the operations of a batch
unfoldable pub batch : Data → Result (List RawOp) (List ℕ)
batch d = batch_of (as_array d)
