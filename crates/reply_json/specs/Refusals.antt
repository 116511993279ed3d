-- What replies say of refusals, as JSON values, and with which status.
use Rattle.std.specs.Prelude.{ℕ, ◌==◌, List, [], ◌∷◌, ◌++◌, codes, if◌then◌else◌}
use Rattle.std.specs.Fmt.{signed_decimal}
use Rattle.json.specs.Token.{Token}
use Rattle.serde_json.specs.Data.{Data, string}
use Rattle.shop_defs.specs.declared.broken.Broken.{Broken, out-Broken}
use Rattle.shop_defs.specs.declared.broken.Broken.TheFolds.{fold-Broken}
use Rattle.shop_defs.specs.declared.broken.Broken.TheOpen.{Broken-F}
use Rattle.shop_defs.specs.declared.refused.Refused.{Refused}
use Rattle.shop_defs.specs.Texts.{entity_text}
use Rattle.reply_json.specs.Objects.{object_of, count_data, number_data, id_data, key_data}
use Rattle.reply_json.specs.Tokens.{member_tokens}

-- the name of a rule that is broken
abbrev pub error_of : {A : Type 0} → Broken-F A → List ℕ
error_of Broken-F.UnknownEntity = codes "unknown_entity"
error_of (Broken-F.UnknownField field) = codes "unknown_field"
error_of (Broken-F.WrongKind field) = codes "wrong_kind"
error_of (Broken-F.OutOfRange field value) = codes "out_of_range"
error_of (Broken-F.NotVersioned entity) = codes "not_versioned"
error_of (Broken-F.NoSuchVersion version) = codes "no_such_version"
error_of (Broken-F.VersionExists version) = codes "version_exists"
error_of (Broken-F.OutsideDraft key) = codes "outside_draft"
error_of (Broken-F.NoSuchRow key) = codes "no_such_row"
error_of (Broken-F.FixedField field) = codes "fixed_field"
error_of (Broken-F.MissingRequired field) = codes "missing_required"
error_of (Broken-F.MissingReference field id) = codes "missing_reference"
error_of (Broken-F.Duplicate key) = codes "duplicate"
error_of (Broken-F.ParentCycle id) = codes "parent_cycle"
error_of (Broken-F.ParentTooDeep id) = codes "parent_too_deep"
error_of (Broken-F.InUse by) = codes "in_use"
error_of (Broken-F.TooMany entity limit) = codes "too_many"
error_of (Broken-F.MergeBroken commit op inner) = codes "merge_broken"
error_of (Broken-F.OrderExists id) = codes "order_exists"
error_of (Broken-F.NoSuchCart id) = codes "no_such_cart"
error_of (Broken-F.CartEmpty id) = codes "cart_empty"
error_of (Broken-F.Unstable id) = codes "unstable"
error_of (Broken-F.Blocked line cause) = codes "blocked"
error_of (Broken-F.BadTransition state action) = codes "bad_transition"
error_of (Broken-F.StockShort product have want) = codes "stock_short"
error_of Broken-F.HistoryFull = codes "history_full"

-- what it is broken by; of a merge, what is said of the operation that breaks a rule
abbrev pub parts_of : Broken-F (ℕ → Data) → List (List ℕ × Data)
parts_of Broken-F.UnknownEntity = []
parts_of (Broken-F.UnknownField field) = (codes "field", string field) ∷ []
parts_of (Broken-F.WrongKind field) = (codes "field", string field) ∷ []
parts_of (Broken-F.OutOfRange field value) = (codes "field", string field) ∷ (codes "value", string (signed_decimal value)) ∷ []
parts_of (Broken-F.NotVersioned entity) = (codes "entity", string (entity_text entity)) ∷ []
parts_of (Broken-F.NoSuchVersion version) = (codes "version", id_data version) ∷ []
parts_of (Broken-F.VersionExists version) = (codes "version", id_data version) ∷ []
parts_of (Broken-F.OutsideDraft key) = (codes "key", key_data key) ∷ []
parts_of (Broken-F.NoSuchRow key) = (codes "key", key_data key) ∷ []
parts_of (Broken-F.FixedField field) = (codes "field", string field) ∷ []
parts_of (Broken-F.MissingRequired field) = (codes "field", string field) ∷ []
parts_of (Broken-F.MissingReference field id) = (codes "field", string field) ∷ (codes "id", id_data id) ∷ []
parts_of (Broken-F.Duplicate key) = (codes "key", key_data key) ∷ []
parts_of (Broken-F.ParentCycle id) = (codes "id", id_data id) ∷ []
parts_of (Broken-F.ParentTooDeep id) = (codes "id", id_data id) ∷ []
parts_of (Broken-F.InUse by) = (codes "by", key_data by) ∷ []
parts_of (Broken-F.TooMany entity limit) = (codes "entity", string (entity_text entity)) ∷ (codes "limit", count_data limit) ∷ []
parts_of (Broken-F.MergeBroken commit op inner) =
    (codes "commit", count_data commit) ∷ (codes "op", count_data op)
    ∷ (codes "inner", inner 0) ∷ []
parts_of (Broken-F.OrderExists id) = (codes "id", id_data id) ∷ []
parts_of (Broken-F.NoSuchCart id) = (codes "id", id_data id) ∷ []
parts_of (Broken-F.CartEmpty id) = (codes "id", id_data id) ∷ []
parts_of (Broken-F.Unstable id) = (codes "id", id_data id) ∷ []
parts_of (Broken-F.Blocked line cause) = (codes "line", id_data line) ∷ (codes "cause", string cause) ∷ []
parts_of (Broken-F.BadTransition state action) = (codes "state", string state) ∷ (codes "action", string action) ∷ []
parts_of (Broken-F.StockShort product have want) = (codes "product", id_data product) ∷ (codes "have", number_data have) ∷ (codes "want", number_data want) ∷ []
parts_of Broken-F.HistoryFull = []

-- which operation breaks the rule, where one does
abbrev pub op_part : ℕ → List (List ℕ × Data)
op_part op = if op == 0 then [] else (codes "op", count_data op) ∷ []

-- its tokens; for a private clause
abbrev pub op_tokens : ℕ → List Token
op_tokens op = if op == 0 then [] else member_tokens (codes "op") (count_data op)

-- a refusal by its operation, its name and its parts; a part that is an operation counts in place of it
abbrev pub refusal_of : ℕ → List ℕ → List (List ℕ × Data) → Data
refusal_of op error parts = object_of (op_part op ++ (codes "error", string error) ∷ parts)

abbrev pub broken_step : Broken-F (ℕ → Data) → ℕ → Data
broken_step broken op = refusal_of op (error_of broken) (parts_of broken)

-- a rule that is broken by that operation, or by none where it is 0
abbrev pub broken_data : Broken → ℕ → Data
broken_data = fold-Broken (ℕ → Data) broken_step

abbrev pub refusal_data : Refused → Data
refusal_data refused = broken_data refused.broken refused.op

-- the status of the reply (RFC 9110, section 15)
abbrev pub status_of : {A : Type 0} → Broken-F A → ℕ
status_of Broken-F.UnknownEntity = 400
status_of (Broken-F.UnknownField field) = 400
status_of (Broken-F.WrongKind field) = 400
status_of (Broken-F.OutOfRange field value) = 400
status_of (Broken-F.NotVersioned entity) = 400
status_of (Broken-F.NoSuchVersion version) = 404
status_of (Broken-F.VersionExists version) = 409
status_of (Broken-F.OutsideDraft key) = 409
status_of (Broken-F.NoSuchRow key) = 404
status_of (Broken-F.FixedField field) = 409
status_of (Broken-F.MissingRequired field) = 400
status_of (Broken-F.MissingReference field id) = 409
status_of (Broken-F.Duplicate key) = 409
status_of (Broken-F.ParentCycle id) = 409
status_of (Broken-F.ParentTooDeep id) = 409
status_of (Broken-F.InUse by) = 409
status_of (Broken-F.TooMany entity limit) = 409
status_of (Broken-F.MergeBroken commit op inner) = 409
status_of (Broken-F.OrderExists id) = 409
status_of (Broken-F.NoSuchCart id) = 404
status_of (Broken-F.CartEmpty id) = 409
status_of (Broken-F.Unstable id) = 409
status_of (Broken-F.Blocked line cause) = 409
status_of (Broken-F.BadTransition state action) = 409
status_of (Broken-F.StockShort product have want) = 409
status_of Broken-F.HistoryFull = 409

abbrev pub refusal_status : Broken → ℕ
refusal_status broken = status_of (out-Broken broken)

-- the name of the rule
abbrev pub error_text : Broken → List ℕ
error_text broken = error_of (out-Broken broken)
