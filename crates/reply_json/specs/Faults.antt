-- What replies say of malformed requests, as JSON values, and with which status.
use Rattle.std.specs.Prelude.{ℕ, List, [], ◌∷◌, codes}
use Rattle.json.specs.Token.{Token, begin_object, end_object, key}
use Rattle.json.specs.Token as token
use Rattle.serde_json.specs.Data.{Data, string}
use Rattle.shop_requests.specs.declared.line_fault.LineFault.{LineFault}
use Rattle.shop_requests.specs.declared.line_fault.LineFault.TheVariants as F
use Rattle.reply_json.specs.Objects.{object_of}

-- the name of a fault
abbrev pub fault_name : LineFault → List ℕ
fault_name F.NotBuilt = codes "not_built"
fault_name F.BadHead = codes "bad_head"
fault_name F.Chunked = codes "chunked"
fault_name F.BodyTooLarge = codes "body_too_large"
fault_name F.NoRoute = codes "no_route"
fault_name F.WrongMethod = codes "wrong_method"
fault_name (F.BadPath part) = codes "bad_path"
fault_name (F.BadHeader name) = codes "bad_header"
fault_name F.BadJson = codes "bad_json"
fault_name (F.BadShape pointer) = codes "bad_shape"

-- where it is
abbrev pub fault_parts : LineFault → List (List ℕ × Data)
fault_parts (F.BadPath part) = (codes "part", string part) ∷ []
fault_parts (F.BadHeader name) = (codes "name", string name) ∷ []
fault_parts (F.BadShape pointer) = (codes "pointer", string pointer) ∷ []
fault_parts fault = []

abbrev pub fault_data : LineFault → Data
fault_data fault = object_of ((codes "error", string (fault_name fault)) ∷ fault_parts fault)

-- the status of the reply (RFC 9110, section 15)
abbrev pub fault_status : LineFault → ℕ
fault_status F.NotBuilt = 501
fault_status F.BadHead = 400
fault_status F.Chunked = 501
fault_status F.BodyTooLarge = 413
fault_status F.NoRoute = 404
fault_status F.WrongMethod = 405
fault_status (F.BadPath part) = 400
fault_status (F.BadHeader name) = 400
fault_status F.BadJson = 400
fault_status (F.BadShape pointer) = 400

-- the tokens of a fault with the place that it is at; for a private clause
abbrev pub fault_tokens : List ℕ → List ℕ → List ℕ → List Token
fault_tokens error name place = begin_object ∷ key (codes "error") ∷ token.string error ∷ key name ∷ token.string place ∷ end_object ∷ []
