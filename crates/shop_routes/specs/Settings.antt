-- The four header fields that say how a request is answered.
use Rattle.std.specs.Prelude.{ℕ, List, [], ◌∷◌, Bool, true, false, Option, Some, None, if◌then◌else◌, is_some, unwrap_or, codes}
use Rattle.std.specs.Str.{bytes_eq}
use Rattle.shop_requests.specs.Ids.{id_of}
use Rattle.shop_http.specs.Requests.{Field, missing, once, twice, Request}
use Rattle.shop_routes.specs.declared.headers.Headers.{Headers}
use Rattle.shop_routes.specs.DigitTexts.{front_of}
use Rattle.shop_routes.specs.PathParts.{Checks, first_bad}

-- what a field says: a preset where it is missing, and none where it is malformed or there twice
abbrev pub said : {A : Type 0} → A → (List ℕ → Option A) → Field → Option A
said preset read missing = Some preset
said preset read (once text) = read text
said preset read twice = None

-- `0` or `1`
abbrev pub flag_of : List ℕ → Option Bool
flag_of text = if bytes_eq text (codes "0") then Some false else (if bytes_eq text (codes "1") then Some true else None)

-- the language: 1 where none is given
abbrev pub language_of : Request → Option ℕ
language_of r = said 1 id_of r.language

-- the version: the live one where none is given
abbrev pub version_of : Request → Option ℕ
version_of r = said 0 id_of r.version

-- whether an empty field shows what the row's parent has: not where nothing is given
abbrev pub inherit_of : Request → Option Bool
inherit_of r = said false flag_of r.inheritance

-- how many accepted changes an answer has to have seen: none where nothing is given
abbrev pub min_front_of : Request → Option ℕ
min_front_of r = said 0 front_of r.min_front

-- the fields, in the order in which they are tried
abbrev pub header_checks : Request → Checks
header_checks r =
    (codes "x-language-id", is_some (language_of r)) ∷
    (codes "x-version-id", is_some (version_of r)) ∷
    (codes "x-inheritance", is_some (inherit_of r)) ∷
    (codes "x-min-front", is_some (min_front_of r)) ∷ []

-- the name of the first field that is malformed or there twice
unfoldable pub bad_header : Request → Option (List ℕ)
bad_header r = first_bad (header_checks r)

-- what well-formed fields say
unfoldable pub headers_of : Request → Headers
headers_of r = record {
  language = unwrap_or (language_of r) 0;
  version = unwrap_or (version_of r) 0;
  inherit = unwrap_or (inherit_of r) false;
  min_front = unwrap_or (min_front_of r) 0;
}
