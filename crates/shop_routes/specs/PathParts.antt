-- The parts of a path, as numbers.
use Rattle.std.specs.Prelude.{ℕ, List, [], ◌∷◌, Bool, true, false, Option, Some, None, if◌then◌else◌, is_some, unwrap_or, codes}
use Rattle.matchit.specs.Params.{named}
use Rattle.shop_requests.specs.Ids.{id_of}
use Rattle.shop_routes.specs.declared.parts.Numbers.{Numbers}
use Rattle.shop_routes.specs.DigitTexts.{id_or_nil, page_of}

-- each name of a path with the part of the target that it stands for
abbrev pub Parts : Type 0
Parts = List (List ℕ × List ℕ)

-- a part that is a number: 0 where the path has no such part, and none where it is malformed
abbrev pub number_in : (List ℕ → Option ℕ) → Option (List ℕ) → Option ℕ
number_in read None = Some 0
number_in read (Some text) = read text

-- how an id is read: where keys are listed from, it may be nil
abbrev pub id_form : Bool → List ℕ → Option ℕ
id_form false = id_of
id_form true = id_or_nil

abbrev pub version_in : Bool → Parts → Option ℕ
version_in nil parts = number_in (id_form nil) (named (codes "version") parts)

abbrev pub id_in : Bool → Parts → Option ℕ
id_in nil parts = number_in (id_form nil) (named (codes "id") parts)

abbrev pub second_in : Bool → Parts → Option ℕ
second_in nil parts = number_in (id_form nil) (named (codes "second") parts)

abbrev pub page_in : Parts → Option ℕ
page_in parts = number_in page_of (named (codes "page") parts)

-- the text of a part, empty where the path has none of that name
abbrev pub text_in : List ℕ → Parts → List ℕ
text_in name parts = unwrap_or (named name parts) []

-- names, each with whether it is well-formed
abbrev pub Checks : Type 0
Checks = List (List ℕ × Bool)

-- the first name that isn't
abbrev pub first_bad : Checks → Option (List ℕ)
first_bad [] = None
first_bad (check ∷ rest) = if check.1 then first_bad rest else Some check.0

-- the parts that are numbers, in the order in which they stand in a path
abbrev pub part_checks : Bool → Parts → Checks
part_checks nil parts =
    (codes "version", is_some (version_in nil parts)) ∷
    (codes "id", is_some (id_in nil parts)) ∷
    (codes "second", is_some (second_in nil parts)) ∷
    (codes "page", is_some (page_in parts)) ∷ []

-- the name of the first malformed part
unfoldable pub bad_part : Bool → Parts → Option (List ℕ)
bad_part nil parts = first_bad (part_checks nil parts)

-- the numbers of a path whose parts are well-formed
unfoldable pub numbers_in : Bool → Parts → Numbers
numbers_in nil parts = record {
  version = unwrap_or (version_in nil parts) 0;
  id = unwrap_or (id_in nil parts) 0;
  second = unwrap_or (second_in nil parts) 0;
  page = unwrap_or (page_in parts) 0;
}
