-- What holds of the parts of a path.
use Rattle.std.specs.Prelude.{◌≡◌, ℕ, List, Bool, true, Some, Ok, if◌then◌else◌, map, is_some, codes}
use Rattle.std.specs.Str.{bytes_eq}
use Rattle.shop_requests.specs.declared.route.Route.{Route}
use Rattle.shop_http.specs.Requests.{Request}
use Rattle.shop_routes.specs.DigitTexts.{page_of}
use Rattle.shop_routes.specs.PathParts.{Parts, Checks, bad_part, first_bad, id_form}
use Rattle.shop_routes.specs.Paths.{Found, found}
use Rattle.shop_routes.specs.Routing.{routed}
use Rattle.shop_routes.specs.WellFormed.{IsWellFormed, HasItsSecond}

-- a part with this name may be this text: any names an entity, a page is a number from 1, and all others are ids
abbrev pub is_well_formed : Bool → List ℕ → List ℕ → Bool
is_well_formed nil name text =
    if bytes_eq name (codes "entity") then true else (if bytes_eq name (codes "page") then is_some (page_of text) else is_some (id_form nil text))

-- the parts of a target in the order in which they stand there
abbrev pub checks_in_place : Bool → Parts → Checks
checks_in_place nil parts = map (λ p. (p.0, is_well_formed nil p.0 p.1)) parts

-- the malformed part that is named is the first that stands in the target
abbrev pub TheFirstIsNamed : Type 0
TheFirstIsNamed = (nil : Bool) (target : List ℕ) (f : Found) → found target ≡ Some f → bad_part nil f.parts ≡ first_bad (checks_in_place nil f.parts)

-- what a request asks for is well formed
abbrev pub WhatIsAskedIsFormed : Type 0
WhatIsAskedIsFormed = (r : Request) (route : Route) → routed r ≡ Ok route → IsWellFormed route × HasItsSecond r.target route
