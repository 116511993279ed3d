-- What a request asks for that breaks no rule is well formed.
use Rattle.std.proofs.Common.{◌≡◌, ◌⊎◌, inl, inr, ℕ, zero, suc, ◌+◌, ◌*◌, ◌<◌, ◌≤◌, ◌^◌, ◌↔◌, List, [], ◌∷◌, length, take, Option, Some, None, Result, Ok, Err, Bool, true, false, not, refl, sym, ap, subst, ◌∙◌, arith, ◌==◌, ◌&&◌, ◌||◌, is_some, codes}
use Rattle.std.proofs.lemmas.Bool.Decides.{nat_tests}
use Rattle.std.proofs.lemmas.Bool.{cases_Bool, and_parts, leb-true}
use Rattle.std.proofs.lemmas.Slice.Eq.{bytes_eq-Decides}
use Rattle.std.proofs.lemmas.Str.Parse.{digits_value-take-le}
use Rattle.std.specs.Prelude.{unwrap_or, nat_le, nat_lt, slice_index_or}
use Rattle.std.specs.List.{list_all}
use Rattle.std.specs.Str.{bytes_eq}
use Rattle.std.specs.Str.Parse.{digits_value}
use Rattle.std.specs.Char.{digit_value, is_ascii_digit}
use Rattle.matchit.specs.Params.{named}
use Rattle.shop_requests.specs.Ids.{hex_number, id_of, is_id_digit, unless_zero}
use Rattle.shop_requests.specs.declared.route.Route.{Route}
use Rattle.shop_http.specs.Requests.{Field, missing, once, twice, Request}
use Rattle.shop_http.specs.Responses.{method_text}
use Rattle.shop_routes.specs.declared.endpoint.Endpoint.{Endpoint}
use Rattle.shop_routes.specs.declared.endpoint.Asked.{Asked}
use Rattle.shop_routes.specs.declared.looked.Looked.{Looked}
use Rattle.shop_routes.specs.declared.looked.Looked.TheVariants as L
use Rattle.shop_routes.specs.declared.endpoint.Endpoint.TheVariants as E
use Rattle.shop_routes.specs.declared.headers.Headers.{Headers}
use Rattle.shop_routes.specs.DigitTexts.{front_of, is_number, number_within, page_of}
use Rattle.shop_routes.specs.Laws.{WhatIsAskedIsFormed}
use Rattle.shop_routes.specs.PathParts.{Checks, Parts, bad_part, first_bad, id_in, number_in, numbers_in, page_in, second_in, text_in, version_in}
use Rattle.shop_routes.specs.Paths.{Found, Line, asked_by, first_on, found, is_plain, line_of, lines, name_in, on_piece, parts_on, pieces}
use Rattle.shop_routes.specs.Routing.{allows_nil, judged, judged_headers, judged_parts, meant, routed, route_of, route_to}
use Rattle.shop_routes.specs.Settings.{bad_header, headers_of, inherit_of, language_of, min_front_of, said, version_of}
use Rattle.shop_routes.specs.WellFormed.{HasItsSecond, IsLookedUpWell, IsPage, IsWellFormed}
use Rattle.shop_routes.proofs.Digits.{digit_in_range}
use Rattle.shop_routes.proofs.FirstParts.{Name, first_line, names_of, part_names, path_names}
use Rattle.shop_routes.proofs.TableRows.{Among}

-- ---- numbers that were read

some_positive : (n : ℕ) → is_some (unless_zero n) ≡ true → 0 < unwrap_or (unless_zero n) 0
some_positive n e = elim (cases_Bool (n == 0)) [
  | inl nil ↦ absurd (let no : false ≡ true = rw nil at e in cc)
  | inr some ↦ rw some (grind (arith, nat_tests, some))
]

id_positive : (text : List ℕ) → is_some (id_of text) ≡ true → 0 < unwrap_or (id_of text) 0
id_positive text e = elim (cases_Bool ((length text == 32) && list_all is_id_digit text)) [
  | inl good ↦ rw good (some_positive (hex_number text) (rw good at e))
  | inr bad ↦ absurd (let no : false ≡ true = rw bad at e in cc)
]

within_most : (most : ℕ) (digits : List ℕ) → is_some (number_within most digits) ≡ true
    → (number_within most digits ≡ Some (digits_value 10 digits)) × (digits_value 10 digits ≤ most)
within_most most digits e = elim (cases_Bool (nat_le (digits_value 10 digits) most)) [
  | inl small ↦ (rw small refl, leb-true (digits_value 10 digits) most small)
  | inr large ↦ absurd (let no : false ≡ true = rw large at e in cc)
]

-- digits of which the first isn't 0 spell at least 1
first_counts : (digits : List ℕ) → is_number digits ≡ true → not (slice_index_or digits 0 0 == 48) ≡ true → 1 ≤ digits_value 10 digits
first_counts [] n e = absurd cc
first_counts (d ∷ rest) n e =
    let all = (and_parts (nat_lt 0 (length (d ∷ rest))) (list_all is_ascii_digit (d ∷ rest)) n).1 in
    let d_digit = digit_in_range d (and_parts (is_ascii_digit d) (list_all is_ascii_digit rest) all).0 in
    let one : 0 + digit_value d ≤ digits_value 10 (d ∷ rest) = digits_value-take-le 10 (d ∷ rest) 1 (omega arith) in
    let large : 49 ≤ d = grind (arith, nat_tests, d_digit.0, e) in
    omega (arith, one, large, d_digit.2)

page_formed : (text : List ℕ) → is_some (page_of text) ≡ true → IsPage (unwrap_or (page_of text) 0)
page_formed text e = elim (cases_Bool (is_number text && not (slice_index_or text 0 0 == 48))) [
  | inl good ↦
      let both = and_parts (is_number text) (not (slice_index_or text 0 0 == 48)) good in
      let w = within_most 999999999 text (rw good at e) in
      rw (good, w.0) (first_counts text both.0 both.1, w.1)
  | inr bad ↦ absurd (let no : false ≡ true = rw bad at e in cc)
]

front_formed : (text : List ℕ) → is_some (front_of text) ≡ true → unwrap_or (front_of text) 0 < 2 ^ 63
front_formed text e = elim (cases_Bool (is_number text && nat_le (length text) 19)) [
  | inl good ↦
      let w = within_most 9223372036854775807 text (rw good at e) in
      rw (good, w.0) (omega (arith, w.1))
  | inr bad ↦ absurd (let no : false ≡ true = rw bad at e in cc)
]

language_formed : (f : Field) → is_some (said 1 id_of f) ≡ true → 0 < unwrap_or (said 1 id_of f) 0
language_formed missing e = omega arith
language_formed (once text) e = id_positive text e
language_formed twice e = absurd cc

min_front_formed : (f : Field) → is_some (said 0 front_of f) ≡ true → unwrap_or (said 0 front_of f) 0 < 2 ^ 63
min_front_formed missing e = omega arith
min_front_formed (once text) e = front_formed text e
min_front_formed twice e = absurd cc

-- ---- what was tried

passes : (check : List ℕ × Bool) (rest : Checks) → first_bad (check ∷ rest) ≡ None → (check.1 ≡ true) × (first_bad rest ≡ None)
passes check rest e = elim (cases_Bool check.1) [
  | inl good ↦ (good, rw good at e)
  | inr bad ↦ absurd (let some : Some check.0 ≡ None = rw bad at e in cc)
]

record AreGood (nil : Bool) (parts : Parts) : Type 0 where
  version : is_some (version_in nil parts) ≡ true
  id : is_some (id_in nil parts) ≡ true
  second : is_some (second_in nil parts) ≡ true
  page : is_some (page_in parts) ≡ true

are_good : (nil : Bool) (parts : Parts) → bad_part nil parts ≡ None → AreGood nil parts
unfolding bad_part
are_good nil parts e =
    let page : List ℕ × Bool = (codes "page", is_some (page_in parts)) in
    let second : List ℕ × Bool = (codes "second", is_some (second_in nil parts)) in
    let id : List ℕ × Bool = (codes "id", is_some (id_in nil parts)) in
    let a = passes (codes "version", is_some (version_in nil parts)) (id ∷ second ∷ page ∷ []) e in
    let b = passes id (second ∷ page ∷ []) a.1 in
    let c = passes second (page ∷ []) b.1 in
    let d = passes page [] c.1 in
    record { version = a.0; id = b.0; second = c.0; page = d.0 }

-- headers that passed name a language and wait for a front of 63 bits
abbrev AreFormed : Headers → Type 0
AreFormed h = (0 < h.language) × (h.min_front < 2 ^ 63)

headers_formed : (r : Request) → bad_header r ≡ None → AreFormed (headers_of r)
unfolding bad_header headers_of
headers_formed r e =
    let front : List ℕ × Bool = (codes "x-min-front", is_some (min_front_of r)) in
    let flag : List ℕ × Bool = (codes "x-inheritance", is_some (inherit_of r)) in
    let version : List ℕ × Bool = (codes "x-version-id", is_some (version_of r)) in
    let a = passes (codes "x-language-id", is_some (language_of r)) (version ∷ flag ∷ front ∷ []) e in
    let b = passes version (flag ∷ front ∷ []) a.1 in
    let c = passes flag (front ∷ []) b.1 in
    let d = passes front [] c.1 in
    (language_formed r.language a.0, min_front_formed r.min_front d.0)

-- ---- the names of parts

abbrev has_name : Name → List Name → Bool
has_name name [] = false
has_name name (n ∷ names) = bytes_eq n name || has_name name names

given : (name : Name) (parts : Parts) → has_name name (names_of parts) ≡ true → (text : List ℕ) × (named name parts ≡ Some text)
given name [] e = absurd cc
given name (p ∷ parts) e = elim (cases_Bool (bytes_eq p.0 name)) [
  | inl here ↦ (p.1, rw here refl)
  | inr later ↦ let m = given name parts (rw later at e) in (m.0, rw later m.1)
]

not_given : (name : Name) (parts : Parts) → has_name name (names_of parts) ≡ false → named name parts ≡ None
not_given name [] e = refl
not_given name (p ∷ parts) e = elim (cases_Bool (bytes_eq p.0 name)) [
  | inl here ↦ absurd (let no : true ≡ false = rw here at e in cc)
  | inr later ↦ rw later (not_given name parts (rw later at e))
]

a_version : (parts : Parts) → has_name (codes "version") (names_of parts) ≡ true → AreGood false parts → 0 < unwrap_or (version_in false parts) 0
a_version parts e good = let m = given (codes "version") parts e in rw m.1 (id_positive m.0 (rw m.1 at good.version))

an_id : (parts : Parts) → has_name (codes "id") (names_of parts) ≡ true → AreGood false parts → 0 < unwrap_or (id_in false parts) 0
an_id parts e good = let m = given (codes "id") parts e in rw m.1 (id_positive m.0 (rw m.1 at good.id))

a_page : (nil : Bool) (parts : Parts) → has_name (codes "page") (names_of parts) ≡ true → AreGood nil parts → IsPage (unwrap_or (page_in parts) 0)
a_page nil parts e good = let m = given (codes "page") parts e in rw m.1 (page_formed m.0 (rw m.1 at good.page))

a_second : (parts : Parts) → has_name (codes "second") (names_of parts) ≡ true → AreGood false parts → 0 < unwrap_or (second_in false parts) 0
a_second parts e good = let m = given (codes "second") parts e in rw m.1 (id_positive m.0 (rw m.1 at good.second))

-- ---- the lines of the table

-- either a second part is named, or the path has four pieces
abbrev ends_well : List (List ℕ) → Bool
ends_well path = (has_name (codes "second") (path_names path) && not (length path == 4)) || (not (has_name (codes "second") (path_names path)) && (length path == 4))

-- the names in the path are those that what it asks for needs, and a row's has four pieces where it has no second part
abbrev suits : Endpoint → List (List ℕ) → Bool
suits E.Sync path = true
suits E.Draft path = has_name (codes "version") (path_names path)
suits E.Merge path = has_name (codes "version") (path_names path)
suits E.DropDraft path = has_name (codes "version") (path_names path)
suits E.Stock path = has_name (codes "id") (path_names path)
suits E.PlaceCart path = has_name (codes "id") (path_names path)
suits (E.Transit action) path = has_name (codes "id") (path_names path)
suits E.Row path = has_name (codes "id") (path_names path) && ends_well path
suits E.RowList path = true
suits E.CategoryTree path = has_name (codes "id") (path_names path)
suits E.Listing path = has_name (codes "id") (path_names path) && has_name (codes "page") (path_names path)
suits E.StreamMembers path = has_name (codes "id") (path_names path)
suits E.ListingPrice path = has_name (codes "id") (path_names path)
suits E.Cart path = has_name (codes "id") (path_names path)
suits E.Front path = true

abbrev all_suit : List Line → Bool
all_suit [] = true
all_suit (line ∷ rest) = suits line.2 (pieces line.1) && all_suit rest

lines_suit : all_suit lines ≡ true
lines_suit = refl

suits_at : (ls : List Line) (line : Line) → all_suit ls ≡ true → Among line ls → suits line.2 (pieces line.1) ≡ true
suits_at [] line e among = absurd among
suits_at (l ∷ ls) line e (inl is) = rw is (and_parts (suits l.2 (pieces l.1)) (all_suit ls) e).0
suits_at (l ∷ ls) line e (inr later) = suits_at ls line (and_parts (suits l.2 (pieces l.1)) (all_suit ls) e).1 later

one_piece : (name : Option Name) (word piece : List ℕ) (later : Option Parts) (parts : Parts) → on_piece name word piece later ≡ Some parts → (more : Parts) × (later ≡ Some more)
one_piece None word piece later parts e = elim (cases_Bool (bytes_eq word piece)) [
  | inl equal ↦ (parts, rw equal at e)
  | inr differs ↦ absurd (let none : None ≡ Some parts = rw differs at e in cc)
]
one_piece (Some name) word [] later parts e = absurd cc
one_piece (Some name) word (b ∷ rest) None parts e = absurd cc
one_piece (Some name) word (b ∷ rest) (Some more) parts e = (more, refl)

-- a target has as many pieces as the path that it fits
as_many : (path target : List (List ℕ)) (parts : Parts) → parts_on path target ≡ Some parts → length target ≡ length path
as_many [] [] parts e = refl
as_many [] (piece ∷ more) parts e = absurd cc
as_many (word ∷ path) [] parts e = absurd cc
as_many (word ∷ path) (piece ∷ more) parts e =
    let m = one_piece (name_in word) word piece (parts_on path more) parts e in
    ap suc (as_many path more m.0 m.1)

-- ---- the route

-- what a path asks for, whose parts are of that path and passed
record Fits (e : Endpoint) (path : List (List ℕ)) (parts : Parts) : Type 0 where
  suits : suits e path ≡ true
  names : names_of parts ≡ path_names path
  good : AreGood (allows_nil e) parts

of_names : (name : Name) (path : List (List ℕ)) (parts : Parts) → names_of parts ≡ path_names path → has_name name (path_names path) ≡ true → has_name name (names_of parts) ≡ true
of_names name path parts is e = rw is e

formed : (e : Endpoint) (path : List (List ℕ)) (entity : List ℕ) (parts : Parts) (h : Headers) → Fits e path parts → AreFormed h
    → IsWellFormed (route_to e entity (numbers_in (allows_nil e) parts) h)
unfolding numbers_in
formed E.Sync path entity parts h f k = tt
formed E.Draft path entity parts h f k = a_version parts (of_names (codes "version") path parts f.names f.suits) f.good
formed E.Merge path entity parts h f k = a_version parts (of_names (codes "version") path parts f.names f.suits) f.good
formed E.DropDraft path entity parts h f k = a_version parts (of_names (codes "version") path parts f.names f.suits) f.good
formed E.Stock path entity parts h f k = an_id parts (of_names (codes "id") path parts f.names f.suits) f.good
formed E.PlaceCart path entity parts h f k = an_id parts (of_names (codes "id") path parts f.names f.suits) f.good
formed (E.Transit action) path entity parts h f k = an_id parts (of_names (codes "id") path parts f.names f.suits) f.good
formed E.Row path entity parts h f k = (an_id parts (of_names (codes "id") path parts f.names (and_parts (has_name (codes "id") (path_names path)) (ends_well path) f.suits).0) f.good, k.0)
formed E.RowList path entity parts h f k = tt
formed E.CategoryTree path entity parts h f k = (an_id parts (of_names (codes "id") path parts f.names f.suits) f.good, k.1)
formed E.Listing path entity parts h f k =
    let both = and_parts (has_name (codes "id") (path_names path)) (has_name (codes "page") (path_names path)) f.suits in
    ((an_id parts (of_names (codes "id") path parts f.names both.0) f.good, a_page false parts (of_names (codes "page") path parts f.names both.1) f.good), k.1)
formed E.StreamMembers path entity parts h f k = (an_id parts (of_names (codes "id") path parts f.names f.suits) f.good, k.1)
formed E.ListingPrice path entity parts h f k = (an_id parts (of_names (codes "id") path parts f.names f.suits) f.good, k.1)
formed E.Cart path entity parts h f k = an_id parts (of_names (codes "id") path parts f.names f.suits) f.good
formed E.Front path entity parts h f k = tt

-- of two tests exactly one holds
exactly_one : (a b : Bool) → (a && not b) || (not a && b) ≡ true → ((a ≡ true) × (b ≡ false)) ⊎ ((a ≡ false) × (b ≡ true))
exactly_one true true e = absurd cc
exactly_one true false e = inl (refl, refl)
exactly_one false true e = inr (refl, refl)
exactly_one false false e = absurd cc

row_second : (path target : List (List ℕ)) (parts : Parts) → Fits E.Row path parts → length target ≡ length path
    → (unwrap_or (second_in false parts) 0 ≡ 0) ↔ (length target ≡ 4)
row_second path target parts f many = elim (exactly_one (has_name (codes "second") (path_names path)) (length path == 4) (and_parts (has_name (codes "id") (path_names path)) (ends_well path) f.suits).1) [
  | inl has ↦
      let positive = a_second parts (of_names (codes "second") path parts f.names has.0) f.good in
      (λ is. absurd (omega (arith, positive, is)), λ four. absurd (grind (arith, nat_tests, has.1, many, four)))
  | inr hasnt ↦
      let none : named (codes "second") parts ≡ None = not_given (codes "second") parts (rw f.names hasnt.0) in
      (λ is. grind (arith, nat_tests, hasnt.1, many), λ four. rw none refl)
]

its_second : (e : Endpoint) (path : List (List ℕ)) (target entity : List ℕ) (parts : Parts) (h : Headers) → Fits e path parts → length (pieces target) ≡ length path
    → HasItsSecond target (route_to e entity (numbers_in (allows_nil e) parts) h)
unfolding numbers_in
its_second E.Row path target entity parts h f many = row_second path (pieces target) parts f many
its_second E.Sync path target entity parts h f many = tt
its_second E.Draft path target entity parts h f many = tt
its_second E.Merge path target entity parts h f many = tt
its_second E.DropDraft path target entity parts h f many = tt
its_second E.Stock path target entity parts h f many = tt
its_second E.PlaceCart path target entity parts h f many = tt
its_second (E.Transit action) path target entity parts h f many = tt
its_second E.RowList path target entity parts h f many = tt
its_second E.CategoryTree path target entity parts h f many = tt
its_second E.Listing path target entity parts h f many = tt
its_second E.StreamMembers path target entity parts h f many = tt
its_second E.ListingPrice path target entity parts h f many = tt
its_second E.Cart path target entity parts h f many = tt
its_second E.Front path target entity parts h f many = tt

-- ---- a request

-- the path of the line that a target has
line_fits : (target : List ℕ) (f : Found) → found target ≡ Some f → bad_part (allows_nil f.asked.endpoint) f.parts ≡ None
    → (path : List (List ℕ)) × Fits f.asked.endpoint path f.parts × (length (pieces target) ≡ length path)
unfolding found line_of
line_fits target f e good = elim (cases_Bool (is_plain target)) [
  | inr odd ↦ absurd (let none : None ≡ Some f = rw odd at e in cc)
  | inl plain ↦ fits_line (first_line lines (pieces target) f (rw plain at e))
]
  where
    fits_line : ((line : Line) × Among line lines × (parts_on (pieces line.1) (pieces target) ≡ Some f.parts) × (f.asked ≡ asked_by line))
        → (path : List (List ℕ)) × Fits f.asked.endpoint path f.parts × (length (pieces target) ≡ length path)
    fits_line (line, among, on, asked) =
        let endpoint : line.2 ≡ f.asked.endpoint = sym (ap (λ (a : Asked). a.endpoint) asked) in
        let well : suits f.asked.endpoint (pieces line.1) ≡ true = subst (λ e. suits e (pieces line.1) ≡ true) endpoint (suits_at lines line lines_suit among) in (
          pieces line.1,
          record { suits = well; names = part_names (pieces line.1) (pieces target) f.parts on; good = are_good (allows_nil f.asked.endpoint) f.parts good },
          as_many (pieces line.1) (pieces target) f.parts on,
        )

by_headers : (r : Request) (f : Found) (route : Route) → found r.target ≡ Some f → bad_part (allows_nil f.asked.endpoint) f.parts ≡ None → (bad : Option (List ℕ)) → bad_header r ≡ bad
    → judged_headers f r bad ≡ Ok route → IsWellFormed route × HasItsSecond r.target route
by_headers r f route is good (Some name) b e = absurd cc
by_headers r f route is good None b e =
    let entity = text_in (codes "entity") f.parts in
    let m = line_fits r.target f is good in
    let same : route_to f.asked.endpoint entity (numbers_in (allows_nil f.asked.endpoint) f.parts) (headers_of r) ≡ route = cc in
    subst (λ (x : Route). IsWellFormed x × HasItsSecond r.target x) same
    (formed f.asked.endpoint m.0 entity f.parts (headers_of r) m.1 (headers_formed r b), its_second f.asked.endpoint m.0 r.target entity f.parts (headers_of r) m.1 m.2)

by_parts : (r : Request) (f : Found) (route : Route) → found r.target ≡ Some f → (bad : Option (List ℕ)) → bad_part (allows_nil f.asked.endpoint) f.parts ≡ bad
    → judged_parts f r bad ≡ Ok route → IsWellFormed route × HasItsSecond r.target route
by_parts r f route is (Some name) b e = absurd cc
by_parts r f route is None b e = by_headers r f route is b (bad_header r) refl e

by_line : (r : Request) (route : Route) (o : Option Found) → found r.target ≡ o → judged r o ≡ Ok route → IsWellFormed route × HasItsSecond r.target route
by_line r route None is e = absurd cc
by_line r route (Some f) is e = elim (cases_Bool (bytes_eq r.method (method_text f.asked.method))) [
  | inl same ↦ by_parts r f route is (bad_part (allows_nil f.asked.endpoint) f.parts) refl (rw same at e)
  | inr other ↦ absurd (let no : judged r (Some f) ≡ Ok route = e in cc)
]

pub all_formed : WhatIsAskedIsFormed
unfolding routed
all_formed r route e = by_line r route (found r.target) refl e

-- what was looked up of a request
pub looked_well : (r : Request) (looked : Looked) → meant looked ≡ routed r → IsLookedUpWell r.target looked
looked_well r (L.Asks asks) e = all_formed r (route_of asks) (sym e)
looked_well r L.NoRoute e = tt
looked_well r (L.WrongMethod allow) e = tt
looked_well r (L.BadPath part) e = tt
looked_well r (L.BadHeader name) e = tt
