-- The table of the interface, and which line of it a target has.
use Rattle.std.specs.Prelude.{ℕ, ◌-◌, ◌==◌, ◌&&◌, ◌||◌, not, List, [], ◌∷◌, length, take, Option, Some, None, option_map, Bool, codes, if◌then◌else◌}
use Rattle.std.specs.List.{list_all, slice_split}
use Rattle.std.specs.Str.{bytes_eq, is_utf8}
use Rattle.shop_requests.specs.declared.command.Action.TheVariants.{Process, Complete, Cancel, Reopen}
use Rattle.shop_http.specs.declared.respond.Method2.{Method2}
use Rattle.shop_http.specs.declared.respond.Method2.TheVariants.{Get, Post}
use Rattle.shop_routes.specs.declared.endpoint.Asked.{Asked}
use Rattle.shop_routes.specs.declared.endpoint.Endpoint.{Endpoint}
use Rattle.shop_routes.specs.declared.endpoint.Endpoint.TheVariants.{Sync, Draft, Merge, DropDraft, Stock, PlaceCart, Transit, Row, RowList, CategoryTree, Listing, StreamMembers, ListingPrice, Cart, Front}
use Rattle.shop_routes.specs.PathParts.{Parts}

-- ---- the table

-- a method, a path, and what is asked for
abbrev pub Line : Type 0
Line = Method2 × List ℕ × Endpoint

-- the table of the interface; a name in braces stands for any piece that isn't empty
abbrev pub lines : List Line
lines =
    (Post, codes "/sync", Sync) ∷
    (Post, codes "/draft/{version}", Draft) ∷
    (Post, codes "/draft/{version}/merge", Merge) ∷
    (Post, codes "/draft/{version}/drop", DropDraft) ∷
    (Post, codes "/stock/{id}", Stock) ∷
    (Post, codes "/cart/{id}/order", PlaceCart) ∷
    (Post, codes "/order/{id}/process", Transit Process) ∷
    (Post, codes "/order/{id}/complete", Transit Complete) ∷
    (Post, codes "/order/{id}/cancel", Transit Cancel) ∷
    (Post, codes "/order/{id}/reopen", Transit Reopen) ∷
    (Get, codes "/row/{entity}/{id}", Row) ∷
    (Get, codes "/row/{entity}/{id}/{second}", Row) ∷
    (Get, codes "/list/{entity}/{id}/{second}", RowList) ∷
    (Get, codes "/category/{id}/tree", CategoryTree) ∷
    (Get, codes "/category/{id}/listing/{page}", Listing) ∷
    (Get, codes "/stream/{id}/members", StreamMembers) ∷
    (Get, codes "/product/{id}/price", ListingPrice) ∷
    (Get, codes "/cart/{id}", Cart) ∷
    (Get, codes "/front", Front) ∷ []

abbrev pub asked_by : Line → Asked
asked_by line = record { method = line.0; endpoint = line.2 }

-- ---- a target on a path

-- The pieces of a path or a target between its slashes. `/cart/7` has three, of which the first is empty.
abbrev pub pieces : List ℕ → List (List ℕ)
pieces text = slice_split (λ b. b == 47) text

-- the name that stands in braces, where a piece of a path begins with a brace
abbrev pub name_in : List ℕ → Option (List ℕ)
name_in [] = None
name_in (b ∷ rest) = if b == 123 then Some (take (length rest - 1) rest) else None

-- a named part in front
abbrev pub with_part : List ℕ → List ℕ → Option Parts → Option Parts
with_part name [] parts = None
with_part name (b ∷ rest) parts = option_map (λ more. (name, b ∷ rest) ∷ more) parts

-- a piece of a target on a piece of a path, before the parts of the pieces behind it
abbrev pub on_piece : Option (List ℕ) → List ℕ → List ℕ → Option Parts → Option Parts
on_piece None word piece parts = if bytes_eq word piece then parts else None
on_piece (Some name) word piece parts = with_part name piece parts

-- The parts that the names of a path stand for, where a target fits the path: where it has as many pieces, each word is the same,
-- and a name stands for a piece that isn't empty.
abbrev pub parts_on : List (List ℕ) → List (List ℕ) → Option Parts
parts_on [] [] = Some []
parts_on [] (piece ∷ more) = None
parts_on (word ∷ path) [] = None
parts_on (word ∷ path) (piece ∷ more) = on_piece (name_in word) word piece (parts_on path more)

-- ---- the line of the table that a target has

-- a line of the table, and the parts of the target that its names stand for
pub record Found : Type 0 where
  pub asked : Asked
  pub parts : Parts

abbrev pub or_found : Option Parts → Asked → Option Found → Option Found
or_found None asked later = later
or_found (Some parts) asked later = Some (record { asked = asked; parts = parts })

-- the first of these lines whose path the target fits
abbrev pub first_on : List Line → List (List ℕ) → Option Found
first_on [] target = None
first_on (line ∷ rest) target = or_found (parts_on (pieces line.1) target) (asked_by line) (first_on rest target)

unfoldable pub line_of : List ℕ → Option Found
line_of target = first_on lines (pieces target)

-- no path has a query, a fragment or an escape: `?`, `#` or `%`
abbrev pub is_plain_byte : ℕ → Bool
is_plain_byte b = not (b == 63 || b == 35 || b == 37)

abbrev pub is_plain : List ℕ → Bool
is_plain target = list_all is_plain_byte target && is_utf8 target

unfoldable pub found : List ℕ → Option Found
found target = if is_plain target then line_of target else None
