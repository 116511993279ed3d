-- What a request's line and headers ask for.
use Rattle.std.specs.Prelude.{ℕ, List, Option, Some, None, Bool, true, false, Result, Ok, Err, if◌then◌else◌, codes}
use Rattle.std.specs.Str.{bytes_eq}
use Rattle.shop_requests.specs.declared.query.Query.TheVariants as queries
use Rattle.shop_requests.specs.declared.query.RowRead.{RowRead}
use Rattle.shop_requests.specs.declared.route.Route.{Route}
use Rattle.shop_requests.specs.declared.route.Route.TheVariants as routes
use Rattle.shop_http.specs.Requests.{Request}
use Rattle.shop_http.specs.declared.respond.Method2.{Method2}
use Rattle.shop_http.specs.Responses.{method_text}
use Rattle.shop_routes.specs.declared.endpoint.Endpoint.{Endpoint}
use Rattle.shop_routes.specs.declared.endpoint.Endpoint.TheVariants as E
use Rattle.shop_routes.specs.declared.headers.Headers.{Headers}
use Rattle.shop_routes.specs.declared.parts.Numbers.{Numbers}
use Rattle.shop_routes.specs.declared.looked.Asks.{Asks}
use Rattle.shop_routes.specs.declared.looked.Looked.{Looked}
use Rattle.shop_routes.specs.declared.looked.Looked.TheVariants as L
use Rattle.shop_routes.specs.PathParts.{Parts, bad_part, numbers_in, text_in}
use Rattle.shop_routes.specs.Settings.{headers_of}
use Rattle.shop_routes.specs.Settings as settings
use Rattle.shop_routes.specs.Paths.{Found, found}

-- ---- what is asked for

-- where keys are listed from, the nil id is allowed
abbrev pub allows_nil : Endpoint → Bool
allows_nil E.RowList = true
allows_nil _ = false

abbrev pub row_read : List ℕ → Numbers → Headers → RowRead
row_read entity n h = record {
  entity = entity;
  id = n.id;
  second = n.second;
  version = h.version;
  language = h.language;
  inherit = h.inherit;
}

-- the route, of the name of an entity and of well-formed parts and headers
abbrev pub route_to : Endpoint → List ℕ → Numbers → Headers → Route
route_to E.Sync entity n h = routes.Sync h.version
route_to E.Draft entity n h = routes.Draft n.version
route_to E.Merge entity n h = routes.Merge n.version
route_to E.DropDraft entity n h = routes.Drop n.version
route_to E.Stock entity n h = routes.Stock n.id
route_to E.PlaceCart entity n h = routes.PlaceCart n.id
route_to (E.Transit action) entity n h = routes.Transit n.id action
route_to E.Row entity n h = routes.Row (row_read entity n h)
route_to E.RowList entity n h = routes.RowList entity n.id n.second
route_to E.CategoryTree entity n h = routes.Asked (queries.CategoryTree n.id) h.min_front
route_to E.Listing entity n h = routes.Asked (queries.Listing n.id n.page) h.min_front
route_to E.StreamMembers entity n h = routes.Asked (queries.StreamMembers n.id) h.min_front
route_to E.ListingPrice entity n h = routes.Asked (queries.ListingPrice n.id) h.min_front
route_to E.Cart entity n h = routes.Cart n.id
route_to E.Front entity n h = routes.Front

-- ---- what is broken

-- why a request asks for nothing that there is
pub data Fault : Type 0 where
  no_route : Fault  -- no path of the table is its target
  wrong_method : Method2 → Fault  -- the path is asked with another method than this, its own
  bad_path : List ℕ → Fault  -- the part of this name is malformed
  bad_header : List ℕ → Fault  -- the header of this name is malformed, or is there twice

-- The rules in their order: the method, the first malformed part of the path, the first malformed header.
abbrev pub judged_headers : Found → Request → Option (List ℕ) → Result Route Fault
judged_headers f r (Some name) = Err (bad_header name)
judged_headers f r None = Ok (route_to f.asked.endpoint (text_in (codes "entity") f.parts) (numbers_in (allows_nil f.asked.endpoint) f.parts) (headers_of r))

abbrev pub judged_parts : Found → Request → Option (List ℕ) → Result Route Fault
judged_parts f r (Some name) = Err (bad_path name)
judged_parts f r None = judged_headers f r (settings.bad_header r)

abbrev pub judged : Request → Option Found → Result Route Fault
judged r None = Err no_route
judged r (Some f) =
    if bytes_eq r.method (method_text f.asked.method)
    then judged_parts f r (bad_part (allows_nil f.asked.endpoint) f.parts)
    else Err (wrong_method f.asked.method)

-- what a request asks for, or the first rule that it breaks; its body isn't looked at
unfoldable pub routed : Request → Result Route Fault
routed r = judged r (found r.target)

-- ---- what was looked up

-- what is asked for, as it was looked up
abbrev pub route_of : Asks → Route
route_of asks = route_to asks.endpoint asks.entity.now asks.numbers asks.headers

-- what was looked up of a request says this
abbrev pub meant : Looked → Result Route Fault
meant (L.Asks asks) = Ok (route_of asks)
meant L.NoRoute = Err no_route
meant (L.WrongMethod allow) = Err (wrong_method allow)
meant (L.BadPath part) = Err (bad_path part.now)
meant (L.BadHeader name) = Err (bad_header name.now)
