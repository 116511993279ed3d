-- Routes that are well formed.
use Rattle.std.specs.Prelude.{ℕ, ◌≡◌, ◌≤◌, ◌<◌, ◌^◌, ◌↔◌, List, length}
use Rattle.shop_requests.specs.declared.query.Query.{Query}
use Rattle.shop_requests.specs.declared.query.Query.TheVariants as queries
use Rattle.shop_requests.specs.declared.route.Route.{Route}
use Rattle.shop_requests.specs.declared.route.Route.TheVariants as routes
use Rattle.shop_routes.specs.Paths.{pieces}
use Rattle.shop_routes.specs.Routing.{route_of}
use Rattle.shop_routes.specs.declared.looked.Looked.{Looked}
use Rattle.shop_routes.specs.declared.looked.Looked.TheVariants as L

-- a page of a listing
abbrev pub IsPage : ℕ → Type 0
IsPage page = (1 ≤ page) × (page ≤ 999999999)

abbrev pub IsFormedQuery : Query → Type 0
IsFormedQuery (queries.CategoryTree category) = 0 < category
IsFormedQuery (queries.StreamMembers stream) = 0 < stream
IsFormedQuery (queries.ListingPrice product) = 0 < product
IsFormedQuery (queries.Listing category page) = (0 < category) × IsPage page

-- No id that is named is 0, nor is the version of a draft, nor a language; a page is counted from 1, and a front has 63 bits. A batch
-- and a row have any version, where 0 is the live one, and the keys of a list begin anywhere.
abbrev pub IsWellFormed : Route → Type 0
IsWellFormed (routes.Sync version) = Unit {0}
IsWellFormed (routes.Draft version) = 0 < version
IsWellFormed (routes.Merge version) = 0 < version
IsWellFormed (routes.Drop version) = 0 < version
IsWellFormed (routes.Stock product) = 0 < product
IsWellFormed (routes.PlaceCart cart) = 0 < cart
IsWellFormed (routes.Transit order action) = 0 < order
IsWellFormed (routes.Row read) = (0 < read.id) × (0 < read.language)
IsWellFormed (routes.RowList entity id second) = Unit {0}
IsWellFormed (routes.Asked query min_front) = IsFormedQuery query × (min_front < 2 ^ 63)
IsWellFormed (routes.Cart cart) = 0 < cart
IsWellFormed routes.Front = Unit {0}

-- the second part of a row's key is there, and then not 0, exactly where the path goes on behind the id
abbrev pub HasItsSecond : List ℕ → Route → Type 0
HasItsSecond target (routes.Row read) = (read.second ≡ 0) ↔ (length (pieces target) ≡ 4)
HasItsSecond target route = Unit {0}

-- what was looked up for a target, where it breaks no rule, is well formed
abbrev pub IsLookedUpWell : List ℕ → Looked → Type 0
IsLookedUpWell target (L.Asks asks) = IsWellFormed (route_of asks) × HasItsSecond target (route_of asks)
IsLookedUpWell target L.NoRoute = Unit {0}
IsLookedUpWell target (L.WrongMethod allow) = Unit {0}
IsLookedUpWell target (L.BadPath part) = Unit {0}
IsLookedUpWell target (L.BadHeader name) = Unit {0}
