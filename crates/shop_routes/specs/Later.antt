-- Requests whose answer isn't there yet.
use Rattle.std.specs.Prelude.{◌==◌, Bool, true, false, not, Result, Ok, Err}
use Rattle.shop_requests.specs.declared.route.Route.{Route}
use Rattle.shop_requests.specs.declared.route.Route.TheVariants as routes
use Rattle.shop_routes.specs.Routing.{Fault}

-- what is answered so far: a batch for the live version, a row, a list of rows, any question about all rows, a cart, and how many
-- entries there are
abbrev pub is_later : Route → Bool
is_later (routes.Sync version) = not (version == 0)
is_later (routes.Row read) = false
is_later (routes.RowList entity id second) = false
is_later (routes.Asked query min_front) = false
is_later (routes.Cart cart) = false
is_later routes.Front = false
is_later _ = true

-- a request that breaks no rule asks for what isn't answered yet
abbrev pub asks_later : Result Route Fault → Bool
asks_later (Ok route) = is_later route
asks_later (Err fault) = false
