-- The rows of a router that is filled with the lines of the table.
use Rattle.std.specs.Prelude.{List, [], ◌∷◌, Bool, true, false, Result, Ok, Err, is_none, ◌&&◌}
use Rattle.matchit.specs.Rows.{RowsOf}
use Rattle.matchit.specs.Order.{placed}
use Rattle.matchit.specs.Route.{Scan, parse_route}
use Rattle.matchit.specs.Router.{RouteOf, route_from, nearest}
use Rattle.matchit.specs.declared.error.InsertError.{InsertError}
use Rattle.shop_routes.specs.declared.endpoint.Asked.{Asked}
use Rattle.shop_routes.specs.Paths.{Line, asked_by, lines}

-- the rows of a router with one more line
abbrev pub with_scan : Result Scan InsertError → Asked → RowsOf (RouteOf Asked) → RowsOf (RouteOf Asked)
with_scan (Ok s) asked rows = placed (s.pattern, route_from s asked) rows
with_scan (Err e) asked rows = rows

abbrev pub with_line : RowsOf (RouteOf Asked) → Line → RowsOf (RouteOf Asked)
with_line rows line = with_scan (parse_route line.1) (asked_by line) rows

-- the rows of a router with these lines, put in one after another
abbrev pub router_of : RowsOf (RouteOf Asked) → List Line → RowsOf (RouteOf Asked)
router_of rows [] = rows
router_of rows (line ∷ rest) = router_of (with_line rows line) rest

-- the path is well-formed, and clashes with none of these rows
abbrev pub scan_is_free : Result Scan InsertError → RowsOf (RouteOf Asked) → Bool
scan_is_free (Ok s) rows = is_none (nearest s.pattern rows)
scan_is_free (Err e) rows = false

-- no line clashes with those before it
abbrev pub is_free : RowsOf (RouteOf Asked) → List Line → Bool
is_free rows [] = true
is_free rows (line ∷ rest) = scan_is_free (parse_route line.1) rows && is_free (with_line rows line) rest

-- the rows of a router of the whole table
unfoldable pub table : RowsOf (RouteOf Asked)
table = router_of [] lines
