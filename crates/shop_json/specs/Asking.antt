-- What a route and a body ask a shop for.
use Rattle.std.specs.Prelude.{◌≡◌, ℕ, false, List, Option, Some, None, if◌then◌else◌, Result, Ok, Err}
use Rattle.std.specs.Str.{is_utf8}
use Rattle.serde_json.specs.Data.{Data}
use Rattle.serde_json.specs.Read.{read}
use Rattle.shop_requests.specs.declared.command.Command.{Command}
use Rattle.shop_requests.specs.declared.command.Command.TheVariants as commands
use Rattle.shop_requests.specs.declared.line_fault.LineFault.{LineFault}
use Rattle.shop_requests.specs.declared.line_fault.LineFault.TheVariants as F
use Rattle.shop_requests.specs.declared.route.Route.{Route}
use Rattle.shop_requests.specs.declared.route.Route.TheVariants as routes
use Rattle.body_json.specs.Objects.{draft, amount, order}
use Rattle.body_json.specs.Shapes.{batch}
use Rattle.body_json.specs.WellFormed.{HaveAscendingNames}
use Rattle.body_json.specs.declared.fault.BodyFault.{BodyFault}
use Rattle.body_json.specs.declared.fault.BodyFault.TheVariants as B
use Rattle.shop_core.specs.declared.answers.Request.{Request}
use Rattle.shop_core.specs.declared.answers.Request.TheVariants as requests
use Rattle.shop_routes.specs.Later.{is_later}

-- the value that a body says, where it is a text of JSON
abbrev pub body_value : List ℕ → Option Data
body_value body = if is_utf8 body then read body else None

abbrev pub by_shape : {A : Type 0} → Result A (List ℕ) → Result A LineFault
by_shape (Ok value) = Ok value
by_shape (Err pointer) = Err (F.BadShape pointer)

abbrev pub by_value : {A : Type 0} → (Data → Result A (List ℕ)) → Option Data → Result A LineFault
by_value shape None = Err F.BadJson
by_value shape (Some d) = by_shape (shape d)

-- what a body says by a shape, or what is wrong with it
unfoldable pub said : {A : Type 0} → (Data → Result A (List ℕ)) → List ℕ → Result A LineFault
said shape body = by_value shape (body_value body)

abbrev pub as_write : {A : Type 0} → (A → Command) → Result A LineFault → Result Request LineFault
as_write command (Ok value) = Ok (requests.Write (command value))
as_write command (Err fault) = Err fault

-- What a route asks for, by the body: a batch has its operations in it, a new draft what it is of, a change of stock by how many, an
-- order of a cart its id. All others ignore it.
abbrev pub request_in : Route → List ℕ → Result Request LineFault
request_in (routes.Sync version) body = as_write (λ ops. commands.Sync version ops) (said batch body)
request_in (routes.Draft version) body = as_write (λ named. commands.MakeDraft version named.entity named.root) (said draft body)
request_in (routes.Merge version) body = Ok (requests.Write (commands.Merge version))
request_in (routes.Drop version) body = Ok (requests.Write (commands.DropDraft version))
request_in (routes.Stock product) body = as_write (λ pieces. commands.AdjustStock product pieces) (said amount body)
request_in (routes.PlaceCart cart) body = as_write (λ id. commands.Place cart id) (said order body)
request_in (routes.Transit id action) body = Ok (requests.Write (commands.Transition id action))
request_in (routes.Row read) body = Ok (requests.Row read)
request_in (routes.RowList entity id second) body = Ok (requests.RowList entity id second)
request_in (routes.Asked query min_front) body = Ok (requests.Indexed query min_front)
request_in (routes.Cart cart) body = Ok (requests.Cart cart)
request_in routes.Front body = Ok requests.Front

-- the route is one whose answer is there
abbrev pub IsServedRoute : Route → Type 0
IsServedRoute route = is_later route ≡ false

-- the answer is that request or that fault, or want of memory
abbrev pub Reads : Result Request LineFault → Result Request BodyFault → Type 0
Reads meant (Ok request) = meant ≡ Ok request
Reads meant (Err B.BadJson) = meant ≡ Err F.BadJson
Reads meant (Err (B.BadShape pointer)) = meant ≡ Err (F.BadShape pointer)
Reads meant (Err B.NoMemory) = Unit {0}

-- the names of the fields that an operation gives ascend by their bytes, so none is given twice
abbrev pub NamesFieldsOnce : Request → Type 0
NamesFieldsOnce (requests.Write (commands.Sync version ops)) = HaveAscendingNames ops
NamesFieldsOnce request = Unit {0}
