use Rattle.std.proofs.Common.{[]}
use Rattle.shop_http.specs.Requests.{request_of}
use Rattle.shop_routes.proofs.Formed.{looked_well}
use Rattle.shop_routes.proofs.router.Routes.look.Goals as goal

pub returns-clause-formed : goal.returns-clause-formed
returns-clause-formed c = looked_well (request_of c.args.head.now []) c.look_up.result (c.look_up.ensures [])
