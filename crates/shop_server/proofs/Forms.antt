-- What a request asks, by what its route and its body were read as.
use Rattle.std.proofs.Common.{◌≡◌, ◌↔◌, ◌⊎◌, ℕ, List, None, Result, inl, inr, refl, sym, ap, subst, arith}
use Rattle.std.specs.Prelude.{Ok, Err, IsSome}
use Rattle.shop_http.specs.declared.respond.Method2.{Method2}
use Rattle.shop_requests.specs.declared.route.Route.{Route}
use Rattle.body_json.specs.declared.fault.BodyFault.{BodyFault}
use Rattle.body_json.specs.declared.fault.BodyFault.TheVariants as bodies
use Rattle.shop_core.specs.declared.answers.Request.{Request as Wanted}
use Rattle.shop_http.specs.Requests.{Request}
use Rattle.shop_routes.specs.Routing.{Fault, routed}
use Rattle.shop_requests.specs.declared.line_fault.LineFault.{LineFault}
use Rattle.shop_core.specs.declared.answers.Reply.TheVariants as replies
use Rattle.shop_json.specs.Asking.{Reads, request_in}
use Rattle.shop_json.specs.Replying.{reply_status}
use Rattle.shop_server.specs.declared.turned.TurnedAway.{TurnedAway}
use Rattle.shop_server.specs.declared.turned.TurnedAway.TheVariants as turned
use Rattle.shop_server.specs.Answering.{IsForm, asks, turned_away, by_request, by_route, form_of, turned_by_body}

-- a status that comes with no method
no_method : (status : ℕ) → (status ≡ 405 → ⊥) → IsSome {T = Method2} None ↔ (status ≡ 405)
no_method status never = (λ some. absurd (none_is some), λ e. absurd (never e))
  where
    none_is : IsSome {T = Method2} None → ⊥
    none_is some = absurd cc

pub form_is : (r : Request) (m : Result Route Fault) → m ≡ routed r → by_route r.body m ≡ form_of r
unfolding form_of
form_is r m e = ap (by_route r.body) e

pub form_asks : (route : Route) (body : List ℕ) (request : Wanted) → request_in route body ≡ Ok request → by_request (request_in route body) ≡ asks request
form_asks route body request f = ap by_request f

pub body_turned : (route : Route) (body : List ℕ) (fault : BodyFault) → Reads (request_in route body) (Err fault) → IsForm (by_request (request_in route body)) (Err (turned_by_body fault))
body_turned route body bodies.BadJson a = (ap by_request a, (no_method 400 (λ k. omega arith)))
body_turned route body (bodies.BadShape pointer) a = (ap by_request a, (no_method 400 (λ k. omega arith)))
body_turned route body bodies.NoMemory a = tt

-- a request that has no route
pub is_turned : (fault : LineFault) → (reply_status (replies.Line fault) ≡ 405 → ⊥) → IsForm (turned_away fault None) (Err (turned.Line fault None))
is_turned fault never = (refl, no_method (reply_status (replies.Line fault)) never)

pub is_turned_or_short : (fault : LineFault) (result : TurnedAway) → (reply_status (replies.Line fault) ≡ 405 → ⊥) → (result ≡ turned.Line fault None) ⊎ (result ≡ turned.NoMemory)
    → IsForm (turned_away fault None) (Err result)
is_turned_or_short fault result never (inl e) = subst (λ t. IsForm (turned_away fault None) (Err t)) (sym e) (is_turned fault never)
is_turned_or_short fault result never (inr e) = subst (λ t. IsForm (turned_away fault None) (Err t)) (sym e) tt
