-- Which requests are served. What can be no request is refused, and so is a request whose answer isn't there yet.
use Rattle.std.specs.Prelude.{ℕ, ◌≡◌, true, false, List, if◌then◌else◌}
use Rattle.shop_requests.specs.declared.line_fault.LineFault.{LineFault}
use Rattle.shop_requests.specs.declared.line_fault.LineFault.TheVariants as lines
use Rattle.shop_http.specs.declared.next.HeadFault.{HeadFault}
use Rattle.shop_http.specs.declared.next.HeadFault.TheVariants as heads
use Rattle.shop_http.specs.declared.next.Head.{Head}
use Rattle.shop_http.specs.declared.next.Next.{Next}
use Rattle.shop_http.specs.declared.next.Next.TheVariants.{Whole, More, Nothing, Cut, Fatal}
use Rattle.shop_http.specs.Requests.{Request, Front, whole, part, bad, request_of}
use Rattle.shop_http.specs.Heads.{head_cut}
use Rattle.shop_routes.specs.Later.{asks_later}
use Rattle.shop_routes.specs.Routing.{meant, routed}
use Rattle.shop_routes.specs.declared.looked.Looked.{Looked}
use Rattle.shop_server.specs.declared.refusal.Refusal.{Refusal}
use Rattle.shop_server.specs.declared.refusal.Refusal.TheVariants as R

-- the request is one that is answered
abbrev pub IsServed : Request → Type 0
IsServed r = asks_later (routed r) ≡ false

abbrev pub refusal_of : HeadFault → Refusal
refusal_of heads.BadHead = R.BadHead
refusal_of heads.Chunked = R.Chunked
refusal_of heads.TooLarge = R.TooLarge

-- what is said of it
abbrev pub line_of : Refusal → LineFault
line_of R.NotBuilt = lines.NotBuilt
line_of R.BadHead = lines.BadHead
line_of R.Chunked = lines.Chunked
line_of R.TooLarge = lines.BodyTooLarge

-- a request whose answer isn't there yet is refused
abbrev pub served_front : Front HeadFault → Front Refusal
served_front (whole r used) = if asks_later (routed r) then bad R.NotBuilt else whole r used
served_front part = part
served_front (bad fault) = bad (refusal_of fault)

-- what stands at the front of the bytes
unfoldable pub cut : List ℕ → Front Refusal
cut bytes = served_front (head_cut bytes)

-- what was looked up of a whole request is what its line and headers ask for
abbrev pub IsLookedUp : {F : Type 0} → Next F Looked → Type 0
IsLookedUp (Whole head body used found) = meant found ≡ routed (request_of head body.now)
IsLookedUp (More least) = Unit {0}
IsLookedUp Nothing = Unit {0}
IsLookedUp Cut = Unit {0}
IsLookedUp (Fatal fault) = Unit {0}

-- what becomes of a request that was cut off: it is served, or refused where its answer isn't there yet
abbrev pub IsServedNext : Head → List ℕ → ℕ → Next Refusal Looked → Type 0
IsServedNext head body used (Whole h b n found) =
    (h ≡ head) × (b.now ≡ body) × (n ≡ used) × (meant found ≡ routed (request_of head body)) × IsServed (request_of head body)
IsServedNext head body used (Fatal fault) = (fault ≡ R.NotBuilt) × (asks_later (routed (request_of head body)) ≡ true)
IsServedNext head body used next = ⊥
