-- How a shop answers a request, and what it leaves.
use Rattle.std.specs.Prelude.{ℕ, zero, suc, ℤ, ◌≡◌, ◌≤◌, ◌+◌, ◌-◌, ◌^◌, ◌++◌, min, Bool, List, [], ◌∷◌, length, map, Option, Some, None, is_some, IsSome, ◌↔◌, Result, Ok, Err}
use Rattle.std.specs.List.{AllByRecursion}
use Rattle.shop_defs.specs.declared.broken.Broken.{Broken}
use Rattle.shop_requests.specs.declared.command.Command.{Command}
use Rattle.shop_requests.specs.declared.line_fault.LineFault.{LineFault}
use Rattle.shop_requests.specs.declared.line_fault.LineFault.TheVariants as lines
use Rattle.shop_requests.specs.declared.route.Route.{Route}
use Rattle.shop_outside.specs.Causes.{Rose}
use Rattle.shop_outside.specs.Clocks.{IsMoment, Tells}
use Rattle.shop_core.specs.declared.answers.Reply.{Reply}
use Rattle.shop_core.specs.declared.answers.Reply.TheVariants as replies
use Rattle.shop_core.specs.declared.answers.Request as shop
use Rattle.shop_core.specs.declared.answers.Request.TheVariants as requests
use Rattle.shop_core.specs.Indexed.{indexed_answer}
use Rattle.shop_core.specs.Publishing.{OnlyPublishes}
use Rattle.shop_core.specs.Requests.{answered, cart_answer, listing, reading, with_bare}
use Rattle.shop_core.specs.Steps.{Stepped, accepted, refused, unbuilt, step, IsAccepted}
use Rattle.shop_core.specs.History.{State, after_step}
use Rattle.shop_core.specs.Shops.{ShopView, state_of}
use Rattle.shop_http.specs.declared.respond.Method2.{Method2}
use Rattle.shop_http.specs.Requests.{Request, Asked}
use Rattle.shop_http.specs.Responses.{response_text, no_memory_text}
use Rattle.shop_json.specs.Asking.{request_in}
use Rattle.shop_json.specs.Replying.{reply_body, reply_status}
use Rattle.shop_routes.specs.Routing.{Fault, no_route, wrong_method, bad_path, bad_header, routed}
use Rattle.body_json.specs.declared.fault.BodyFault.{BodyFault}
use Rattle.body_json.specs.declared.fault.BodyFault.TheVariants as bodies
use Rattle.shop_server.specs.declared.turned.TurnedAway.{TurnedAway}
use Rattle.shop_server.specs.declared.turned.TurnedAway.TheVariants as turned
use Rattle.shop_server.specs.Session.{Answers, AtMoment, Timed}

-- ---- what is asked

-- what a request asks: something of the shop; or it is turned away, with the method that its path takes, where another was used
pub data Form : Type 0 where
  asks : shop.Request → Form
  turned_away : LineFault → Option Method2 → Form

-- why a request has no route
abbrev pub fault_of : Fault → LineFault
fault_of no_route = lines.NoRoute
fault_of (wrong_method allow) = lines.WrongMethod
fault_of (bad_path part) = lines.BadPath part
fault_of (bad_header name) = lines.BadHeader name

-- the method that the path takes, where another was used
abbrev pub allow_of : Fault → Option Method2
allow_of (wrong_method allow) = Some allow
allow_of fault = None

abbrev pub by_request : Result shop.Request LineFault → Form
by_request (Ok request) = asks request
by_request (Err fault) = turned_away fault None

abbrev pub by_route : List ℕ → Result Route Fault → Form
by_route body (Ok route) = by_request (request_in route body)
by_route body (Err fault) = turned_away (fault_of fault) (allow_of fault)

-- what a request asks, by its line, its headers and its body
unfoldable pub form_of : Request → Form
form_of r = by_route r.body (routed r)

abbrev pub IsOf : Request → Form → Type 0
IsOf r form = form_of r ≡ form

-- how the answer to a request came about
pub data Way : Type 0 where
  worked_out : Way  -- by the rows
  short : Way  -- memory ran out for it
  failed : Way  -- the keeper failed

-- a request as it was answered
pub record Served : Type 0 where
  pub form : Form
  pub last : Bool  -- the connection is closed after it
  pub moment : ℤ  -- the moment that the clock gave for it
  pub published : ℕ  -- the front of the published copy
  pub way : Way

-- ---- one reply

-- a write is done as the entry of that number, or refused
abbrev pub written : ℕ → Stepped → Reply
written number (accepted rows value) = replies.Done (record { front = number; value = value })
written number (refused rule) = replies.Refused rule
written number unbuilt = replies.Line lines.NotBuilt

-- a read shows something, or breaks a rule
abbrev pub shown : Result Reply Broken → Reply
shown (Ok reply) = reply
shown (Err broken) = replies.Refused (record { op = 0; broken = broken })

-- what becomes of a command
abbrev pub write_at : State → Command → ℤ → Stepped
write_at state command moment = step state.rows state.number command moment

-- The reply to a request by the rows, and to a cart by the moment too. A question about all rows is answered over all that were
-- accepted; only how far the published copy is, which is asked for as such, hangs on more than the rows and their number.
abbrev pub reply_to : State → ℕ → shop.Request → ℤ → Reply
reply_to state published (requests.Write command) moment = written (state.number + 1) (write_at state command moment)
reply_to state published (requests.Row read) moment = shown (answered replies.Row (reading state.rows read))
reply_to state published (requests.RowList entity id second) moment = shown (answered replies.RowList (with_bare (listing state.rows entity id second)))
reply_to state published (requests.Cart cart) moment = shown (cart_answer state.rows state.number cart moment)
reply_to state published (requests.Indexed query min_front) moment = indexed_answer state.rows state.number query min_front
reply_to state published requests.Front moment = replies.Front state.number published

abbrev pub reply : State → ℕ → Form → ℤ → Reply
reply state published (asks request) moment = reply_to state published request moment
reply state published (turned_away fault allow) moment = replies.Line fault

-- the method that the response names
abbrev pub allowed : Form → Option Method2
allowed (asks request) = None
allowed (turned_away fault allow) = allow

-- the bytes of a reply, where `last` says that the connection is closed after it
abbrev pub reply_text : Reply → Option Method2 → Bool → List ℕ
reply_text reply allow last = response_text (reply_status reply) (reply_body reply) allow last

-- the bytes of the response, by how the answer came about
abbrev pub text_by : Way → State → ℕ → Form → ℤ → Bool → List ℕ
text_by worked_out state published form moment last = reply_text (reply state published form moment) (allowed form) last
text_by short state published form moment last = no_memory_text last
text_by failed state published form moment last = reply_text replies.StoreFailed None last

abbrev pub served_text : State → Served → List ℕ
served_text state one = text_by one.way state one.published one.form one.moment one.last

-- ---- what a request leaves

-- the rows and the number after a request that was answered by the rows
abbrev pub after : State → Form → ℤ → State
after state (asks (requests.Write command)) moment = after_step state (write_at state command moment)
after state form moment = state

-- nothing is changed where memory ran out or the keeper failed
abbrev pub left_by : Way → State → Form → ℤ → State
left_by worked_out state form moment = after state form moment
left_by short state form moment = state
left_by failed state form moment = state

abbrev pub after_served : State → Served → State
after_served state one = left_by one.way state one.form one.moment

-- the request is a write that is accepted
abbrev pub IsAcceptedWrite : State → Form → ℤ → Type 0
IsAcceptedWrite state (asks (requests.Write command)) moment = IsAccepted (write_at state command moment)
IsAcceptedWrite state form moment = ⊥

-- the keeper is asked, and so may fail, only at a write that is accepted
abbrev pub MayComeBy : Way → State → Form → ℤ → Type 0
MayComeBy worked_out state form moment = Unit {0}
MayComeBy short state form moment = Unit {0}
MayComeBy failed state form moment = IsAcceptedWrite state form moment

-- and no more entries are published than are accepted
abbrev pub MayBe : State → Served → Type 0
MayBe state one = MayComeBy one.way state one.form one.moment × (one.published ≤ state.number)

-- what is seen of a shop and of its clock
abbrev pub DeskView : Type 0
DeskView = Timed ShopView

abbrev pub stand_of : DeskView → State
stand_of desk = state_of desk.answerer

-- the keeper's count of faults after a request: it rises only where the keeper failed
abbrev pub Counts : ℕ → ℕ → Way → Type 0
Counts before now worked_out = now ≡ before
Counts before now short = now ≡ before
Counts before now failed = (before ≤ now) × Rose before now

-- where memory ran out, all but what is published is as before: the rows, their number, what the keeper holds, and its count of faults
abbrev pub IsUntouched : Way → ShopView → ShopView → Type 0
IsUntouched short old new = OnlyPublishes old new
IsUntouched way old new = Unit {0}

-- A request was answered by these bytes so, and left that.
pub record AnswersBy (one : Served) (old : ShopView) (ask : Asked) (out : List ℕ) (new : ShopView) : Type 0 where
  pub form : IsOf ask.request one.form
  pub last : one.last ≡ ask.last
  pub may : MayBe (state_of old) one
  pub text : out ≡ served_text (state_of old) one
  pub left : state_of new ≡ after_served (state_of old) one
  pub counts : Counts old.faults new.faults one.way
  pub untouched : IsUntouched one.way old new
  pub told : is_some new.content ≡ is_some old.content  -- a keeper that tells goes on to tell

abbrev pub Gives : ShopView → Asked → ℤ → List ℕ → ShopView → Type 0
Gives old ask moment out new = (one : Served) × (one.moment ≡ moment) × AnswersBy one old ask out new

-- ---- many requests

-- these requests were answered so, from those rows on
abbrev pub AreServed : State → List Asked → List Served → Type 0
AreServed state [] [] = Unit {0}
AreServed state [] (one ∷ served) = ⊥
AreServed state (ask ∷ asked) [] = ⊥
AreServed state (ask ∷ asked) (one ∷ served) = IsOf ask.request one.form × (one.last ≡ ask.last) × MayBe state one × AreServed (after_served state one) asked served

-- the responses, one after the other, the rows being carried along
abbrev pub responses : State → List Served → List ℕ
responses state [] = []
responses state (one ∷ served) = served_text state one ++ responses (after_served state one) served

-- what the requests leave
abbrev pub after_all : State → List Served → State
after_all state [] = state
after_all state (one ∷ served) = after_all (after_served state one) served

abbrev pub failed_once : Way → ℕ
failed_once worked_out = 0
failed_once short = 0
failed_once failed = 1

-- at how many of them the keeper failed
abbrev pub failures : List Served → ℕ
failures [] = 0
failures (one ∷ served) = failed_once one.way + failures served

-- A count rose by so many at least, or stands at the counter's last value.
abbrev pub RoseBy : ℕ → ℕ → ℕ → Type 0
RoseBy times before now = min (before + times) (2 ^ 64 - 1) ≤ now

-- the first of the moments to come
abbrev pub first_moments : ℕ → (ℕ → ℤ) → List ℤ
first_moments zero told = []
first_moments (suc n) told = told 0 ∷ first_moments n (λ k. told (k + 1))

-- the requests have the moments that the clock tells, one each in turn, and moments in range where it doesn't tell
abbrev pub HaveMoments : Option (ℕ → ℤ) → List Served → Type 0
HaveMoments None served = AllByRecursion (λ one. IsMoment one.moment) served
HaveMoments (Some told) served = map (λ one. one.moment) served ≡ first_moments (length served) told

-- the moments to come after so many were given
abbrev pub ComeAfter : ℕ → Option (ℕ → ℤ) → Option (ℕ → ℤ) → Type 0
ComeAfter n None now = Unit {0}
ComeAfter n (Some told) now = Tells now (λ k. told (k + n))

-- Requests were answered so, one after the other, and left that.
pub record HaveServed (served : List Served) (old : DeskView) (asked : List Asked) (out : List ℕ) (new : DeskView) : Type 0 where
  pub each : AreServed (stand_of old) asked served
  pub text : out ≡ responses (stand_of old) served
  pub left : stand_of new ≡ after_all (stand_of old) served
  pub counts : RoseBy (failures served) old.answerer.faults new.answerer.faults
  pub moments : HaveMoments old.coming served
  pub coming : ComeAfter (length served) old.coming new.coming
  pub told : is_some new.answerer.content ≡ is_some old.answerer.content

-- Requests that may be answered by some bytes, one after the other, are answered by the fold of the replies over the rows.
abbrev pub RepliesAreAFold : Type 0
RepliesAreAFold = (old new : DeskView) (asked : List Asked) (out : List ℕ) → Answers (AtMoment Gives) old asked out new
    → (served : List Served) × HaveServed served old asked out new

-- As many writes are accepted at most as there are requests.
abbrev pub FewAreAccepted : Type 0
FewAreAccepted = (old new : DeskView) (asked : List Asked) (out : List ℕ) → Answers (AtMoment Gives) old asked out new → new.answerer.number ≤ old.answerer.number + length asked

-- ---- one request at a shop (no public contract cites these)

-- What a form was answered by, so and with these bytes, and what that left.
pub record ServesBy (way : Way) (old : ShopView) (form : Form) (moment : ℤ) (last : Bool) (out : List ℕ) (new : ShopView) : Type 0 where
  pub may : MayComeBy way (state_of old) form moment
  pub text : out ≡ text_by way (state_of old) old.copy.front form moment last
  pub left : state_of new ≡ left_by way (state_of old) form moment
  pub counts : Counts old.faults new.faults way
  pub untouched : IsUntouched way old new
  pub told : is_some new.content ≡ is_some old.content

-- the method that is allowed is given exactly where the status of the reply is 405
abbrev pub Allows : Reply → Option Method2 → Type 0
Allows reply allow = IsSome allow ↔ (reply_status reply ≡ 405)

-- why a request with another body is turned away
abbrev pub turned_by_body : BodyFault → TurnedAway
turned_by_body bodies.BadJson = turned.Line lines.BadJson None
turned_by_body (bodies.BadShape pointer) = turned.Line (lines.BadShape pointer) None
turned_by_body bodies.NoMemory = turned.NoMemory

-- the form of a request was found: it is one that asks that, or is turned away so
abbrev pub IsForm : Form → Result shop.Request TurnedAway → Type 0
IsForm form (Ok request) = form ≡ asks request
IsForm form (Err (turned.Line fault allow)) = (form ≡ turned_away fault allow) × Allows (replies.Line fault) allow
IsForm form (Err turned.NoMemory) = Unit {0}
