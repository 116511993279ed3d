-- The program's call.
use Rattle.std.specs.Prelude.{ℕ, ℤ, ◌≡◌, ◌++◌, ◌⊎◌, List, [], Option, Some, None, true}
use Rattle.std.specs.Io.KnownBytes.{Appends}
use Rattle.shop_outside.specs.declared.keeper.Kept.{Kept}
use Rattle.shop_check.specs.Soundness.{kept, AreSound}
use Rattle.shop_core.specs.declared.answers.OpenFault.{OpenFault}
use Rattle.shop_core.specs.declared.answers.OpenFault.TheVariants as opening
use Rattle.shop_core.specs.History.{State}
use Rattle.shop_core.specs.Opening.{Opens, HasOpenCause, IsLoaded}
use Rattle.shop_core.specs.Shops.{ShopView, IsShop}
use Rattle.shop_http.specs.Requests.{Cuts, Ending, open_at, refused, closing, spent, requests}
use Rattle.shop_core.specs.declared.answers.Reply.TheVariants as replied
use Rattle.shop_server.specs.declared.refusal.Refusal.{Refusal}
use Rattle.shop_server.specs.declared.session.Ended.{Ended}
use Rattle.shop_server.specs.declared.session.Ended.TheVariants.{Closed, HeadRefused, Spent, Truncated, ReadFault, WriteFault, NoMemory}
use Rattle.shop_server.specs.Answering.{reply_text, DeskView, Gives, Served, HaveMoments, HaveServed, AreServed, RoseBy, failures, responses}
use Rattle.shop_server.specs.Cutting.{cut, line_of}
use Rattle.shop_server.specs.Outcome.{ended_of}
use Rattle.shop_server.specs.Session.{AtMoment, Session, IsFront, most_requests}
use Rattle.shop_server.specs.Reports.{damage_line, report_of}

-- what is seen of the objects that the program is handed
pub record Outside : Type 0 where
  pub left : Option (List ℕ)  -- what is left to read, where the source tells
  pub written : Option (List ℕ)  -- what was written, where the sink tells
  pub content : Option Kept  -- what the keeper holds, where it tells
  pub faults : ℕ  -- how often the keeper failed
  pub coming : Option (ℕ → ℤ)  -- the moments to come, where the clock tells them

-- ---- statuses

-- the status for each way of ending a connection
abbrev pub number_of : Ended → ℕ
number_of Closed = 0
number_of ReadFault = 3
number_of WriteFault = 4
number_of Truncated = 6
number_of NoMemory = 9
number_of Spent = 10
number_of HeadRefused = 12

-- the status for each end of a list of requests behind which no more bytes come
abbrev pub number_at : Ending Refusal → ℕ
number_at ending = number_of (ended_of ending)

-- the status where no shop was opened
abbrev pub number_unopened : OpenFault → ℕ
number_unopened opening.StoreFault = 5
number_unopened (opening.Damaged key rule) = 7
number_unopened opening.NoMemory = 9

-- at these statuses a fault or want of memory may have cut the output short
abbrev pub IsCutShort : ℕ → Type 0
IsCutShort number = (number ≡ 3) ⊎ (number ≡ 4) ⊎ (number ≡ 5) ⊎ (number ≡ 9)

-- ---- opening

-- no shop was opened: nothing is read, written or changed
pub record HasNotOpened (before now : Outside) (number : ℕ) : Type 0 where
  pub fault : OpenFault
  pub status : number ≡ number_unopened fault
  pub cause : HasOpenCause before.content before.faults now.faults fault
  pub left : now.left ≡ before.left
  pub written : now.written ≡ before.written
  pub content : now.content ≡ before.content
  pub coming : now.coming ≡ before.coming

-- ---- run

-- the reply to what isn't served, after which the connection is closed
abbrev pub fatal_text : Refusal → List ℕ
fatal_text refusal = reply_text (replied.Line (line_of refusal)) None true

-- Behind the responses to the requests that were answered stands the fatal reply, where it was due and all were answered; and
-- after a failed write a front of both was written.
pub record IsWhole {old new : DeskView} {left left' written written' : Option (List ℕ)} (ended : Ended)
    (session : Session (AtMoment Gives) fatal_text cut most_requests old new left left' written written' ended) (text : List ℕ) : Type 0 where
  pub tail : List ℕ
  pub fatal : (tail ≡ []) ⊎ ((fault : Refusal) × ((requests cut most_requests session.got).ending ≡ refused fault) × (tail ≡ fatal_text fault))
  pub front : IsFront session.out (text ++ tail)
  pub all : (ended ≡ WriteFault) ⊎ (session.out ≡ text ++ tail)

-- A connection was served over a shop, and ended so. The keeper holds what the accepted writes led to, where it tells.
pub record HasConnected (shop : ShopView) (before now : Outside) (ended : Ended) : Type 0 where
  pub first : DeskView
  pub last : DeskView
  pub begins : first.answerer ≡ shop
  pub told : first.coming ≡ before.coming
  pub session : Session (AtMoment Gives) fatal_text cut most_requests first last before.left now.left before.written now.written ended
  -- the requests that were answered, and the whole responses to them
  pub served : List Served
  pub text : List ℕ
  pub answered : HaveServed served first session.asked text last
  pub whole : IsWhole ended session text
  pub is_shop : IsShop last.answerer
  pub content : now.content ≡ last.answerer.content
  pub faults : now.faults ≡ last.answerer.faults
  pub coming : now.coming ≡ last.coming

-- a shop was opened, and a connection was served over it
pub record HasServed (before now : Outside) (number : ℕ) : Type 0 where
  pub shop : ShopView
  pub opened : Opens before.content before.faults shop
  pub is_shop : IsShop shop
  pub ended : Ended
  pub status : number ≡ number_of ended
  pub connected : HasConnected shop before now ended

abbrev pub HasRun : Outside → Outside → ℕ → Type 0
HasRun before now number = HasNotOpened before now number ⊎ HasServed before now number

-- a keeper tells that it holds what is kept of a sound shop
pub record Keeps (content : Option Kept) (state : State) : Type 0 where
  pub sound : AreSound state.rows
  pub holds : content ≡ Some (record { rows = kept state.rows; number = state.number })

-- the fatal reply, where it is due
abbrev pub fatal_end : Ending Refusal → List ℕ
fatal_end (open_at bytes) = []
fatal_end (refused fault) = fatal_text fault
fatal_end closing = []
fatal_end spent = []

-- The whole output for a list of requests: the responses, one after the other, from those rows on, and the fatal reply where it
-- is due. The requests have the moments that the clock tells, one each in turn, and there are at most as many 503 as the keeper's
-- count rose by.
abbrev pub IsOutput : State → Option (ℕ → ℤ) → ℕ → ℕ → Cuts Refusal → List ℕ → Type 0
IsOutput state coming faults faults' cuts output =
    (served : List Served) × AreServed state cuts.asked served × HaveMoments coming served × RoseBy (failures served) faults faults'
    × (output ≡ responses state served ++ fatal_end cuts.ending)

-- Behind what was written before stands a front of the output for the whole input, and at any status but 3, 4, 5 and 9 all of it.
abbrev pub HasWritten : State → Option (ℕ → ℤ) → ℕ → ℕ → List ℕ → List ℕ → Option (List ℕ) → ℕ → Type 0
HasWritten state coming faults faults' all before written number =
    (output : List ℕ) × (out : List ℕ) × IsOutput state coming faults faults' (requests cut most_requests all) output × (written ≡ Some (before ++ out)) × IsFront out output
    × (IsCutShort number ⊎ (out ≡ output))

-- ---- check

-- A report was written whole, or a front of it, where a write failed, or none of it, where memory ran out for it.
abbrev pub HasReportedText : Option (List ℕ) → Option (List ℕ) → List ℕ → ℕ → ℕ → Type 0
HasReportedText written written' text status number =
    (out : List ℕ) × Appends written written' out
    × (((number ≡ status) × (out ≡ text)) ⊎ ((number ≡ 4) × IsFront out text) ⊎ ((number ≡ 9) × (out ≡ [])))

-- damage is reported, and of another fault only the status tells
abbrev pub ReportsFault : OpenFault → Option (List ℕ) → Option (List ℕ) → ℕ → Type 0
ReportsFault (opening.Damaged key rule) written written' number = HasReportedText written written' (damage_line (key, rule)) 7 number
ReportsFault opening.StoreFault written written' number = (written' ≡ written) × (number ≡ 5)
ReportsFault opening.NoMemory written written' number = (written' ≡ written) × (number ≡ 9)

-- what was loaded was reported, and nothing is read or changed
pub record HasReported (before now : Outside) (number : ℕ) : Type 0 where
  pub loaded : Kept
  pub is_loaded : IsLoaded before.content loaded
  pub reported : HasReportedText before.written now.written (report_of loaded).text (report_of loaded).status number
  pub left : now.left ≡ before.left
  pub content : now.content ≡ before.content
  pub faults : now.faults ≡ before.faults
  pub coming : now.coming ≡ before.coming

-- nothing was reported: the keeper failed or memory ran out
abbrev pub IsUnreported : OpenFault → Type 0
IsUnreported opening.StoreFault = Unit {0}
IsUnreported (opening.Damaged key rule) = ⊥
IsUnreported opening.NoMemory = Unit {0}

abbrev pub HasChecked : Outside → Outside → ℕ → Type 0
HasChecked before now number = ((none : HasNotOpened before now number) × IsUnreported none.fault) ⊎ HasReported before now number
