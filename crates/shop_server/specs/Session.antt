-- What a connection may do: the requests that are cut off the bytes read are answered, one after the other.
-- F is the type of the faults for which a front is refused, A what an answerer is seen as.
use Rattle.std.specs.Prelude.{ℕ, ℤ, Bool, ◌≡◌, ◌<◌, ◌++◌, ◌⊎◌, List, [], ◌∷◌, length, Option, Some, None}
use Rattle.std.specs.Io.KnownBytes.{Consumes, Appends, IsAtEnd}
use Rattle.shop_outside.specs.Clocks.{IsMoment, Ticks}
use Rattle.shop_http.specs.declared.next.Head.{Head}
use Rattle.shop_http.specs.Requests.{Request, Asked, whole, request_of, Cuts, Front, open_at, refused, closing, spent, requests}
use Rattle.shop_server.specs.declared.session.Ended.{Ended}
use Rattle.shop_server.specs.declared.session.Ended.TheVariants.{Closed, HeadRefused, Spent, Truncated, ReadFault, WriteFault, NoMemory}

-- each request that is cut off is served
abbrev pub EachIsServed : {F : Type 0} → (List ℕ → Front F) → (Request → Type 0) → Type 0
EachIsServed cut serves = (bytes : List ℕ) (r : Request) (used : ℕ) → cut bytes ≡ whole r used → serves r

-- a moment that isn't told is one in range
abbrev pub InRange : Option (ℕ → ℤ) → ℤ → Type 0
InRange None moment = IsMoment moment
InRange (Some told) moment = Unit {0}

-- a request, as a head and a body lend it, that is to be answered
abbrev pub asked_of : Head → List ℕ → Bool → Asked
asked_of head body last = record { request = request_of head body; last = last }

-- what answers, and the moments that its clock is still to give, where it tells them
pub record Timed (A : Type 0) : Type 0 where
  pub answerer : A
  pub coming : Option (ℕ → ℤ)

-- A request is answered at a moment that the clock gives for it.
abbrev pub AtMoment : {A : Type 0} → (A → Asked → ℤ → List ℕ → A → Type 0) → Timed A → Asked → List ℕ → Timed A → Type 0
AtMoment gives old ask out new = (moment : ℤ) × InRange old.coming moment × Ticks old.coming new.coming moment × gives old.answerer ask moment out new.answerer

-- From old, these requests may be answered by these bytes, one after the other, and leave new.
-- `gives` says it of one request.
abbrev pub Answers : {A : Type 0} → (A → Asked → List ℕ → A → Type 0) → A → List Asked → List ℕ → A → Type 0
Answers gives old [] out new = (out ≡ []) × (new ≡ old)
Answers {A} gives old (ask ∷ asked) out new =
    (mid : A) × (first : List ℕ) × (rest : List ℕ) × gives old ask first mid × Answers gives mid asked rest new × (out ≡ first ++ rest)

-- the second list begins with the first
abbrev pub IsFront : {X : Type 0} → List X → List X → Type 0
IsFront {X} front all = (rest : List X) × (all ≡ front ++ rest)

-- How the requests answered, the bytes written and what is left fit each way of ending, where `all` are the requests of the
-- bytes read, and `fatal` are the bytes of the reply to a fault.
abbrev pub HasEnded : {F A : Type 0} → (A → Asked → List ℕ → A → Type 0) → (F → List ℕ) → Cuts F → A → A → List Asked → List ℕ → Option (List ℕ) → Ended → Type 0
-- all were answered, and the last asks to close, or the input ended behind it
HasEnded gives fatal all old new asked out left Closed =
    (asked ≡ all.asked) × Answers gives old asked out new × ((all.ending ≡ closing) ⊎ ((all.ending ≡ open_at []) × IsAtEnd left))
-- all were answered, and then the fatal reply was written
HasEnded {F} gives fatal all old new asked out left HeadRefused =
    (f : F) × (body : List ℕ) × (all.ending ≡ refused f) × (asked ≡ all.asked) × Answers gives old asked body new × (out ≡ body ++ fatal f)
-- as many were answered as are served, and none asks to close
HasEnded gives fatal all old new asked out left Spent =
    (asked ≡ all.asked) × Answers gives old asked out new × (all.ending ≡ spent)
-- all were answered, and the input ended inside a further one
HasEnded gives fatal all old new asked out left Truncated =
    (asked ≡ all.asked) × Answers gives old asked out new × ((rest : List ℕ) × (0 < length rest) × (all.ending ≡ open_at rest)) × IsAtEnd left
-- all were answered, and more bytes were wanted
HasEnded gives fatal all old new asked out left ReadFault =
    (asked ≡ all.asked) × Answers gives old asked out new × ((rest : List ℕ) × (all.ending ≡ open_at rest))
-- A front of what was due, which was something: of the answers to the requests that were answered, which may not be all of
-- them, or of all answers and the fatal reply behind them.
HasEnded {F} {A} gives fatal all old new asked out left WriteFault =
    (due : List ℕ) × IsFront out due × (0 < length due)
    × ((IsFront asked all.asked × Answers gives old asked due new)
    ⊎ ((f : F) × (body : List ℕ) × (all.ending ≡ refused f) × (asked ≡ all.asked) × Answers gives old asked body new × (due ≡ body ++ fatal f)))
-- all were answered, and more bytes were wanted
HasEnded gives fatal all old new asked out left NoMemory =
    (asked ≡ all.asked) × Answers gives old asked out new × ((rest : List ℕ) × (all.ending ≡ open_at rest))

-- so many requests are answered at most
abbrev pub most_requests : ℕ
most_requests = 1000000

-- A connection of at most `most` requests: some bytes were read and some were written, where these are told, and they fit the
-- way of ending.
pub record Session {F A : Type 0} (gives : A → Asked → List ℕ → A → Type 0) (fatal : F → List ℕ) (cut : List ℕ → Front F) (most : ℕ)
    (old new : A) (left left' written written' : Option (List ℕ)) (ended : Ended) : Type 0 where
  pub got : List ℕ
  pub asked : List Asked
  pub out : List ℕ
  pub read : Consumes left left' got
  pub wrote : Appends written written' out
  pub how : HasEnded gives fatal (requests cut most got) old new asked out left' ended
