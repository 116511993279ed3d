-- How the loop of a connection comes forward.
use Rattle.std.specs.Prelude.{ℕ, suc, ◌≡◌, ◌<◌, ◌≤◌, ◌++◌, Bool, true, false, List, [], length, Option, Some, None, Result, Ok, Err}
use Rattle.std.specs.Io.KnownBytes.{Consumes, Appends, IsAtEnd}
use Rattle.shop_http.specs.Requests.{Asked, Front, part, requests, IsNextLook}
use Rattle.shop_server.specs.declared.session.Ended.{Ended}
use Rattle.shop_server.specs.declared.session.Ended.TheVariants.{ReadFault, WriteFault, NoMemory}
use Rattle.shop_server.specs.declared.session.Step.{Step}
use Rattle.shop_server.specs.declared.session.Step.TheVariants.{Wanting, Answered, Over, Failed}
use Rattle.shop_server.specs.Session.{Answers, HasEnded, IsFront, Session}

-- how a connection stands
pub record Standing (A : Type 0) : Type 0 where
  pub answerer : A
  pub left : Option (List ℕ)  -- what is left to read, where it is told
  pub written : Option (List ℕ)  -- what was written, where it is told
  pub input : List ℕ  -- what was read and not yet used
  pub due : List ℕ  -- the answers that were made and not yet written

-- How far a connection has come from one standing to another, with n more requests to serve: some requests were answered, and
-- however the bytes go on, the requests of those that were read are these and then those of the input.
pub record Progress {F A : Type 0} (gives : A → Asked → List ℕ → A → Type 0) (cut : List ℕ → Front F) (most n : ℕ) (first now : Standing A) : Type 0 where
  pub got : List ℕ
  pub asked : List Asked
  pub out : List ℕ
  pub sent : List ℕ
  pub read : Consumes first.left now.left got
  pub wrote : Appends first.written now.written sent
  pub rest : out ≡ sent ++ now.due
  pub answers : Answers gives first.answerer asked out now.answerer
  pub listed : (more : List ℕ) → (requests cut most (got ++ more)).asked ≡ asked ++ (requests cut n (now.input ++ more)).asked
  pub ends : (more : List ℕ) → (requests cut most (got ++ more)).ending ≡ (requests cut n (now.input ++ more)).ending

-- Whatever came before, one request more was answered, after which n may follow, or the connection ended in this way.
abbrev pub Leads : {F A : Type 0} → (A → Asked → List ℕ → A → Type 0) → (F → List ℕ) → (List ℕ → Front F) → ℕ → Standing A → Standing A → Option Ended → Type 0
Leads {F} {A} gives fatal cut n old new None =
    (most : ℕ) (first : Standing A) → Progress gives cut most (suc n) first old → Progress gives cut most n first new
Leads {F} {A} gives fatal cut n old new (Some ended) =
    (most : ℕ) (first : Standing A) → Progress gives cut most (suc n) first old
    → Session gives fatal cut most first.answerer new.answerer first.left new.left first.written new.written ended

-- The connection is over as soon as what is due is written, and this reply behind it.
pub record Closes {F A : Type 0} (gives : A → Asked → List ℕ → A → Type 0) (fatal : F → List ℕ) (cut : List ℕ → Front F) (most : ℕ) (first now : Standing A) (ended : Ended) (reply : List ℕ) : Type 0 where
  pub got : List ℕ
  pub asked : List Asked
  pub sent : List ℕ
  pub read : Consumes first.left now.left got
  pub wrote : Appends first.written now.written sent
  pub whole : HasEnded gives fatal (requests cut most got) first.answerer now.answerer asked (sent ++ (now.due ++ reply)) now.left ended
  pub short : (out : List ℕ) → IsFront out (sent ++ (now.due ++ reply)) → 0 < length (now.due ++ reply) → HasEnded gives fatal (requests cut most got) first.answerer now.answerer asked out now.left WriteFault

-- The same for one look at the front of the input, which may want more bytes, and then nothing has changed.
abbrev pub HasStepped : {F A : Type 0} → (A → Asked → List ℕ → A → Type 0) → (F → List ℕ) → (List ℕ → Front F) → ℕ → Standing A → Standing A → Bool → Step → Type 0
HasStepped gives fatal cut n old new input_ended (Wanting least) = (cut old.input ≡ part) × (input_ended ≡ false) × (new ≡ old) × IsNextLook cut old.input least
HasStepped gives fatal cut n old new input_ended Answered = Leads gives fatal cut n old new None
HasStepped {F} {A} gives fatal cut n old new input_ended (Over ended reply) =
    (most : ℕ) (first : Standing A) → Progress gives cut most (suc n) first old → Closes gives fatal cut most first new ended reply.now
HasStepped gives fatal cut n old new input_ended Failed = Leads gives fatal cut n old new (Some WriteFault)

-- no look at the front reads or writes
abbrev pub IsCalm : Step → Type 0
IsCalm (Wanting least) = Unit {0}
IsCalm Answered = Unit {0}
IsCalm (Over ended reply) = (ended ≡ ReadFault → ⊥) × (ended ≡ WriteFault → ⊥)
IsCalm Failed = Unit {0}

-- the connection is over with this reply
abbrev pub IsOver : Ended → List ℕ → Step → Type 0
IsOver ended reply (Wanting least) = ⊥
IsOver ended reply Answered = ⊥
IsOver ended reply (Over e r) = (e ≡ ended) × (r.now ≡ reply)
IsOver ended reply Failed = ⊥

-- What was due was written, and then bytes were read onto the end of the input: so many that there are `least`, or all of them; or
-- a write or a read failed, or there was no room, and there are fewer.
abbrev pub HasGoneOn : Option (List ℕ) → Option (List ℕ) → Option (List ℕ) → Option (List ℕ) → List ℕ → List ℕ → List ℕ → List ℕ → ℕ → Result Bool Ended → Type 0
HasGoneOn left left' written written' due due' input input' least (Ok ended) =
    Appends written written' due × (due' ≡ []) × (piece : List ℕ) × Consumes left left' piece × (input' ≡ input ++ piece)
    × (ended ≡ true → IsAtEnd left') × (ended ≡ false → least ≤ length input')
HasGoneOn left left' written written' due due' input input' least (Err WriteFault) =
    (front : List ℕ) × IsFront front due × Appends written written' front × (left' ≡ left) × (0 < length due)
HasGoneOn left left' written written' due due' input input' least (Err ReadFault) =
    Appends written written' due × (due' ≡ []) × (piece : List ℕ) × Consumes left left' piece × (input' ≡ input ++ piece) × (length input' < least)
HasGoneOn left left' written written' due due' input input' least (Err NoMemory) =
    Appends written written' due × (due' ≡ []) × (piece : List ℕ) × Consumes left left' piece × (input' ≡ input ++ piece) × (length input' < least)
HasGoneOn left left' written written' due due' input input' least (Err other) = ⊥
