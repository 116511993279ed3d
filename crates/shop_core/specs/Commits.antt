-- What a commit answers and leaves, and what many of them do.
use Rattle.std.specs.Prelude.{ℕ, ℤ, ◌≡◌, ◌+◌, ◌-◌, ◌≤◌, ◌<◌, ◌^◌, ◌⊎◌, Bool, true, false, List, [], ◌∷◌, map, filter, length, is_some, Result, Ok, Err, OnErr}
use Rattle.shop_requests.specs.declared.command.Command.{Command}
use Rattle.shop_outside.specs.Causes.{Rose}
use Rattle.shop_core.specs.declared.answers.Done.{Done}
use Rattle.shop_core.specs.declared.answers.CommitFault.{CommitFault}
use Rattle.shop_core.specs.declared.answers.CommitFault.TheVariants as faults
use Rattle.shop_core.specs.Steps.{step, accepted, refused, IsAccepted}
use Rattle.shop_core.specs.declared.answers.Entry.{Entry}
use Rattle.shop_core.specs.History.{State, replay, IsLegal}
use Rattle.shop_core.specs.Shops.{ShopView, state_of}
use Rattle.shop_core.specs.Publishing.{StaysPublished, MakesRoom, AddsOne}

-- How an answer fits the step, and what it leaves of the rows and the number. Only want of memory comes at any step.
abbrev pub Steps : State → Command → ℤ → Result Done CommitFault → State → Type 0
Steps old command moment (Ok done) now =
    (step old.rows old.number command moment ≡ accepted now.rows done.value) × (now.number ≡ old.number + 1) × (done.front ≡ now.number)
Steps old command moment (Err (faults.Refused rule)) now =
    (step old.rows old.number command moment ≡ refused rule) × (now ≡ old)
Steps old command moment (Err faults.StoreFailed) now =
    IsAccepted (step old.rows old.number command moment) × (now ≡ old)
Steps old command moment (Err faults.NoMemory) now = now ≡ old

-- the keeper failed only where its count of faults rose, and any other answer leaves the count
abbrev pub HasStoreCause : ℕ → ℕ → Result Done CommitFault → Type 0
HasStoreCause before now (Ok done) = now ≡ before
HasStoreCause before now (Err (faults.Refused rule)) = now ≡ before
HasStoreCause before now (Err faults.StoreFailed) = (before ≤ now) × Rose before now
HasStoreCause before now (Err faults.NoMemory) = now ≡ before

-- an accepted command puts its delta behind those that are pending, and any other answer leaves what is pending
abbrev pub Adds : ShopView → Result Done CommitFault → ShopView → Type 0
Adds old (Ok done) now = AddsOne old now
Adds old (Err fault) now = StaysPublished old now

-- what a command leaves that is looked at, by its answer
pub record CarriesOut (old : ShopView) (command : Command) (moment : ℤ) (result : Result Done CommitFault) (now : ShopView) : Type 0 where
  pub answer : Steps (state_of old) command moment result (state_of now)
  pub cause : HasStoreCause old.faults now.faults result
  pub content : OnErr result (now.content ≡ old.content)  -- an error leaves what the keeper holds
  pub told : is_some now.content ≡ is_some old.content  -- a keeper that tells goes on to tell
  pub adds : Adds old result now

-- What is published and pending after a commit: room is made before the command is looked at, unless memory runs out for that.
abbrev pub Publishes : ShopView → Result Done CommitFault → ShopView → Type 0
Publishes old (Err faults.NoMemory) now = StaysPublished old now ⊎ ((ready : ShopView) × MakesRoom old ready × StaysPublished ready now)
Publishes old result now = (ready : ShopView) × MakesRoom old ready × Adds ready result now

-- what a commit leaves, by its answer
pub record Commits (old : ShopView) (command : Command) (moment : ℤ) (result : Result Done CommitFault) (now : ShopView) : Type 0 where
  pub answer : Steps (state_of old) command moment result (state_of now)
  pub cause : HasStoreCause old.faults now.faults result
  pub content : OnErr result (now.content ≡ old.content)  -- an error leaves what the keeper holds
  pub told : is_some now.content ≡ is_some old.content  -- a keeper that tells goes on to tell
  pub publishes : Publishes old result now

-- ---- many commits

-- a commit that was answered
pub record Answered : Type 0 where
  pub entry : Entry
  pub result : Result Done CommitFault

-- these commits were answered so, one after the other
abbrev pub AreCommitted : ShopView → List Answered → ShopView → Type 0
AreCommitted old [] now = now ≡ old
AreCommitted old (one ∷ more) now =
    (next : ShopView) × Commits old one.entry.command one.entry.moment one.result next × AreCommitted next more now

abbrev pub is_done : Answered → Bool
is_done one = elim one.result as (λ _. Bool) [ Ok done ↦ true | Err fault ↦ false ]

-- the entries that were accepted
abbrev pub accepted_of : List Answered → List Entry
accepted_of answered = map (λ one. one.entry) (filter is_done answered)

abbrev pub is_store_failed : Answered → Bool
is_store_failed one = elim one.result as (λ _. Bool) [ Ok done ↦ false | Err faults.StoreFailed ↦ true | Err fault ↦ false ]

-- What any list of commits does.
pub record CommitsAreTheReplay : Type 0 where
  -- the accepted ones are a legal history
  pub are_legal : (old now : ShopView) (answered : List Answered) → AreCommitted old answered now → IsLegal (state_of old) (accepted_of answered)
  -- rows and number are its replay over the first rows and number
  pub are_replayed : (old now : ShopView) (answered : List Answered) → AreCommitted old answered now → state_of now ≡ replay (state_of old) (accepted_of answered)
  -- `StoreFailed` was answered at most as often as the keeper's count of faults rose, where the count isn't at its last value
  pub failures : (old now : ShopView) (answered : List Answered) → AreCommitted old answered now → now.faults < 2 ^ 64 - 1 → old.faults + length (filter is_store_failed answered) ≤ now.faults
