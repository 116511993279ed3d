-- Rounds, until two in a row give the same.
use Rattle.std.specs.Prelude.{◌≡◌, ◌≢◌, ℕ, zero, suc, ◌+◌, ◌<◌, List, []}
use Rattle.cart_loop.specs.declared.state.State.{State}
use Rattle.cart_loop.specs.declared.fault.CartRefused.{CartRefused}
use Rattle.cart_loop.specs.declared.fault.CartRefused.TheVariants as F

-- what the first round gives, and so many rounds after it: the first looks at no rules, each other at those of the one before
unfoldable pub state : (List ℕ → State) → ℕ → State
state round zero = round []
state round (suc k) = round (state round k).rules

-- so many rounds after the first two in a row give the same, and no two before: seven rounds are looked at
pub record IsSettledAt (round : List ℕ → State) (k : ℕ) : Type 0 where
  pub early : k < 6
  pub before : (j : ℕ) → j < k → state round (j + 1) ≢ state round j
  pub same : state round (k + 1) ≡ state round k

-- of seven rounds no two in a row give the same
abbrev pub IsUnstable : (List ℕ → State) → Type 0
IsUnstable round = (k : ℕ) → k < 6 → state round (k + 1) ≢ state round k

-- the rounds settle at that state, in so many rounds
pub record Settles (round : List ℕ → State) (answer : State × ℕ) : Type 0 where
  pub at : ℕ
  pub settled : IsSettledAt round at
  pub state : answer.0 ≡ state round at
  pub rounds : answer.1 ≡ at + 2
  -- one more round, by the rules of the answer, gives the answer
  pub stays : round answer.0.rules ≡ answer.0

-- why they don't: memory may run out, and the cart is always there
abbrev pub HasNotSettled : (List ℕ → State) → CartRefused → Type 0
HasNotSettled round F.Unstable = IsUnstable round
HasNotSettled round F.NoMemory = Unit {0}
HasNotSettled round F.NoSuchCart = ⊥
