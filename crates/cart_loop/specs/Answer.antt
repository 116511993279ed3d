-- The settled cart as a value, or the rule that is broken.
use Rattle.std.specs.Prelude.{◌≡◌, ℕ, zero, suc, ◌+◌, ℤ, List, Option, Some, None, if◌then◌else◌, Result, Ok, Err}
use Rattle.shop_defs.specs.declared.broken.Broken.{Broken}
use Rattle.shop_defs.specs.declared.broken.Broken.TheVariants as B
use Rattle.shop_defs.specs.declared.row.Row.{Row}
use Rattle.cart_price.specs.Lent.{CartRows}
use Rattle.cart_price.specs.declared.priced.Settled.{Settled}
use Rattle.cart_collect.specs.Collected.{collected}
use Rattle.cart_loop.specs.declared.state.State.{State}
use Rattle.cart_loop.specs.declared.fault.CartRefused.{CartRefused}
use Rattle.cart_loop.specs.declared.fault.CartRefused.TheVariants as F
use Rattle.cart_loop.specs.Labels.{labels}
use Rattle.cart_loop.specs.Sameness.{same_state}
use Rattle.cart_loop.specs.Settling.{state}
use Rattle.cart_loop.specs.Settled.{round_in, IsRefused, IsSettled}

-- of n rounds, from that after k others on, how many come before the first that the next one repeats
unfoldable pub first_repeated : (List ℕ → State) → ℕ → ℕ → Option ℕ
first_repeated round zero k = None
first_repeated round (suc n) k = if same_state (state round (k + 1)) (state round k) then Some k else first_repeated round n (k + 1)

-- what is answered where so many rounds come before the one that is repeated
abbrev pub answer_at : CartRows → State → ℕ → Settled
answer_at lent given turns = record { cart = given.cart; labels = labels lent given.cart; rules = given.rules; rounds = turns + 2 }

abbrev pub answer_by : ℕ → CartRows → (List ℕ → State) → Option ℕ → Result Settled Broken
answer_by id lent round None = Err (B.Unstable id)
answer_by id lent round (Some turns) = Ok (answer_at lent (state round turns) turns)

abbrev pub answer_of : List Row → ℕ → ℤ → Option CartRows → Result Settled Broken
answer_of rows id moment None = Err (B.NoSuchCart id)
answer_of rows id moment (Some lent) = answer_by id lent (round_in rows lent moment) (first_repeated (round_in rows lent moment) 6 0)

-- The cart with that id settled at a moment: what the first of its rounds gives that the next one repeats. Or that there is no
-- such cart, or that no two of its seven rounds in a row give the same.
unfoldable pub settling : List Row → ℕ → ℤ → Result Settled Broken
settling rows id moment = answer_of rows id moment (collected rows id)

-- a cart that isn't settled breaks this rule
abbrev pub IsBroken : ℕ → CartRefused → Result Settled Broken → Type 0
IsBroken id F.NoSuchCart answer = answer ≡ Err (B.NoSuchCart id)
IsBroken id F.Unstable answer = answer ≡ Err (B.Unstable id)
IsBroken id F.NoMemory answer = Unit {0}

-- a cart is settled as that value just where the value is the answer, and where it isn't settled the answer is the rule
pub record SettlingIsTheAnswer : Type 0 where
  pub settled : (rows : List Row) (id : ℕ) (moment : ℤ) (settled : Settled) → IsSettled rows id moment settled → settling rows id moment ≡ Ok settled
  pub refused : (rows : List Row) (id : ℕ) (moment : ℤ) (fault : CartRefused) → IsRefused rows id moment fault → IsBroken id fault (settling rows id moment)
  pub answered : (rows : List Row) (id : ℕ) (moment : ℤ) (settled : Settled) → settling rows id moment ≡ Ok settled → IsSettled rows id moment settled
  pub missing : (rows : List Row) (id : ℕ) (moment : ℤ) → settling rows id moment ≡ Err (B.NoSuchCart id) → IsRefused rows id moment F.NoSuchCart
  pub unstable : (rows : List Row) (id : ℕ) (moment : ℤ) → settling rows id moment ≡ Err (B.Unstable id) → IsRefused rows id moment F.Unstable
