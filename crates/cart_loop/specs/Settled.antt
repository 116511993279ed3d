-- When a cart is settled.
use Rattle.std.specs.Prelude.{◌≡◌, ℕ, ℤ, ◌+◌, List, Some, None}
use Rattle.shop_defs.specs.declared.row.Row.{Row}
use Rattle.cart_price.specs.Lent.{CartRows}
use Rattle.cart_price.specs.declared.priced.Settled.{Settled}
use Rattle.cart_collect.specs.Collected.{collected}
use Rattle.cart_process.specs.Priced.{priced}
use Rattle.shop_rules.specs.Ranking.{Rule, matched, matched_in, rules}
use Rattle.cart_loop.specs.declared.state.State.{State}
use Rattle.cart_loop.specs.declared.fault.CartRefused.{CartRefused}
use Rattle.cart_loop.specs.declared.fault.CartRefused.TheVariants as F
use Rattle.cart_loop.specs.Facts.{facts_of}
use Rattle.cart_loop.specs.Labels.{labels}
use Rattle.cart_loop.specs.Settling.{state, IsSettledAt, IsUnstable}

-- what a round gives by the rules that hold: the cart with its prices, and those of the rules that hold of it
abbrev pub round : CartRows → List Rule → ℤ → List ℕ → State
round lent all moment holding =
    let cart = priced lent moment holding in
    record { cart = cart; rules = matched all (facts_of lent cart) moment }

-- a round over the rows of a shop looks at all its live rules
abbrev pub round_in : List Row → CartRows → ℤ → List ℕ → State
round_in rows lent moment holding = round lent (rules rows) moment holding

-- The cart with that id is settled: of its rounds, each by the rules of the one before, it is the first that the next round repeats in prices and rules.
pub record IsSettled (rows : List Row) (id : ℕ) (moment : ℤ) (settled : Settled) : Type 0 where
  pub lent : CartRows
  pub of : collected rows id ≡ Some lent
  pub turns : ℕ
  pub first : IsSettledAt (round_in rows lent moment) turns
  pub prices : settled.cart ≡ (state (round_in rows lent moment) turns).cart
  pub holding : settled.rules ≡ (state (round_in rows lent moment) turns).rules
  -- how many rounds were made: the first, so many after it, and the one that repeats
  pub count : settled.rounds ≡ turns + 2
  pub names : settled.labels ≡ labels lent settled.cart
  -- a further round by its rules leaves its prices as they are, and its rules are just those of the shop that hold of it
  pub stays : priced lent moment settled.rules ≡ settled.cart
  pub hold : matched_in rows (facts_of lent settled.cart) moment ≡ settled.rules

-- no two of its seven rounds in a row give the same
pub record NeverSettles (rows : List Row) (id : ℕ) (moment : ℤ) : Type 0 where
  pub lent : CartRows
  pub of : collected rows id ≡ Some lent
  pub unstable : IsUnstable (round_in rows lent moment)

-- why there is no settled cart
abbrev pub IsRefused : List Row → ℕ → ℤ → CartRefused → Type 0
IsRefused rows id moment F.NoSuchCart = collected rows id ≡ None
IsRefused rows id moment F.Unstable = NeverSettles rows id moment
IsRefused rows id moment F.NoMemory = Unit {0}
