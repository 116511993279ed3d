-- Which calls of an object in memory fail.
use Rattle.std.specs.Prelude.{ℕ, ◌≡◌, ◌+◌, ◌-◌, ◌^◌, min, List, Contains}
use Rattle.shop_outside.specs.declared.calls.Calls.{Calls}

-- the number of the next call, from 1; it stays at the counter's last value
abbrev pub next_call : Calls → ℕ
next_call calls = min (calls.made + 1) (2 ^ 64 - 1)

-- the next call is one of those that are to fail
abbrev pub FailsNext : Calls → Type 0
FailsNext calls = Contains calls.failing.items (next_call calls)

-- no call was made yet, and these are to fail
pub record Begins (listed : List ℕ) (calls : Calls) : Type 0 where
  pub made : calls.made ≡ 0
  pub failing : calls.failing.items ≡ listed

-- one more call was made, and the same ones are to fail
pub record IsCounted (old new : Calls) : Type 0 where
  pub made : new.made ≡ next_call old
  pub failing : new.failing.items ≡ old.failing.items
