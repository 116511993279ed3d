-- When an object that was handed in may answer that it failed, and what a call on it leaves.
use Rattle.std.specs.Prelude.{ℕ, ◌≡◌, ◌+◌, ◌-◌, ◌^◌, ◌≤◌, ◌<◌, min, List, length, IfOk, OnOk, OnErr}
use Rattle.std.specs.declared.result.Result.{Result}
use Rattle.std.specs.declared.option.Option.{Option}

-- A count of faults rose, or stands at the counter's last value.
abbrev pub Rose : ℕ → ℕ → Type 0
Rose before now = min (before + 1) (2 ^ 64 - 1) ≤ now

-- A count of faults never falls, a call fails only where it rose, and an Ok leaves it.
pub record HasCause {T E : Type 0} (before now : ℕ) (result : Result T E) : Type 0 where
  pub later : before ≤ now
  pub failed : OnErr result (Rose before now)
  pub kept : OnOk result (now ≡ before)

-- What the other half of an object shows: its bytes where they are told, its count of faults,
-- and by their ghost names the references that the object holds.
pub record Half : Type 0 where
  pub bytes : Option (List ℕ)
  pub faults : ℕ
  pub names : List ℕ

-- A write takes a front of the piece, and none only of an empty one.
pub record Takes {E : Type 0} (piece : List ℕ) (result : Result ℕ E) : Type 0 where
  pub within : IfOk result (λ n. n ≤ length piece)
  pub some : 0 < length piece → IfOk result (λ n. 0 < n)
