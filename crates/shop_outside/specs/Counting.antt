-- How the counts of a listener and of a spawner rise.
use Rattle.std.specs.Prelude.{ℕ, ◌+◌, ◌-◌, ◌^◌, min, Bool, true, false, Option, Some, None, Result, Ok, Err}

-- one more; it stays at the counter's last value
abbrev pub one_more : ℕ → ℕ
one_more count = min (count + 1) (2 ^ 64 - 1)

-- how many connections a listener has given, after an answer
abbrev pub given_after : {C E : Type 0} → ℕ → Result (Option C) E → ℕ
given_after count (Ok (Some link)) = one_more count
given_after count (Ok None) = count
given_after count (Err e) = count

-- how often it has said that it is closed, after an answer
abbrev pub closed_after : {C E : Type 0} → ℕ → Result (Option C) E → ℕ
closed_after count (Ok (Some link)) = count
closed_after count (Ok None) = one_more count
closed_after count (Err e) = count

-- how many jobs of one kind a spawner has taken, after an answer to a job of that kind or of the other
abbrev pub taken_after : {T E : Type 0} → Bool → ℕ → Result T E → ℕ
taken_after true count (Ok x) = one_more count
taken_after true count (Err e) = count
taken_after false count result = count
