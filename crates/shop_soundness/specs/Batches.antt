-- A batch: operations one after the other, all or none.
use Rattle.std.specs.Prelude.{ℕ, suc, false, List, [], ◌∷◌, Result, Ok, Err}
use Rattle.shop_defs.specs.declared.broken.Broken.{Broken}
use Rattle.shop_defs.specs.declared.op.Op.{Op}
use Rattle.shop_requests.specs.declared.raw.RawOp.{RawOp}
use Rattle.shop_defs.specs.declared.refused.Refused.{Refused}
use Rattle.shop_defs.specs.declared.row.Row.{Row}
use Rattle.shop_requests.specs.Operations.{reading}
use Rattle.shop_operations.specs.Operations.{operated}
use Rattle.shop_operations.specs.Views.{View, live_view}

abbrev pub if_read : View → Result Op Broken → Result (List Row) Broken
if_read view (Ok op) = operated view op false
if_read view (Err broken) = Err broken

-- an operation as a request gives it: it is read, and then done
abbrev pub done : View → RawOp → Result (List Row) Broken
done view op = if_read view (reading op)

-- the first refusal, with the number of its operation, or what the others leave
abbrev pub numbered : ℕ → Result (List Row) Broken → (List Row → Result (List Row) Refused) → Result (List Row) Refused
numbered number (Err broken) more = Err (record { op = number; broken = broken })
numbered number (Ok rows) more = more rows

-- the rows that the operations leave, of which the first has that number, or the first refusal
abbrev pub batch : View → ℕ → List RawOp → Result (List Row) Refused
batch view number [] = Ok view.rows
batch view number (op ∷ rest) = numbered number (done view op) (λ rows. batch (record view { rows = rows }) (suc number) rest)

-- operations on the live rows, counted from 1
abbrev pub live_batch : List Row → List RawOp → Result (List Row) Refused
live_batch rows ops = batch (live_view rows) 1 ops
