-- An error that is handed on wants memory for what it was handed on for.
use Rattle.std.proofs.Common.{Result, Ok, Err}
use Rattle.std.specs.Prelude.{OnErr, IsErrAnd}

pub wanted_by : {A E : Type 0} (Q : Type 0) (answer : Result A E) (P : E → Type 0) → IsErrAnd answer P → Q → OnErr answer Q
wanted_by Q (Ok a) P is h = absurd is
wanted_by Q (Err e) P is h = h
