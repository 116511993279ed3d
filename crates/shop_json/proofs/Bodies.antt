-- What the body of a batch asks for, by how it was read.
use Rattle.std.proofs.Common.{◌≡◌, ℕ, Bool, true, false, List, Option, Some, None, if◌then◌else◌, refl, ap, ◌∙◌}
use Rattle.std.specs.Prelude.{Result, Ok, Err}
use Rattle.std.specs.Result.{IsErrAnd}
use Rattle.std.specs.Str.{is_utf8}
use Rattle.std.proofs.lemmas.Str.{IsUtf8-from_is_utf8, is_utf8-from_IsUtf8}
use Rattle.serde_json.specs.Data.{Data}
use Rattle.serde_json.specs.Read.{read}
use Rattle.shop_requests.specs.declared.command.Command.{Command}
use Rattle.body_json.specs.Bodies.{HasNoReading, IsReadAs, Reads as SaysValue}
use Rattle.body_json.specs.declared.fault.BodyFault.{BodyFault}
use Rattle.body_json.specs.declared.fault.BodyFault.TheVariants as B
use Rattle.shop_json.specs.Asking.{Reads, as_write, body_value, by_shape, by_value, said}

value_said : (body : List ℕ) (d : Data) → SaysValue body d → body_value body ≡ Some d
value_said body d said = ap (λ text. if text then read body else None) (is_utf8-from_IsUtf8 body said.0) ∙ said.1

no_value : (body : List ℕ) → HasNoReading body → body_value body ≡ None
no_value body none = by (is_utf8 body) (read body) refl refl
  where
    by : (text : Bool) (found : Option Data) → is_utf8 body ≡ text → read body ≡ found → (if text then found else None) ≡ None
    by false found t r = refl
    by true None t r = refl
    by true (Some d) t r = absurd (none d (IsUtf8-from_is_utf8 body t, r))

-- what was read is what the body says
pub is_said : {A : Type 0} (shape : Data → Result A (List ℕ)) (body : List ℕ) (value : A) → IsReadAs shape body (Ok value) → said shape body ≡ Ok value
unfolding said
is_said shape body value is = ap (by_value shape) (value_said body is.0 is.1) ∙ ap by_shape is.2

-- what is wrong with the body is wrong with the request
pub not_said : {A : Type 0} (shape : Data → Result A (List ℕ)) (command : A → Command) (body : List ℕ) (fault : BodyFault) → IsReadAs shape body (Err fault) → Reads (as_write command (said shape body)) (Err fault)
unfolding said
not_said shape command body B.BadJson is = ap (λ value. as_write command (by_value shape value)) (no_value body is)
not_said shape command body (B.BadShape pointer) is = ap (λ value. as_write command (by_value shape value)) (value_said body is.0 is.1) ∙ ap (λ found. as_write command (by_shape found)) is.2
not_said shape command body B.NoMemory is = tt

pub err_is : {A E : Type 0} (answer : Result A E) (fault : E) → IsErrAnd answer (λ e. e ≡ fault) → answer ≡ Err fault
err_is (Ok a) fault is = absurd is
err_is (Err e) fault is = ap (λ f. Err f) is
