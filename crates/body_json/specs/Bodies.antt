-- What bodies read as.
use Rattle.std.specs.Prelude.{◌≡◌, ℕ, List, Some, Result, Ok, Err, IsUtf8}
use Rattle.serde_json.specs.Data.{Data}
use Rattle.serde_json.specs.Read.{read}
use Rattle.shop_requests.specs.declared.raw.RawOp.{RawOp}
use Rattle.body_json.specs.Shapes.{batch}
use Rattle.body_json.specs.declared.fault.BodyFault.{BodyFault}
use Rattle.body_json.specs.declared.fault.BodyFault.TheVariants.{BadJson, BadShape, NoMemory}

-- the bytes are a text, and the text is JSON that says the value
abbrev pub Reads : List ℕ → Data → Type 0
Reads body d = IsUtf8 body × (read body ≡ Some d)

abbrev pub HasNoReading : List ℕ → Type 0
HasNoReading body = (d : Data) → ¬ (Reads body d)

-- the answer is what the body says by this shape, or the first wrong place in it; or the body has no reading
abbrev pub IsReadAs : {A : Type 0} → (Data → Result A (List ℕ)) → List ℕ → Result A BodyFault → Type 0
IsReadAs shape body (Ok value) = (d : Data) × Reads body d × (shape d ≡ Ok value)
IsReadAs shape body (Err BadJson) = HasNoReading body
IsReadAs shape body (Err (BadShape pointer)) = (d : Data) × Reads body d × (shape d ≡ Err pointer)
IsReadAs shape body (Err NoMemory) = Unit {0}

-- the same of a batch
abbrev pub IsRead : List ℕ → Result (List RawOp) BodyFault → Type 0
IsRead body answer = IsReadAs batch body answer

-- a value was read of a body, or there is none
abbrev pub IsParsed : {V : Type 0} → (V → Data) → List ℕ → Result V BodyFault → Type 0
IsParsed view body (Ok value) = Reads body (view value)
IsParsed view body (Err BadJson) = HasNoReading body
IsParsed view body (Err (BadShape pointer)) = ⊥
IsParsed view body (Err NoMemory) = Unit {0}
