-- A stream of bytes as a list of requests, for any way to cut a request off the front of it.
-- F is the type of the faults for which a front is refused.
use Rattle.std.specs.Prelude.{ℕ, zero, suc, ◌+◌, ◌≡◌, ◌<◌, ◌≤◌, ◌++◌, ◌⊎◌, Bool, true, false, ◌==◌, List, [], ◌∷◌, length, drop, cond}
use Rattle.shop_http.specs.declared.next.Given.{Given}
use Rattle.shop_http.specs.declared.next.Given.TheVariants.{Missing, Once, Twice}
use Rattle.shop_http.specs.declared.next.Head.{Head}
use Rattle.shop_http.specs.declared.next.Next.{Next}
use Rattle.shop_http.specs.declared.next.Next.TheVariants.{Whole, More, Nothing, Cut, Fatal}

-- a header field: missing, there once with these bytes, or there more often
pub data Field : Type 0 where
  missing : Field
  once : List ℕ → Field
  twice : Field

-- a request, without where it lies in memory
pub record Request : Type 0 where
  pub method : List ℕ
  pub target : List ℕ
  pub closing : Bool  -- it asks to close the connection
  pub language : Field
  pub version : Field
  pub inheritance : Field
  pub min_front : Field
  pub body : List ℕ

-- the front of the bytes: a whole request of so many bytes, no whole request yet, or none however the bytes go on
pub data Front (F : Type 0) : Type 0 where
  whole : Request → ℕ → Front F
  part : Front F
  bad : F → Front F

-- a request to be answered, and whether the connection is closed after it
pub record Asked : Type 0 where
  pub request : Request
  pub last : Bool

-- where a list of requests ends
pub data Ending (F : Type 0) : Type 0 where
  open_at : List ℕ → Ending F  -- what is left is no whole request
  refused : F → Ending F  -- what is left is refused
  closing : Ending F  -- the last request asks to close
  spent : Ending F  -- as many requests as are served, of which none asks to close

pub record Cuts (F : Type 0) : Type 0 where
  pub asked : List Asked
  pub ending : Ending F

-- one request more at the front
abbrev pub with_front : {F : Type 0} → Asked → Cuts F → Cuts F
with_front ask cuts = record { asked = ask ∷ cuts.asked; ending = cuts.ending }

-- The requests of the bytes, in order: at most n of them, up to and with the first that asks to close, or up to a front that is
-- refused. What follows the request that asks to close, or the n-th, is not looked at.
unfoldable pub requests : {F : Type 0} → (List ℕ → Front F) → ℕ → List ℕ → Cuts F
requests cut zero bytes = record { asked = []; ending = spent }
requests cut (suc n) bytes = elim (cut bytes) [
  | whole r used ↦ cond r.closing (record { asked = record { request = r; last = true } ∷ []; ending = closing })
      (with_front (record { request = r; last = n == 0 }) (requests cut n (drop used bytes)))
  | part ↦ record { asked = []; ending = open_at bytes }
  | bad f ↦ record { asked = []; ending = refused f }
]

-- What a way to cut has to keep: a request takes bytes, and only bytes that are there; where the front is settled, more bytes
-- change nothing; and what is not yet settled is short.
pub record IsCut {F : Type 0} (cut : List ℕ → Front F) (longest : ℕ) : Type 0 where
  pub takes : (bytes : List ℕ) (r : Request) (used : ℕ) → cut bytes ≡ whole r used → (0 < used) × (used ≤ length bytes)
  pub settled : (bytes more : List ℕ) → (cut bytes ≡ part → ⊥) → cut (bytes ++ more) ≡ cut bytes
  pub short : (bytes : List ℕ) → cut bytes ≡ part → length bytes < longest

abbrev pub field_of : Given → Field
field_of Missing = missing
field_of (Once x) = once x.now
field_of Twice = twice

-- a head and a body as a request
abbrev pub request_of : Head → List ℕ → Request
request_of h body = record {
  method = h.method.now;
  target = h.target.now;
  closing = h.closing;
  language = field_of h.language;
  version = field_of h.version;
  inheritance = field_of h.inheritance;
  min_front = field_of h.min_front;
  body = body;
}

-- With so many bytes or more, beginning with these, the front is settled.
abbrev pub IsSettledAt : {F : Type 0} → (List ℕ → Front F) → List ℕ → ℕ → Type 0
IsSettledAt cut bytes least = (more : List ℕ) → least ≤ length (bytes ++ more) → cut (bytes ++ more) ≡ part → ⊥

-- The least length at which there is something new to see: with fewer bytes than that the front isn't settled, and with so many
-- it is, unless no more was asked for than one byte.
pub record IsNextLook {F : Type 0} (cut : List ℕ → Front F) (bytes : List ℕ) (least : ℕ) : Type 0 where
  pub more : length bytes < least
  pub before : (more : List ℕ) → length (bytes ++ more) < least → cut (bytes ++ more) ≡ part
  pub then_new : (least ≡ length bytes + 1) ⊎ IsSettledAt cut bytes least

-- which answer stands for the front of these bytes, where `ended` says that no more come
abbrev pub IsNext : {F R : Type 0} → (List ℕ → Front F) → List ℕ → Bool → Next F R → Type 0
IsNext cut bytes ended (Whole head body used found) = cut bytes ≡ whole (request_of head body.now) used
IsNext cut bytes ended (More least) = (cut bytes ≡ part) × (ended ≡ false) × IsNextLook cut bytes least
IsNext cut bytes ended Nothing = (cut bytes ≡ part) × (ended ≡ true) × (bytes ≡ [])
IsNext cut bytes ended Cut = (cut bytes ≡ part) × (ended ≡ true) × (0 < length bytes)
IsNext cut bytes ended (Fatal f) = cut bytes ≡ bad f
