-- How a connection ends, by the bytes that it was sent alone.
use Rattle.std.specs.Prelude.{◌≡◌, ◌⊎◌, [], ◌∷◌}
use Rattle.shop_http.specs.Requests.{Ending, open_at, refused, closing, spent}
use Rattle.shop_server.specs.declared.session.Ended.{Ended}
use Rattle.shop_server.specs.declared.session.Ended.TheVariants.{Closed, HeadRefused, Spent, Truncated, ReadFault, WriteFault, NoMemory}

-- the way of ending for each end of a list of requests, where no more bytes come
abbrev pub ended_of : {F : Type 0} → Ending F → Ended
ended_of (open_at []) = Closed
ended_of (open_at (byte ∷ bytes)) = Truncated
ended_of (refused f) = HeadRefused
ended_of closing = Closed
ended_of spent = Spent

-- A connection whose list of requests has this end may end so: as the list says, unless a call failed or memory ran out.
abbrev pub MayEnd : {F : Type 0} → Ending F → Ended → Type 0
MayEnd ending ended = (ended ≡ ReadFault) ⊎ (ended ≡ WriteFault) ⊎ (ended ≡ NoMemory) ⊎ (ended ≡ ended_of ending)

-- the list of requests has come to an end, however the bytes go on
abbrev pub IsSettled : {F : Type 0} → Ending F → Type 0
IsSettled (open_at bytes) = ⊥
IsSettled (refused f) = Unit {0}
IsSettled closing = Unit {0}
IsSettled spent = Unit {0}
