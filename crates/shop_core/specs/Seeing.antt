-- Rows that are lent.
use Rattle.std.specs.Prelude.{◌≡◌, nat_eq, Bool, ◌&&◌, Result, Ok, Err, List, map, Vec}
use Rattle.std.specs.Borrow.{Bor}
use Rattle.std.proofs.Common.{Global}
use Rattle.shop_defs.specs.declared.broken.Broken.{Broken}
use Rattle.shop_defs.specs.declared.entity.Entity.{Entity}
use Rattle.shop_defs.specs.declared.row.Row.{Row}
use Rattle.shop_defs.specs.Entities.{entity_number}
use Rattle.idx_copy.specs.declared.answer.AskFault.{AskFault}
use Rattle.idx_copy.specs.declared.answer.AskFault.TheVariants as asking
use Rattle.shop_core.specs.declared.answers.RowReply.{RowReply}
use Rattle.shop_core.specs.declared.answers.RowSeen.{RowSeen}

-- a lent row, as the reply that a copy of it is
abbrev pub reply_of : RowSeen → RowReply
reply_of seen = record { row = seen.row.now; shown = seen.shown }

-- an answer that lends is what a read shows, unless memory runs out
abbrev pub Sees : Result RowSeen AskFault → Result RowReply Broken → Type 0
Sees (Ok seen) shown = shown ≡ Ok (reply_of seen)
Sees (Err (asking.Refused broken)) shown = shown ≡ Err broken
Sees (Err asking.NoMemory) shown = Unit {0}

-- and so of a list of lent rows
abbrev pub SeesRows : Result (Vec (Bor Row) Global) AskFault → Result (List Row) Broken → Type 0
SeesRows (Ok rows) shown = shown ≡ Ok (map (λ row. row.now) rows.items)
SeesRows (Err (asking.Refused broken)) shown = shown ≡ Err broken
SeesRows (Err asking.NoMemory) shown = Unit {0}

-- the row is a live one of the entity
abbrev pub is_of : Entity → Row → Bool
is_of entity row = nat_eq (entity_number row.key.entity) (entity_number entity) && nat_eq row.key.version 0
