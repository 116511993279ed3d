-- What reads show, and how one request is answered.
use Rattle.std.specs.Prelude.{ℕ, ℤ, ◌≡◌, ◌==◌, ◌&&◌, ◌||◌, ◌⊎◌, Bool, List, [], map, filter, take, Option, Some, None, is_some, if◌then◌else◌, Result, Ok, Err}
use Rattle.std.specs.Option.{option_map}
use Rattle.std.specs.Ordering.{is_lt}
use Rattle.shop_defs.specs.declared.broken.Broken.{Broken}
use Rattle.shop_defs.specs.declared.broken.Broken.TheVariants as B
use Rattle.shop_defs.specs.declared.entity.Entity.{Entity}
use Rattle.shop_defs.specs.declared.entity.Entity.TheVariants as E
use Rattle.shop_defs.specs.declared.key.Key.{Key}
use Rattle.shop_requests.specs.declared.command.Command.{Command}
use Rattle.shop_requests.specs.declared.query.RowRead.{RowRead}
use Rattle.shop_defs.specs.declared.row.Row.{Row}
use Rattle.shop_defs.specs.declared.table.EntityInfo.{EntityInfo}
use Rattle.shop_defs.specs.Keys.{key_cmp}
use Rattle.shop_requests.specs.Operations.{or_else, wrong_second}
use Rattle.shop_defs.specs.Rows.{row_at}
use Rattle.shop_defs.specs.Tables.{entity_named, info_named}
use Rattle.shop_operations.specs.References.{is_entity, is_live}
use Rattle.cart_loop.specs.declared.fault.CartRefused.{CartRefused}
use Rattle.cart_loop.specs.declared.fault.CartRefused.TheVariants as carts
use Rattle.cart_loop.specs.Answer.{settling}
use Rattle.shop_chain.specs.Chains.{chain_of}
use Rattle.shop_chain.specs.Showing.{shown}
use Rattle.idx_copy.specs.declared.answer.AskFault.{AskFault}
use Rattle.idx_copy.specs.declared.answer.AskFault.TheVariants as asking
use Rattle.shop_core.specs.declared.answers.CommitFault.{CommitFault}
use Rattle.shop_core.specs.declared.answers.CommitFault.TheVariants as faults
use Rattle.shop_core.specs.declared.answers.Done.{Done}
use Rattle.shop_core.specs.declared.answers.Reply.{Reply}
use Rattle.shop_core.specs.declared.answers.Reply.TheVariants as replies
use Rattle.shop_core.specs.declared.answers.Request.{Request}
use Rattle.shop_core.specs.declared.answers.Request.TheVariants as requests
use Rattle.shop_core.specs.declared.answers.RowReply.{RowReply}
use Rattle.shop_core.specs.Commits.{Commits}
use Rattle.shop_core.specs.Publishing.{CatchesUp, OnlyPublishes}
use Rattle.shop_core.specs.Indexed.{IsTold}
use Rattle.shop_core.specs.Shops.{ShopView}
use Rattle.shop_core.specs.Steps.{IsBuilt}

-- an answer is what it is to be, unless memory runs out
abbrev pub Shows : {X : Type 0} → Result X AskFault → Result X Broken → Type 0
Shows (Ok reply) shown = shown ≡ Ok reply
Shows (Err (asking.Refused broken)) shown = shown ≡ Err broken
Shows (Err asking.NoMemory) shown = Unit {0}

-- ---- the read of one row

-- the key of a draft: the draft of a version has that version as its id
abbrev pub draft_key : ℕ → Key
draft_key version = record { entity = E.Draft; version = 0; id = version; second = 0 }

-- the version is the live one, or a draft has it
abbrev pub is_known : List Row → ℕ → Bool
is_known rows version = (version == 0) || is_some (row_at rows (draft_key version))

-- the key of the row that is asked for; so far no shop has drafts, and the live row is shown
abbrev pub asked_key : Entity → RowRead → Key
asked_key entity read = record { entity = entity; version = 0; id = read.id; second = read.second }

-- the second part of the key is there exactly where the entity's keys have two
abbrev pub wrong_form : EntityInfo → RowRead → Option Broken
wrong_form info read = option_map B.WrongKind (wrong_second info.key read.second)

-- the version that is asked for isn't known
abbrev pub unknown_version : List Row → RowRead → Option Broken
unknown_version rows read = if is_known rows read.version then None else Some (B.NoSuchVersion read.version)

-- the row with what is shown beside it, or that there is none with the key
abbrev pub row_with : List Row → RowRead → Key → Option Row → Result RowReply Broken
row_with rows read key None = Err (B.NoSuchRow key)
row_with rows read key (Some row) = Ok (record { row = row; shown = shown (row_at rows) 0 row read.inherit (chain_of (row_at rows) read.language) })

abbrev pub unless_broken : {X : Type 0} → Option Broken → Result X Broken → Result X Broken
unless_broken None later = later
unless_broken (Some broken) later = Err broken

abbrev pub read_in : List Row → RowRead → Option EntityInfo → Result RowReply Broken
read_in rows read None = Err B.UnknownEntity
read_in rows read (Some info) =
    unless_broken (or_else (wrong_form info read) (unknown_version rows read)) (row_with rows read (asked_key info.entity read) (row_at rows (asked_key info.entity read)))

-- What a read shows: the row with what is shown beside it, or the first rule that the read breaks. The rules are: the entity has
-- a name; the key is of its form; the version is known; the row is there.
unfoldable pub reading : List Row → RowRead → Result RowReply Broken
reading rows read = read_in rows read (info_named read.entity)

-- ---- a list of rows

-- so many rows are listed at most
abbrev pub most_listed : ℕ
most_listed = 100

-- the row is a live one of the entity, above that place
abbrev pub is_listed : Entity → ℕ → ℕ → Row → Bool
is_listed entity id second row = is_entity entity row.key.entity && is_live row && is_lt (key_cmp (record { entity = entity; version = 0; id = id; second = second }) row.key)

-- a row by itself
abbrev pub bare : Row → RowReply
bare row = record { row = row; shown = [] }

abbrev pub listed_of : List Row → ℕ → ℕ → Option Entity → Result (List Row) Broken
listed_of rows id second None = Err B.UnknownEntity
listed_of rows id second (Some entity) = Ok (take most_listed (filter (is_listed entity id second) rows))

-- the first 100 live rows of the entity above a place, in key order, or all of them where they are fewer; or that no entity has
-- the name
unfoldable pub listing : List Row → List ℕ → ℕ → ℕ → Result (List Row) Broken
listing rows name id second = listed_of rows id second (entity_named name)

abbrev pub with_bare : Result (List Row) Broken → Result (List RowReply) Broken
with_bare (Ok rows) = Ok (map bare rows)
with_bare (Err broken) = Err broken

-- ---- requests

-- the request is one that is built
abbrev pub IsBuiltRequest : Request → Type 0
IsBuiltRequest (requests.Write command) = IsBuilt command
IsBuiltRequest (requests.Row read) = Unit {0}
IsBuiltRequest (requests.RowList entity id second) = Unit {0}
IsBuiltRequest (requests.Indexed query least) = Unit {0}
IsBuiltRequest (requests.Cart cart) = Unit {0}
IsBuiltRequest requests.Front = Unit {0}

-- the answer to a read that shows nothing
abbrev pub not_shown : AskFault → Reply
not_shown (asking.Refused broken) = replies.Refused (record { op = 0; broken = broken })
not_shown asking.NoMemory = replies.NoMemory

abbrev pub broken_by : Broken → Reply
broken_by broken = replies.Refused (record { op = 0; broken = broken })

-- the answer to a cart that isn't settled
abbrev pub not_settled : ℕ → CartRefused → Reply
not_settled cart carts.NoSuchCart = broken_by (B.NoSuchCart cart)
not_settled cart carts.Unstable = broken_by (B.Unstable cart)
not_settled cart carts.NoMemory = replies.NoMemory

-- a read changes nothing, and is answered by what it shows
abbrev pub IsRead : ShopView → Reply → Result Reply Broken → ShopView → Type 0
IsRead old (replies.Refused rule) shown now = (shown ≡ Err rule.broken) × (rule.op ≡ 0) × (now ≡ old)
IsRead old replies.NoMemory shown now = now ≡ old
IsRead old reply shown now = (shown ≡ Ok reply) × (now ≡ old)

-- a read before which the shop catches up changes nothing else, and is answered by what it shows
abbrev pub IsReadCaughtUp : ShopView → Reply → Result Reply Broken → ShopView → Type 0
IsReadCaughtUp old (replies.Refused rule) shown now = (shown ≡ Err rule.broken) × (rule.op ≡ 0) × CatchesUp old now
IsReadCaughtUp old replies.NoMemory shown now = OnlyPublishes old now
IsReadCaughtUp old reply shown now = (shown ≡ Ok reply) × CatchesUp old now

abbrev pub answered : {X : Type 0} → (X → Reply) → Result X Broken → Result Reply Broken
answered reply (Ok value) = Ok (reply value)
answered reply (Err broken) = Err broken

-- what is answered of a cart at a moment: what it is settled at, beside how many entries are accepted; or the rule that is broken
abbrev pub cart_answer : List Row → ℕ → ℕ → ℤ → Result Reply Broken
cart_answer rows number cart moment = answered (λ settled. replies.Cart number settled) (settling rows cart moment)

-- the answer to a commit
abbrev pub written : Result Done CommitFault → Reply
written (Ok done) = replies.Done done
written (Err (faults.Refused rule)) = replies.Refused rule
written (Err faults.StoreFailed) = replies.StoreFailed
written (Err faults.NoMemory) = replies.NoMemory

-- A write is answered as its commit is, and then the shop catches up, unless memory runs out for that.
pub record IsWritten (old : ShopView) (reply : Reply) (moment : ℤ) (command : Command) (now : ShopView) : Type 0 where
  pub answer : Result Done CommitFault
  pub between : ShopView
  pub commits : Commits old command moment answer between
  pub reply_is : reply ≡ written answer
  pub after : CatchesUp between now ⊎ (now ≡ between)

-- A request that is built is answered as its commit or its read is.
abbrev pub Answers : ShopView → Request → ℤ → Reply → ShopView → Type 0
Answers old (requests.Write command) moment reply now = IsWritten old reply moment command now
Answers old (requests.Row read) moment reply now = IsRead old reply (answered replies.Row (reading old.rows read)) now
Answers old (requests.RowList entity id second) moment reply now = IsRead old reply (answered replies.RowList (with_bare (listing old.rows entity id second))) now
Answers old (requests.Indexed query least) moment reply now = IsTold old reply query least now
Answers old (requests.Cart cart) moment reply now = IsReadCaughtUp old reply (cart_answer old.rows old.number cart moment) now
Answers old requests.Front moment reply now = (reply ≡ replies.Front old.number old.copy.front) × (now ≡ old)
