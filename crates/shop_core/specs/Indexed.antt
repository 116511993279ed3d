-- What is answered of a question about all rows.
use Rattle.std.specs.Prelude.{ℕ, ◌≡◌, ◌≤◌, ◌⊎◌, nat_le, List, if◌then◌else◌, Result, Ok, Err}
use Rattle.shop_defs.specs.declared.broken.Broken.{Broken}
use Rattle.shop_defs.specs.declared.broken.Broken.TheVariants as B
use Rattle.shop_defs.specs.declared.row.Row.{Row}
use Rattle.shop_requests.specs.declared.query.Query.{Query}
use Rattle.product_meanings.specs.Direct.{Told, tree, members, price, page, direct}
use Rattle.shop_core.specs.declared.answers.Reply.{Reply}
use Rattle.shop_core.specs.declared.answers.Reply.TheVariants as replies
use Rattle.shop_core.specs.declared.answers.Told.TheVariants as answers
use Rattle.shop_core.specs.Shops.{ShopView}
use Rattle.shop_core.specs.Publishing.{OnlyPublishes, IsCaughtUp}

-- what is told over the rows after so many entries, or that there is no such row, as a reply
abbrev pub said_reply : ℕ → Result Told Broken → Reply
said_reply front (Ok (tree standing)) = replies.Told front (answers.Tree standing)
said_reply front (Ok (members ids)) = replies.Told front (answers.Members ids)
said_reply front (Ok (price found)) = replies.Told front (answers.Price found)
said_reply front (Ok (page shown)) = replies.Told front (answers.Page shown)
said_reply front (Err (B.NoSuchRow key)) = replies.Missing front key
said_reply front (Err broken) = replies.Refused (record { op = 0; broken = broken })

-- what a question is answered by the rows after so many entries: what it means over them
abbrev pub direct_reply : List Row → ℕ → Query → Reply
direct_reply rows front query = said_reply front (direct rows query)

-- what it is answered over all accepted entries, where there are as many as are asked for
abbrev pub indexed_answer : List Row → ℕ → Query → ℕ → Reply
indexed_answer rows number query least = if nat_le least number then direct_reply rows number query else replies.FrontUnknown least number

-- a reply is this, unless memory ran out
abbrev pub Tells : Reply → Reply → Type 0
Tells replies.NoMemory meant = Unit {0}
Tells reply meant = reply ≡ meant

-- A question is answered over all accepted entries, after the shop has caught up, and nothing else changes.
pub record IsTold (old : ShopView) (reply : Reply) (query : Query) (least : ℕ) (now : ShopView) : Type 0 where
  pub tells : Tells reply (indexed_answer old.rows old.number query least)
  pub only : OnlyPublishes old now
  pub caught : least ≤ old.number → IsCaughtUp now ⊎ (reply ≡ replies.NoMemory)
