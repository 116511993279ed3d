-- What replies say, as JSON values, and with which status (RFC 9110, section 15).
use Rattle.std.specs.Prelude.{ℕ, ℤ, List, [], ◌∷◌, map, codes, Option, Some, None}
use Rattle.serde_json.specs.Data.{Data, string}
use Rattle.serde_json.specs.Written.{compact_text}
use Rattle.cart_json.specs.CartReplies.{settled_data}
use Rattle.shop_core.specs.declared.answers.Reply.{Reply}
use Rattle.shop_core.specs.declared.answers.Reply.TheVariants as R
use Rattle.shop_core.specs.declared.answers.Told.{Told}
use Rattle.shop_core.specs.declared.answers.Told.TheVariants as T
use Rattle.shop_chain.specs.Showing.{ShownList}
use Rattle.reply_json.specs.Faults.{fault_data, fault_status}
use Rattle.reply_json.specs.Fronts.{front_data, front_unknown_data}
use Rattle.reply_json.specs.Objects.{object_of}
use Rattle.reply_json.specs.Products.{members_data, price_data, page_data}
use Rattle.reply_json.specs.Refusals.{refusal_data, refusal_status}
use Rattle.reply_json.specs.RowReplies.{done_data, row_data, rows_data}
use Rattle.reply_json.specs.Trees.{missing_data, tree_data}

-- of a row of which nothing is shown beside its fields, no member says so
abbrev pub if_any : ShownList → Option ShownList
if_any [] = None
if_any (shown ∷ rest) = Some (shown ∷ rest)

abbrev pub error_data : List ℕ → Data
error_data name = object_of ((codes "error", string name) ∷ [])

-- what a question about all rows is answered, by the rows after so many entries
abbrev pub told_data : ℕ → Told → Data
told_data front (T.Tree standing) = tree_data front standing.path standing.level standing.children
told_data front (T.Members members) = members_data front members
told_data front (T.Price price) = price_data front price
told_data front (T.Page page) = page_data front page

abbrev pub reply_data : Reply → Data
reply_data (R.Done done) = done_data done.front done.value
reply_data (R.Row reply) = row_data reply.row (if_any reply.shown)
reply_data (R.RowList replies) = rows_data (map (λ reply. reply.row) replies)
reply_data (R.Cart front settled) = settled_data front settled
reply_data (R.Told front told) = told_data front told
reply_data (R.Missing front key) = missing_data front key
reply_data (R.Front accepted published) = front_data accepted published
reply_data (R.FrontUnknown asked have) = front_unknown_data asked have
reply_data (R.Refused refused) = refusal_data refused
reply_data (R.Line fault) = fault_data fault
reply_data R.StoreFailed = error_data (codes "store_failed")
reply_data R.NoMemory = error_data (codes "no_memory")

abbrev pub reply_status : Reply → ℕ
reply_status (R.Done done) = 200
reply_status (R.Row reply) = 200
reply_status (R.RowList replies) = 200
reply_status (R.Cart front settled) = 200
reply_status (R.Told front told) = 200
reply_status (R.Missing front key) = 404
reply_status (R.Front accepted published) = 200
reply_status (R.FrontUnknown asked have) = 409
reply_status (R.Refused refused) = refusal_status refused.broken
reply_status (R.Line fault) = fault_status fault
reply_status R.StoreFailed = 503
reply_status R.NoMemory = 507

-- the body of a reply
unfoldable pub reply_body : Reply → List ℕ
reply_body reply = compact_text (reply_data reply)

-- the body of the reply to a write that is accepted
abbrev pub done_body : ℕ → ℤ → List ℕ
done_body front value = reply_body (R.Done (record { front = front; value = value }))
