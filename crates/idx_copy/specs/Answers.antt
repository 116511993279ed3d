-- What tables answer.
use Rattle.std.specs.Prelude.{◌≡◌, List, Result, Ok, Err}
use Rattle.shop_defs.specs.declared.row.Row.{Row}
use Rattle.shop_requests.specs.declared.query.Query.{Query}
use Rattle.shop_requests.specs.declared.query.Query.TheVariants as Q
use Rattle.renewed.specs.Showing.{Shows}
use Rattle.shop_meanings.specs.Live.{AreOrderly}
use Rattle.shop_meanings.specs.Categories.{standing}
use Rattle.product_meanings.specs.Streams as streams
use Rattle.product_meanings.specs.Direct.{Told, tree, members, price, page, direct}
use Rattle.idx_listing.specs.Shown.{ShowsListings}
use Rattle.idx_copy.specs.declared.answer.Answer.{Answer}
use Rattle.idx_copy.specs.declared.answer.Answer.TheVariants as A
use Rattle.idx_copy.specs.declared.answer.AskFault.{AskFault}
use Rattle.idx_copy.specs.declared.answer.AskFault.TheVariants as F
use Rattle.idx_copy.specs.declared.tables.Tables.{Tables}

-- The tables are the direct ones of the rows: at each key stands what the rows mean there, and no other key is in them. The rows are in
-- order and coherent, so that no category lists more products than a page can count.
pub record AreTablesOf (rows : List Row) (tables : Tables) : Type 0 where
  pub orderly : AreOrderly rows
  pub paths : Shows (standing rows) tables.paths
  pub streams : Shows (streams.members rows) tables.streams
  pub listings : ShowsListings rows tables.listings

-- what an answer tells
abbrev pub said : Answer → Told
said (A.CategoryTree path level children) = tree (record { path = path.now; level = level; children = children })
said (A.StreamMembers ids) = members ids.now
said (A.ListingPrice found) = price found
said (A.Listing shown) = page shown

-- memory is taken for a page of a listing alone
abbrev pub WantsMemory : Query → Type 0
WantsMemory (Q.Listing category number) = Unit {0}
WantsMemory query = ⊥

-- an answer is what the query means over the rows, and so is a refusal
abbrev pub Answers : List Row → Query → Result Answer AskFault → Type 0
Answers rows query (Ok answer) = direct rows query ≡ Ok (said answer)
Answers rows query (Err (F.Refused broken)) = direct rows query ≡ Err broken
Answers rows query (Err F.NoMemory) = WantsMemory query
