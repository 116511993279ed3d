-- What is answered, by the live row that is named.
use Rattle.std.proofs.Common.{◌≡◌, ℕ, List, map, length, Option, Some, None, Result, Ok, Err, ap}
use Rattle.std.specs.List.{filter_map}
use Rattle.std.specs.Option.{option_map}
use Rattle.shop_defs.specs.declared.broken.Broken.{Broken}
use Rattle.shop_defs.specs.declared.broken.Broken.TheVariants.{NoSuchRow}
use Rattle.shop_defs.specs.declared.row.Row.{Row}
use Rattle.shop_defs.specs.Rows.{row_at}
use Rattle.shop_requests.specs.declared.query.Query.{Query}
use Rattle.shop_requests.specs.declared.query.Query.TheVariants as Q
use Rattle.shop_meanings.specs.Categories.{path, children_of, standing_of}
use Rattle.product_meanings.specs.declared.listing.ListingPage.{ListingPage}
use Rattle.product_meanings.specs.Products.{picked}
use Rattle.product_meanings.specs.Streams.{is_member}
use Rattle.product_meanings.specs.Listings.{price_of, offers, is_listed, listing_price, page_of}
use Rattle.product_meanings.specs.Direct.{Told, tree, members, price, page, asked_key, or_missing, direct}
use Rattle.product_meanings.specs.Laws.{AnswersOfAllAreOfRows}

-- a page of the products that are listed
abbrev shown : List Row → ℕ → List ℕ → ListingPage
shown rows number all = record { total = length all; items = filter_map (λ id. option_map (λ price. (id, price)) (listing_price rows id)) (page_of number all) }

-- the answer by the row that is found
abbrev told_by : List Row → Query → Option Row → Result Told Broken
told_by rows (Q.CategoryTree category) found = or_missing (asked_key (Q.CategoryTree category)) (option_map tree (option_map (λ _. standing_of (path rows category) (children_of rows category)) found))
told_by rows (Q.StreamMembers stream) found = or_missing (asked_key (Q.StreamMembers stream)) (option_map members (option_map (λ _. picked (is_member rows stream) rows) found))
told_by rows (Q.ListingPrice product) found = or_missing (asked_key (Q.ListingPrice product)) (option_map price (option_map (λ _. price_of (offers rows product)) found))
told_by rows (Q.Listing category number) found = or_missing (asked_key (Q.Listing category number)) (option_map page (option_map (shown rows number) (option_map (λ _. picked (is_listed rows category) rows) found)))

there : (rows : List Row) (query : Query) (row : Row) → row_at rows (asked_key query) ≡ Some row → record { told : Told; is : direct rows query ≡ Ok told }
there rows (Q.CategoryTree category) row e = record { told = tree (standing_of (path rows category) (children_of rows category)); is = ap (told_by rows (Q.CategoryTree category)) e }
there rows (Q.StreamMembers stream) row e = record { told = members (picked (is_member rows stream) rows); is = ap (told_by rows (Q.StreamMembers stream)) e }
there rows (Q.ListingPrice product) row e = record { told = price (price_of (offers rows product)); is = ap (told_by rows (Q.ListingPrice product)) e }
there rows (Q.Listing category number) row e = record { told = page (shown rows number (picked (is_listed rows category) rows)); is = ap (told_by rows (Q.Listing category number)) e }

missing : (rows : List Row) (query : Query) → row_at rows (asked_key query) ≡ None → direct rows query ≡ Err (NoSuchRow (asked_key query))
missing rows (Q.CategoryTree category) e = ap (told_by rows (Q.CategoryTree category)) e
missing rows (Q.StreamMembers stream) e = ap (told_by rows (Q.StreamMembers stream)) e
missing rows (Q.ListingPrice product) e = ap (told_by rows (Q.ListingPrice product)) e
missing rows (Q.Listing category number) e = ap (told_by rows (Q.Listing category number)) e

pub answers_of_all : AnswersOfAllAreOfRows
answers_of_all rows = record { there = there rows; missing = missing rows }
