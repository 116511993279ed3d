-- Pages of what a category lists, as an index shows them and as the rows mean them.
use Rattle.std.proofs.Common.{◌≡◌, ℕ, ◌<◌, ◌≤◌, ◌^◌, Bool, true, false, List, [], ◌∷◌, filter, map, length, Option, Some, None, refl, sym, ap, ◌∙◌, arith}
use Rattle.std.specs.Prelude.{count_by}
use Rattle.std.specs.List.{filter_map}
use Rattle.std.specs.Option.{option_map}
use Rattle.std.proofs.lemmas.List.Sums.{length-filter}
use Rattle.shop_defs.specs.declared.entity.Entity.TheVariants as E
use Rattle.shop_defs.specs.declared.row.Row.{Row}
use Rattle.shop_operations.specs.References.{is_entity, is_live, live}
use Rattle.shop_rows.proofs.Lists.{filter-filter}
use Rattle.shop_meanings.specs.Live.{live_row, live_rows, AreOrderly}
use Rattle.renewed.specs.Showing.{value_at}
use Rattle.product_meanings.specs.declared.listing.ListingPage.{ListingPage}
use Rattle.product_meanings.specs.Products.{picked}
use Rattle.product_meanings.specs.Listings.{listing_price, is_listed, listed, page_of, listing}
use Rattle.idx_listing.specs.Shown.{Listings, ShowsListings, page_with}

map_length : {X Y : Type 0} (f : X → Y) (xs : List X) → length (map f xs) ≡ length xs
map_length f [] = refl
map_length f (x ∷ xs) = omega (arith, map_length f xs)

filter_length : {X : Type 0} (p : X → Bool) (xs : List X) → length (filter p xs) ≤ length xs
filter_length p [] = omega arith
filter_length {X} p (x ∷ xs) = by (filter_length p xs) (p x) refl
  where
    by : length (filter p xs) ≤ length xs → (b : Bool) → p x ≡ b → length (filter p (x ∷ xs)) ≤ length (x ∷ xs)
    by more true e = rw e (omega (arith, more))
    by more false e = rw e (omega (arith, more))

-- the products that pass a test are few enough
picked_few : (rows : List Row) → AreOrderly rows → (test : Row → Bool) → length (picked test rows) < 2 ^ 32
picked_few rows orderly test =
    let all = orderly.coherent.bounded E.Product in
    let whole : length (live_rows rows E.Product) ≡ count_by (λ row. is_entity E.Product row.key.entity) (live rows) = sym (ap length (filter-filter (λ row. is_entity E.Product row.key.entity) is_live rows)) ∙ length-filter (λ row. is_entity E.Product row.key.entity) (live rows) in
    let fewer = filter_length test (live_rows rows E.Product) in
    let named : length (picked test rows) ≡ length (filter test (live_rows rows E.Product)) = map_length (λ (row : Row). row.key.id) (filter test (live_rows rows E.Product)) in
    omega (arith, all, whole, fewer, named)

-- what a category lists is
listed_few : (rows : List Row) → AreOrderly rows → (category : ℕ) (ids : List ℕ) → listed rows category ≡ Some ids → length ids < 2 ^ 32
listed_few rows orderly category ids e = by (live_row rows E.Category category) e
  where
    by : (o : Option Row) → option_map (λ _. picked (is_listed rows category) rows) o ≡ Some ids → length ids < 2 ^ 32
    by None f = absurd (cc)
    by (Some row) f =
        let same : picked (is_listed rows category) rows ≡ ids = cc in
        let few = picked_few rows orderly (is_listed rows category) in
        omega (arith, few, ap length same)

-- a page of these ids, as the rows mean it
abbrev page_in : List Row → ℕ → List ℕ → ListingPage
page_in rows page all = record { total = length all; items = filter_map (λ id. option_map (λ price. (id, price)) (listing_price rows id)) (page_of page all) }

-- prices that the index shows are those of the rows
same_page : (rows : List Row) (index : Listings) → ShowsListings rows index → (page : ℕ) (ids : List ℕ) → page_with index.prices page ids ≡ page_in rows page ids
same_page rows index shows page ids = λ i. record { total = length ids; items = filter_map (λ id. option_map (λ price. (id, price)) (shows.prices.each id i)) (page_of page ids) }

-- a page of the ids that stand at the category is what the rows mean there
pub shown_page : (rows : List Row) (index : Listings) (category page : ℕ) (ids : List ℕ) (shown : ListingPage) → value_at index.lists category ≡ Some ids → (length ids < 2 ^ 32 → shown ≡ page_with index.prices page ids) → AreOrderly rows → ShowsListings rows index → Some shown ≡ listing rows category page
shown_page rows index category page ids shown held is orderly shows =
    let lists : listed rows category ≡ Some ids = sym (shows.lists.each category) ∙ held in
    ap Some (is (listed_few rows orderly category ids lists) ∙ same_page rows index shows page ids)
    ∙ sym (ap (option_map (page_in rows page)) lists)
