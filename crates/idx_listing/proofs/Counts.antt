-- How many are offered fits the number of a price.
use Rattle.std.proofs.Common.{◌≡◌, ℕ, suc, ◌<◌, ◌≤◌, ◌&&◌, ◌^◌, List, [], ◌∷◌, map, filter, length, Option, Some, None, refl, ap, ◌∙◌, arith}
use Rattle.std.specs.Prelude.{count_by}
use Rattle.std.specs.List.{filter_map, cons_option}
use Rattle.std.specs.Option.{option_map}
use Rattle.std.proofs.lemmas.Bool.{and_parts}
use Rattle.std.proofs.lemmas.List.Sums.{length-filter}
use Rattle.shop_defs.specs.declared.entity.Entity.TheVariants as E
use Rattle.shop_defs.specs.declared.row.Row.{Row}
use Rattle.shop_defs.specs.declared.table.TheConstants.{REFERENCES, MOST_ROWS}
use Rattle.shop_operations.specs.Parents.{parent_id}
use Rattle.shop_operations.specs.References.{is_entity, is_id, live, of_version}
use Rattle.shop_soundness.proofs.Lists.{count_under}
use Rattle.shop_meanings.specs.Live.{AreOrderly}
use Rattle.product_meanings.specs.Products.{product, variant_ids, or_else}
use Rattle.product_meanings.specs.Listings.{offer, sold_for, offers, price_of, listing_price}

map_length : {X Y : Type 0} (f : X → Y) (xs : List X) → length (map f xs) ≡ length xs
map_length f [] = refl
map_length f (x ∷ xs) = ap suc (map_length f xs)

filter_map_length : {X Y : Type 0} (f : X → Option Y) (xs : List X) → length (filter_map f xs) ≤ length xs
filter_map_length f [] = omega arith
filter_map_length {X} {Y} f (x ∷ xs) = by (f x) (filter_map_length f xs)
  where
    by : (o : Option Y) → length (filter_map f xs) ≤ length xs → length (cons_option o (filter_map f xs)) ≤ length (x ∷ xs)
    by None l = omega (arith, l)
    by (Some y) l = omega (arith, l)

few : (rows : List Row) → AreOrderly rows → (id : ℕ) → length (variant_ids rows id) ≤ MOST_ROWS
few rows orderly id =
    let all = orderly.coherent.bounded E.Product in
    let same : length (variant_ids rows id) ≡ count_by (λ row. is_entity E.Product row.key.entity && is_id (parent_id REFERENCES row) id) (of_version 0 rows) = map_length (λ (row : Row). row.key.id) (filter (λ row. is_entity E.Product row.key.entity && is_id (parent_id REFERENCES row) id) (of_version 0 rows)) ∙ length-filter (λ row. is_entity E.Product row.key.entity && is_id (parent_id REFERENCES row) id) (of_version 0 rows) in
    let some = count_under (λ row. is_entity E.Product row.key.entity && is_id (parent_id REFERENCES row) id) (λ row. is_entity E.Product row.key.entity) (live rows) (λ row i p. (and_parts (is_entity E.Product row.key.entity) (is_id (parent_id REFERENCES row) id) p).0) in
    omega (arith, same, some, all)

sold_few : (kids : List ℕ) (id : ℕ) → length kids ≤ MOST_ROWS → length (or_else kids (id ∷ [])) ≤ MOST_ROWS
sold_few [] id l = omega arith
sold_few (kid ∷ kids) id l = l

-- what is offered for a product is few enough
pub offers_few : (rows : List Row) → AreOrderly rows → (id : ℕ) → length (offers rows id) < 2 ^ 32
offers_few rows orderly id =
    let sold = sold_few (variant_ids rows id) id (few rows orderly id) in
    let fewer = filter_map_length (offer rows) (sold_for rows id) in
    omega (arith, sold, fewer)

-- a product that isn't there has no price
pub price_none : (rows : List Row) (id : ℕ) → product rows id ≡ None → listing_price rows id ≡ None
price_none rows id e = ap (option_map (λ (row : Row). price_of (offers rows id))) e
