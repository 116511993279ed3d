-- What holds of the meanings, in rows as a shop has them.
use Rattle.std.specs.Prelude.{◌≡◌, ℕ, ◌≤◌, ◌≤ℤ◌, Bool, false, List, [], ◌∷◌, Some, None, Ok, Err}
use Rattle.std.specs.List.{AllByRecursion}
use Rattle.std.specs.Option.{option_map_or}
use Rattle.std.specs.Ordering.{nat_cmp}
use Rattle.closure.specs.Closure.{IsIn}
use Rattle.keyed.specs.Keyed.{Ascends}
use Rattle.shop_defs.specs.declared.broken.Broken.TheVariants.{NoSuchRow}
use Rattle.shop_defs.specs.declared.row.Row.{Row}
use Rattle.shop_defs.specs.Rows.{row_at}
use Rattle.shop_requests.specs.declared.query.Query.{Query}
use Rattle.shop_meanings.specs.Live.{AreOrderly}
use Rattle.product_meanings.specs.Products.{product, is_among, picked}
use Rattle.product_meanings.specs.Listings.{Offer, price_of}
use Rattle.product_meanings.specs.Direct.{Told, asked_key, direct}

-- the ids of the products that pass a test
pub record ArePicked (test : Row → Bool) (rows : List Row) : Type 0 where
  -- ascend
  pub ascend : Ascends nat_cmp (λ id. id) (picked test rows)
  -- and one is among them just where its live product passes
  pub has : (id : ℕ) → is_among (picked test rows) id ≡ option_map_or test (product rows id) false

abbrev pub PickedOfAll : Type 0
PickedOfAll = (rows : List Row) → AreOrderly rows → (test : Row → Bool) → ArePicked test rows

-- an offer is the least of all: it is one of them, none is below it, and of those at its price it is the one with the least id
pub record IsCheapest (all : List Offer) (offer : Offer) : Type 0 where
  pub is_in : IsIn offer all
  pub least : AllByRecursion (λ other. offer.1 ≤ℤ other.1) all
  pub first : Ascends nat_cmp (λ other. other.0) all → AllByRecursion (λ other. other.1 ≡ offer.1 → offer.0 ≤ other.0) all

-- the greatest: it is one of them, and none is above it
pub record IsDearest (all : List Offer) (offer : Offer) : Type 0 where
  pub is_in : IsIn offer all
  pub greatest : AllByRecursion (λ other. other.1 ≤ℤ offer.1) all

-- what offers come to: of none nothing; else the price of a cheapest and of a dearest, and which is the cheapest
pub record PriceIsOfOffers (all : List Offer) : Type 0 where
  pub none : all ≡ [] → price_of all ≡ record { min = None; max = None; cheapest = None; count = 0 }
  pub cheapest : (first : Offer) (rest : List Offer) → all ≡ first ∷ rest → record { offer : Offer; is : IsCheapest all offer; min : (price_of all).min ≡ Some offer.1; id : (price_of all).cheapest ≡ Some offer.0 }
  pub dearest : (first : Offer) (rest : List Offer) → all ≡ first ∷ rest → record { offer : Offer; is : IsDearest all offer; max : (price_of all).max ≡ Some offer.1 }

abbrev pub PricesOfAll : Type 0
PricesOfAll = (all : List Offer) → PriceIsOfOffers all

-- a question is answered just where the live row that it names is there
pub record AnswersAreOfRows (rows : List Row) : Type 0 where
  pub there : (query : Query) (row : Row) → row_at rows (asked_key query) ≡ Some row → record { told : Told; is : direct rows query ≡ Ok told }
  pub missing : (query : Query) → row_at rows (asked_key query) ≡ None → direct rows query ≡ Err (NoSuchRow (asked_key query))

abbrev pub AnswersOfAllAreOfRows : Type 0
AnswersOfAllAreOfRows = (rows : List Row) → AnswersAreOfRows rows
