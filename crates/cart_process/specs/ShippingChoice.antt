-- Which price of a delivery is taken, in words.
use Rattle.std.specs.Prelude.{◌≡◌, ◌⊎◌, ℕ, Bool, true, false, ◌&&◌, List, ◌∷◌, ◌++◌, Option, Some, None}
use Rattle.std.specs.List.{AllByRecursion}
use Rattle.shop_defs.specs.declared.row.Row.{Row}
use Rattle.cart_process.specs.declared.deliveries.Measures.{Measures}
use Rattle.cart_process.specs.Deliveries.{is_usable, is_for, has_no_rule, is_lower, low_of}

-- The row passes the test, and no other that does is from a higher bound on; of those from the same bound on it is the first.
pub record IsFirstHighest (test : Row → Bool) (prices : List Row) (row : Row) : Type 0 where
  pub before : List Row
  pub after : List Row
  pub place : prices ≡ before ++ row ∷ after
  pub passes : test row ≡ true
  pub lower_before : AllByRecursion (λ other. test other ≡ true → is_lower (low_of other) (low_of row) ≡ true) before
  pub none_higher : AllByRecursion (λ other. test other ≡ true → is_lower (low_of row) (low_of other) ≡ false) after

-- that row, and none where none passes the test
abbrev pub IsTakenOf : (Row → Bool) → List Row → Option Row → Type 0
IsTakenOf test prices None = AllByRecursion (λ other. test other ≡ false) prices
IsTakenOf test prices (Some row) = IsFirstHighest test prices row

-- the price may be used, and is for the rule
abbrev pub is_usable_for : List ℕ → Measures → ℕ → Row → Bool
is_usable_for rules measures rule row = is_usable rules measures row && is_for rule row

-- the price may be used, and is for no rule
abbrev pub is_usable_by_all : List ℕ → Measures → Row → Bool
is_usable_by_all rules measures row = is_usable rules measures row && has_no_rule row

-- no price that may be used is for the rule
abbrev pub HasNoPrice : List ℕ → Measures → List Row → ℕ → Type 0
HasNoPrice rules measures prices rule = AllByRecursion (λ row. is_usable_for rules measures rule row ≡ false) prices

-- of the rules that hold it is the first that has a price that may be used, which is taken
pub record IsByRule (rules : List ℕ) (measures : Measures) (prices : List Row) (taken : Option Row) : Type 0 where
  pub rule : ℕ
  pub before : List ℕ
  pub after : List ℕ
  pub place : rules ≡ before ++ rule ∷ after
  pub none_before : AllByRecursion (HasNoPrice rules measures prices) before
  pub row : Row
  pub is : taken ≡ Some row
  pub of_rule : IsFirstHighest (is_usable_for rules measures rule) prices row

-- The price of the first rule that holds and has one that may be used; and where none has, one for no rule.
abbrev pub IsShippingChoice : List ℕ → Measures → List Row → Option Row → Type 0
IsShippingChoice rules measures prices taken =
    IsByRule rules measures prices taken
    ⊎ (AllByRecursion (HasNoPrice rules measures prices) rules × IsTakenOf (is_usable_by_all rules measures) prices taken)
