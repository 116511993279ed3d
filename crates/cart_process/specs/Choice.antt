-- Which price row decides, in words.
use Rattle.std.specs.Prelude.{◌≡◌, ◌⊎◌, ℕ, ◌≤◌, Bool, true, false, List, ◌∷◌, ◌++◌, Option, Some, None}
use Rattle.std.specs.List.{AllByRecursion, list_any}
use Rattle.closure.specs.Closure.{IsIn}
use Rattle.shop_defs.specs.declared.row.Row.{Row}
use Rattle.cart_process.specs.Units.{is_for, takes, low_of}

-- the rule has a price row
abbrev pub has_row : List Row → ℕ → Bool
has_row prices rule = list_any (is_for rule) prices

-- the rule is the first of these that has one
pub record IsFirstWithRow (rules : List ℕ) (prices : List Row) (rule : ℕ) : Type 0 where
  pub before : List ℕ
  pub after : List ℕ
  pub place : rules ≡ before ++ rule ∷ after
  pub none_before : AllByRecursion (λ earlier. has_row prices earlier ≡ false) before
  pub has : has_row prices rule ≡ true

-- the row is one of that rule's for so many pieces, and no other of these is from more pieces on
pub record IsHighest (rule quantity : ℕ) (prices : List Row) (row : Row) : Type 0 where
  pub among : IsIn row prices
  pub of_rule : is_for rule row ≡ true
  pub fits : takes quantity row ≡ true
  pub most : AllByRecursion (λ other. is_for rule other ≡ true → takes quantity other ≡ true → low_of other ≤ low_of row) prices

-- of that rule's rows for so many pieces the one from the most pieces on decides, and none where there are no such rows
abbrev pub IsChosenBy : ℕ → ℕ → List Row → Option Row → Type 0
IsChosenBy rule quantity prices None = AllByRecursion (λ other. is_for rule other ≡ true → takes quantity other ≡ false) prices
IsChosenBy rule quantity prices (Some row) = IsHighest rule quantity prices row

-- no rule that holds has a price row, and none decides; or the first that has one says which
abbrev pub IsChoice : List ℕ → ℕ → List Row → Option Row → Type 0
IsChoice rules quantity prices chosen =
    (AllByRecursion (λ rule. has_row prices rule ≡ false) rules × (chosen ≡ None))
    ⊎ ((rule : ℕ) × (IsFirstWithRow rules prices rule × IsChosenBy rule quantity prices chosen))
