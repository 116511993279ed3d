-- The price of one piece of a line.
use Rattle.std.specs.Prelude.{ℕ, pos, Bool, nat_lt, List, [], ◌∷◌, filter, Option, Some, None, if◌then◌else◌}
use Rattle.std.specs.List.{fold, list_any}
use Rattle.shop_defs.specs.declared.entity.Entity.TheVariants as E
use Rattle.shop_defs.specs.declared.row.Row.{Row}
use Rattle.shop_defs.specs.declared.words.FieldName.TheVariants as N
use Rattle.row_fields.specs.Fields.{number_of, int_at, lies}
use Rattle.cart_price.specs.declared.priced.TaxState.{TaxState}
use Rattle.cart_price.specs.declared.priced.TaxState.TheVariants as S
use Rattle.cart_price.specs.Lent.{LineRows}
use Rattle.cart_process.specs.Words.{count_at, effective_count, names, or_nothing}

-- the price row is for carts that meet the rule
abbrev pub is_for : ℕ → Row → Bool
is_for rule row = names row (number_of E.ProductPrice N.Rule) rule

-- it is for so many pieces
abbrev pub takes : ℕ → Row → Bool
takes quantity row = lies (int_at row (number_of E.ProductPrice N.Low)) (int_at row (number_of E.ProductPrice N.High)) (pos quantity)

-- the price rows of the first of the rules that has any
abbrev pub of_first : List ℕ → List Row → List Row
of_first [] prices = []
of_first (rule ∷ rules) prices = if list_any (is_for rule) prices then filter (is_for rule) prices else of_first rules prices

-- from how many pieces on the price row is
abbrev pub low_of : Row → ℕ
low_of row = or_nothing (count_at row (number_of E.ProductPrice N.Low))

-- of two rows, the one from more pieces on, and of equal ones the earlier
abbrev pub higher : Option Row → Row → Row
higher None row = row
higher (Some best) row = if nat_lt (low_of best) (low_of row) then row else best

-- the row from the most pieces on
abbrev pub highest : List Row → Option Row
highest rows = fold (λ best row. Some (higher best row)) None rows

-- the price row that decides, if one does
abbrev pub deciding : List ℕ → ℕ → List Row → Option Row
deciding rules quantity prices = highest (filter (takes quantity) (of_first rules prices))

-- the price in a price row
abbrev pub price_in : TaxState → Row → Option ℕ
price_in S.Gross row = count_at row (number_of E.ProductPrice N.Gross)
price_in state row = count_at row (number_of E.ProductPrice N.Net)

-- the price that counts for the product where no price row decides
abbrev pub own_price : TaxState → Row → Option Row → Option ℕ
own_price S.Gross product parent = effective_count product parent (number_of E.Product N.Gross)
own_price state product parent = effective_count product parent (number_of E.Product N.Net)

-- the price of one piece by the price row that decides, if one does
abbrev pub unit_by : TaxState → Row → Option Row → Option Row → Option ℕ
unit_by state product parent (Some row) = price_in state row
unit_by state product parent None = own_price state product parent

-- the price of one piece
abbrev pub unit_of : TaxState → List ℕ → LineRows → Row → ℕ → Option ℕ
unit_of state rules line product quantity = unit_by state product line.parent (deciding rules quantity line.prices)
