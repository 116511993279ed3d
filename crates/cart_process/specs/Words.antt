-- What the rows of a cart say, in the words of its prices.
use Rattle.std.specs.Prelude.{ℕ, ℤ, pos, negsuc, Bool, true, false, ◌==◌, List, Option, Some, None, if◌then◌else◌, option_and_then, unwrap_or, codes}
use Rattle.std.specs.Option.{option_map_or}
use Rattle.std.specs.List.{list_any}
use Rattle.shop_defs.specs.declared.entity.Entity.TheVariants as E
use Rattle.shop_defs.specs.declared.row.Row.{Row}
use Rattle.shop_defs.specs.declared.words.FieldName.TheVariants as N
use Rattle.shop_chain.specs.Inheriting.{effective}
use Rattle.row_fields.specs.Fields.{number_of, int_in, int_at, id_at, is_text_at}
use Rattle.cart_price.specs.declared.priced.TaxState.{TaxState}
use Rattle.cart_price.specs.declared.priced.TaxState.TheVariants as S
use Rattle.cart_price.specs.declared.priced.TaxMode.{TaxMode}
use Rattle.cart_price.specs.declared.priced.TaxMode.TheVariants as M

-- which prices a cart has
abbrev pub state_of : Row → TaxState
state_of cart =
    if is_text_at cart (number_of E.Cart N.TaxState) (codes "net") then S.Net
    else if is_text_at cart (number_of E.Cart N.TaxState) (codes "free") then S.Free
    else S.Gross

-- how its tax is summed up
abbrev pub mode_of : Row → TaxMode
mode_of cart = if is_text_at cart (number_of E.Cart N.TaxMode) (codes "vertical") then M.Vertical else M.Horizontal

-- the number, where it is none below 0
abbrev pub natural : ℤ → Option ℕ
natural (pos n) = Some n
natural (negsuc n) = None

-- the amount or the count that a field holds
abbrev pub count_at : Row → ℕ → Option ℕ
count_at row field = option_and_then natural (int_at row field)

-- a number that is missing is 0
abbrev pub or_nothing : Option ℕ → ℕ
or_nothing number = unwrap_or number 0

-- the one that counts for a field of a product
abbrev pub effective_count : Row → Option Row → ℕ → Option ℕ
effective_count own parent field = option_and_then natural (option_and_then int_in (effective own parent field))

-- the field holds that id
abbrev pub names : Row → ℕ → ℕ → Bool
names row field id = option_map_or (λ held. held == id) (id_at row field) false

-- a rule that is given is among those that hold
abbrev pub meets_rule : List ℕ → Option ℕ → Bool
meets_rule rules rule = option_map_or (λ id. list_any (λ other. other == id) rules) rule true
