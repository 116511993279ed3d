-- What rules look at of a cart with its prices.
use Rattle.std.specs.Prelude.{ℕ, List, [], ◌∷◌, Option, Some, None, unwrap_or}
use Rattle.std.specs.List.{flat_map}
use Rattle.std.specs.Option.{option_map, option_to_list}
use Rattle.shop_defs.specs.declared.entity.Entity.TheVariants as E
use Rattle.shop_defs.specs.declared.row.Row.{Row}
use Rattle.shop_defs.specs.declared.words.FieldName.TheVariants as N
use Rattle.row_fields.specs.Fields.{number_of, id_at, text_at}
use Rattle.cart_price.specs.Lent.{CartRows, LineRows}
use Rattle.cart_price.specs.declared.priced.PricedCart.{PricedCart}
use Rattle.shop_rules.specs.declared.facts.CartFacts.{CartFacts}

-- the product of a line and that product's parent, where the product is there
abbrev pub products_by : Option Row → Option Row → List ℕ
products_by None parent = []
products_by (Some product) parent = product.key.id ∷ option_to_list (option_map (λ row. row.key.id) parent)

abbrev pub products_of : LineRows → List ℕ
products_of line = products_by line.product line.parent

-- goods, pieces and weight are those of the cart with its prices
abbrev pub facts_by : PricedCart → List ℕ → List ℕ → List ℕ → ℕ → CartFacts
facts_by cart products group country method = record { goods = cart.goods; count = cart.count; weight = cart.weight; products = products; group = group; country = country; method = method }

-- the products are those of all lines, blocked or not, and the cart's row says the group, the country and the method: empty, or 0, where it doesn't
abbrev pub facts_of : CartRows → PricedCart → CartFacts
facts_of rows cart =
    facts_by cart
    (flat_map products_of rows.lines)
    (unwrap_or (text_at rows.cart (number_of E.Cart N.Group)) [])
    (unwrap_or (text_at rows.cart (number_of E.Cart N.Country)) [])
    (unwrap_or (id_at rows.cart (number_of E.Cart N.Method)) 0)
