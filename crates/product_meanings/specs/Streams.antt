-- Which products are members of a stream.
use Rattle.std.specs.Prelude.{ℕ, ℤ, Bool, false, ◌&&◌, ◌||◌, List, filter, Option, codes, if◌then◌else◌}
use Rattle.std.specs.Fmt.{signed_decimal}
use Rattle.std.specs.Option.{option_map, option_map_or, option_and_then}
use Rattle.std.specs.Str.{bytes_eq}
use Rattle.shop_defs.specs.declared.entity.Entity.TheVariants as E
use Rattle.shop_defs.specs.declared.row.Row.{Row}
use Rattle.shop_defs.specs.declared.value.Value.{Value}
use Rattle.shop_defs.specs.declared.value.Value.TheVariants as V
use Rattle.shop_defs.specs.declared.words.FieldName.TheVariants as N
use Rattle.shop_defs.specs.Tables.{field_named}
use Rattle.shop_operations.specs.References.{is_id}
use Rattle.shop_requests.specs.Ids.{id_text}
use Rattle.shop_chain.specs.Inheriting.{effective}
use Rattle.row_fields.specs.Fields.{number_of, int_in, int_at, text_at, id_at, is_text_at, lies}
use Rattle.trees.specs.Holding.{tree_holds}
use Rattle.shop_meanings.specs.Live.{live_row, live_rows}
use Rattle.product_meanings.specs.Products.{parent_of, is_among, categories, picked}

-- a flag and a number as text
abbrev pub flag_text : Bool → List ℕ
flag_text flag = if flag then codes "true" else codes "false"

abbrev pub decimal_text : ℤ → List ℕ
decimal_text number = signed_decimal number

-- a value as text: numbers in decimal, flags as words, ids as 32 digits
abbrev pub value_text : Value → List ℕ
value_text (V.Flag flag) = flag_text flag
value_text (V.Int number) = decimal_text number
value_text (V.Text text) = text
value_text (V.Ident id) = id_text id

-- the number of the field of products that a filter names
abbrev pub field_of : Row → Option ℕ
field_of node = option_and_then (field_named E.Product) (text_at node (number_of E.StreamFilter N.Field))

-- what counts of a product, whose parent is given, in that field
abbrev pub looked_at : Row → Option Row → Row → Option Value
looked_at row parent node = option_and_then (effective row parent) (field_of node)

-- the value is there, and its text is the one that the filter gives
abbrev pub equals : Row → Option Row → Row → Bool
equals row parent node = option_map_or (λ text. option_map_or (λ value. bytes_eq (value_text value) text) (looked_at row parent node) false) (text_at node (number_of E.StreamFilter N.Value)) false

-- the filter names that field
abbrev pub names : Row → List ℕ → Bool
names node word = is_text_at node (number_of E.StreamFilter N.Field) word

-- it names a number that may lie in a range
abbrev pub names_number : Row → Bool
names_number node = names node (codes "gross") || names node (codes "net") || names node (codes "weight")

-- it does, the number is there, and it lies between the filter's bounds
abbrev pub is_in_range : Row → Option Row → Row → Bool
is_in_range row parent node = names_number node && option_map_or (lies (int_at node (number_of E.StreamFilter N.Low)) (int_at node (number_of E.StreamFilter N.High))) (option_and_then int_in (looked_at row parent node)) false

-- a category is given, and the product stands in it
abbrev pub is_in_category : List ℕ → Row → Bool
is_in_category stood_in node = option_map_or (is_among stood_in) (id_at node (number_of E.StreamFilter N.Category)) false

-- the filter is of that kind
abbrev pub is_kind : Row → List ℕ → Bool
is_kind node word = is_text_at node (number_of E.StreamFilter N.Kind) word

-- a product, with its parent and the categories that it stands in, passes the filter's test: none that isn't of these kinds
abbrev pub passes : Row → Option Row → List ℕ → Row → Bool
passes row parent stood_in node =
    if is_kind node (codes "equals") then equals row parent node
    else if is_kind node (codes "range") then is_in_range row parent node
    else is_kind node (codes "in_category") && is_in_category stood_in node

-- the filters of a stream
abbrev pub filters : List Row → ℕ → List Row
filters rows stream = filter (λ node. is_id (id_at node (number_of E.StreamFilter N.Stream)) stream) (live_rows rows E.StreamFilter)

-- the product passes the tree of these filters
abbrev pub is_passed : List Row → List Row → Row → Bool
is_passed rows nodes row = tree_holds (passes row (parent_of rows row) (categories rows row)) nodes

-- the product is a member of the stream
abbrev pub is_member : List Row → ℕ → Row → Bool
is_member rows stream row = is_passed rows (filters rows stream) row

-- the ids of a stream's members, ascending, of all live products: none where there is no such live stream
abbrev pub members : List Row → ℕ → Option (List ℕ)
members rows stream = option_map (λ _. picked (is_member rows stream) rows) (live_row rows E.Stream stream)
