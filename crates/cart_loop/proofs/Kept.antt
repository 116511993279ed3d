-- What is collected of checked rows is what a round asks for.
use Rattle.std.proofs.Common.{◌≡◌, ℕ, suc, ◌≤◌, ◌&&◌, Bool, true, false, List, [], ◌∷◌, map, filter, length, Option, Some, None, refl, sym, ap, subst, ◌∙◌, arith}
use Rattle.std.specs.List.{AllByRecursion}
use Rattle.std.specs.Ordering.{is_eq}
use Rattle.std.specs.Prelude.{option_and_then}
use Rattle.std.proofs.lemmas.Bool.{eqb-true}
use Rattle.shop_defs.specs.declared.entity.Entity.{Entity}
use Rattle.shop_defs.specs.declared.entity.Entity.TheVariants as E
use Rattle.shop_defs.specs.declared.key.Key.{Key}
use Rattle.shop_defs.specs.declared.row.Row.{Row}
use Rattle.shop_defs.specs.declared.words.FieldName.{FieldName}
use Rattle.shop_defs.specs.declared.words.FieldName.TheVariants as N
use Rattle.shop_defs.specs.Entities.{entity_number}
use Rattle.shop_defs.specs.Keys.{key_cmp}
use Rattle.shop_defs.specs.Rows.{row_at}
use Rattle.shop_operations.specs.References.{is_entity, is_id, is_live}
use Rattle.shop_defs.proofs.EachLine.{same_entity}
use Rattle.shop_rows.proofs.Same.{is_equal, key_is}
use Rattle.row_fields.specs.Checked.{IsRowOf}
use Rattle.row_fields.specs.Fields.{number_of, id_at}
use Rattle.cart_price.specs.Lent.{CartRows, LineRows}
use Rattle.cart_process.specs.Kept.{IsRowIfAny, IsLineKept, IsCartKept}
use Rattle.cart_collect.specs.Ranks.{in_order, line_rank}
use Rattle.cart_collect.specs.Finding.{live_key, live_at, naming}
use Rattle.cart_collect.specs.Collected.{own_prices, or_parents, tax_id, with_product, by_product, line_of, lines_of, languages_of, shipping_of, with_method, cart_data, collected}
use Rattle.cart_collect.proofs.Ranked.{all-order, all-filter, length-order}
use Rattle.cart_loop.specs.Checked.{AreCartRows}

-- ---- rows that are found

abbrev IsChecked : Row → Type 0
IsChecked row = IsRowOf row.key.entity row

of_entity : (entity : Entity) (row : Row) → IsChecked row → row.key.entity ≡ entity → IsRowOf entity row
of_entity entity row kept is = record { of = is; fits = kept.fits; needed = kept.needed }

found_is : (rows : List Row) (key : Key) (row : Row) → AllByRecursion IsChecked rows → row_at rows key ≡ Some row → IsRowOf key.entity row
found_is [] key row all e = absurd (cc)
found_is (first ∷ rows) key row all e = by (found_is rows key row all.1) (is_eq (key_cmp first.key key)) refl
  where
    by : (row_at rows key ≡ Some row → IsRowOf key.entity row) → (b : Bool) → is_eq (key_cmp first.key key) ≡ b → IsRowOf key.entity row
    by more true f =
        let e2 : Some first ≡ Some row = rw f at e in
        let same : first ≡ row = cc in
        subst (λ (r : Row). IsRowOf key.entity r) same (of_entity key.entity first all.0 (ap (λ (k : Key). k.entity) (key_is first.key key (is_equal _ f))))
    by more false f = let e2 : row_at rows key ≡ Some row = rw f at e in more e2

if_any : (entity : Entity) (found : Option Row) → ((row : Row) → found ≡ Some row → IsRowOf entity row) → IsRowIfAny entity found
if_any entity None all = tt
if_any entity (Some row) all = all row refl

live_kept : (rows : List Row) (entity : Entity) (id : Option ℕ) → AllByRecursion IsChecked rows → IsRowIfAny entity (live_at rows entity id)
live_kept rows entity None all = tt
live_kept rows entity (Some id) all = if_any entity (row_at rows (live_key entity id)) (λ row e. found_is rows (live_key entity id) row all e)

all_of : (entity : Entity) (test : Row → Bool) (rows : List Row) → AllByRecursion IsChecked rows → AllByRecursion (IsRowOf entity) (filter (λ row. is_entity row.key.entity entity && test row) rows)
all_of entity test [] all = tt
all_of entity test (row ∷ rows) all = by (all_of entity test rows all.1) (is_entity row.key.entity entity) (test row) refl refl
  where
    by : AllByRecursion (IsRowOf entity) (filter (λ other. is_entity other.key.entity entity && test other) rows) → (b c : Bool) → is_entity row.key.entity entity ≡ b → test row ≡ c
        → AllByRecursion (IsRowOf entity) (filter (λ other. is_entity other.key.entity entity && test other) (row ∷ rows))
    by more true true e f = rw (e, f) (of_entity entity row all.0 (same_entity row.key.entity entity (eqb-true (entity_number row.key.entity) (entity_number entity) e)), more)
    by more true false e f = rw (e, f) more
    by more false c e f = rw e more

naming_kept : (rows : List Row) (entity : Entity) (field : FieldName) (id : ℕ) → AllByRecursion IsChecked rows → AllByRecursion (IsRowOf entity) (naming rows entity field id)
naming_kept rows entity field id all = all_of entity (λ row. is_id (id_at row (number_of entity field)) id) (filter is_live rows) (all-filter IsChecked is_live rows all)

-- ---- a line

prices_kept : (rows : List Row) (parent : Option Row) (own : List Row) → AllByRecursion IsChecked rows → AllByRecursion (IsRowOf E.ProductPrice) own → AllByRecursion (IsRowOf E.ProductPrice) (or_parents rows parent own)
prices_kept rows parent (price ∷ prices) all own = own
prices_kept rows None [] all own = tt
prices_kept rows (Some parent) [] all own = naming_kept rows E.ProductPrice N.Product parent.key.id all

line_kept : (rows : List Row) (languages : List ℕ) (line : Row) → AllByRecursion IsChecked rows → IsRowOf E.CartLine line → IsLineKept (line_of rows languages line)
line_kept rows languages line all kept = by (live_at rows E.Product (id_at line (number_of E.CartLine N.Product))) (live_kept rows E.Product (id_at line (number_of E.CartLine N.Product)) all)
  where
    by : (product : Option Row) → IsRowIfAny E.Product product → IsLineKept (by_product rows languages line product)
    by None is = record { line = kept; product = tt; parent = tt; prices = tt; tax = tt }
    by (Some product) is =
        let parent = live_at rows E.Product (id_at product (number_of E.Product N.Parent)) in
        record {
          line = kept;
          product = is;
          parent = live_kept rows E.Product (id_at product (number_of E.Product N.Parent)) all;
          prices = prices_kept rows parent (own_prices rows product) all (naming_kept rows E.ProductPrice N.Product product.key.id all);
          tax = live_kept rows E.Tax (tax_id product parent) all;
        }

lines_kept : (rows : List Row) (languages : List ℕ) (lines : List Row) → AllByRecursion IsChecked rows → AllByRecursion (IsRowOf E.CartLine) lines → AllByRecursion IsLineKept (map (line_of rows languages) lines)
lines_kept rows languages [] all kept = tt
lines_kept rows languages (line ∷ lines) all kept = (line_kept rows languages line all kept.0, lines_kept rows languages lines all kept.1)

-- ---- there are as many lines

length-lines : (rows : List Row) (languages : List ℕ) (lines : List Row) → length (map (line_of rows languages) lines) ≡ length lines
length-lines rows languages [] = refl
length-lines rows languages (line ∷ lines) = ap suc (length-lines rows languages lines)

-- ---- the cart

shipping_kept : (rows : List Row) (method : Option Row) → AllByRecursion IsChecked rows → AllByRecursion (IsRowOf E.ShippingPrice) (shipping_of rows method)
shipping_kept rows None all = tt
shipping_kept rows (Some method) all = naming_kept rows E.ShippingPrice N.Method method.key.id all

data_kept : (rows : List Row) (cart : Row) → AreCartRows rows → IsRowOf E.Cart cart → IsCartKept (cart_data rows cart)
data_kept rows cart checked kept =
    let all = checked.each in
    let lines = naming rows E.CartLine N.Cart cart.key.id in
    let method = live_at rows E.ShippingMethod (id_at cart (number_of E.Cart N.Method)) in
    record {
      cart = kept;
      few = omega (arith, checked.few cart.key.id, length-order line_rank lines, length-lines rows (languages_of rows cart) (in_order line_rank lines));
      lines = lines_kept rows (languages_of rows cart) (in_order line_rank lines) all (all-order line_rank (λ row. refl) (IsRowOf E.CartLine) lines (naming_kept rows E.CartLine N.Cart cart.key.id all));
      method_tax = live_kept rows E.Tax (option_and_then (λ row. id_at row (number_of E.ShippingMethod N.Tax)) method) all;
      shipping = shipping_kept rows method all;
    }

pub collected_kept : (rows : List Row) (cart : ℕ) (lent : CartRows) → AreCartRows rows → collected rows cart ≡ Some lent → IsCartKept lent
collected_kept rows cart lent checked e = by (row_at rows (live_key E.Cart cart)) refl
  where
    by : (found : Option Row) → row_at rows (live_key E.Cart cart) ≡ found → IsCartKept lent
    by None f = let e2 : None ≡ Some lent = rw f at e in absurd (cc)
    by (Some row) f =
        let e2 : Some (cart_data rows row) ≡ Some lent = rw f at e in
        let same : cart_data rows row ≡ lent = cc in
        subst IsCartKept same (data_kept rows row checked (found_is rows (live_key E.Cart cart) row checked.each f))
