-- The rows that name another are those of their entity that refer to it.
use Rattle.std.proofs.Common.{◌≡◌, ℕ, Bool, true, false, ◌&&◌, ◌||◌, ◌==◌, List, [], ◌∷◌, map, filter, Option, Some, None, if◌then◌else◌, refl, sym, ap, subst, ◌∙◌}
use Rattle.std.specs.declared.cmp.Ordering.TheVariants.{Less}
use Rattle.std.specs.Prelude.{option_and_then}
use Rattle.std.specs.List.{AllByRecursion, list_any, cons_option}
use Rattle.std.proofs.lemmas.Bool.{eqb-true, eq-eqb}
use Rattle.shop_defs.specs.declared.entity.Entity.{Entity}
use Rattle.shop_defs.specs.declared.entity.Entity.TheVariants as E
use Rattle.shop_defs.specs.declared.key.Key.{Key}
use Rattle.shop_defs.specs.declared.row.Row.{Row}
use Rattle.shop_defs.specs.declared.table.TheConstants.{REFERENCES}
use Rattle.shop_defs.specs.declared.value.Value.{Value}
use Rattle.shop_defs.specs.declared.value.Value.TheVariants as V
use Rattle.shop_defs.specs.declared.words.FieldName.{FieldName}
use Rattle.shop_defs.specs.declared.words.FieldName.TheVariants as N
use Rattle.shop_defs.specs.Entities.{entity_number}
use Rattle.shop_defs.specs.Keys.{key_cmp}
use Rattle.shop_defs.specs.References.{acts_on_delete}
use Rattle.shop_defs.specs.Rows.{row_at, row_key, field_of, IsInKeyOrder}
use Rattle.shop_defs.proofs.Keys.{key_cmp_total}
use Rattle.shop_operations.specs.References.{is_entity, is_id, is_live, live, ident, part_of, refers_at}
use Rattle.shop_rows.proofs.Same.{itself_equal}
use Rattle.row_fields.specs.Fields.{number_of, id_in, id_at}
use Rattle.cart_collect.specs.Collected.{is_any}
use Rattle.cart_collect.specs.Finding.{naming}
use Rattle.cart_collect.specs.Looking.{rows_at, referring_rows, has_any, is_referred}
use Rattle.cart_collect.proofs.FieldNumbers.{line_cart, code_cart, price_method, price_product, product_parent, discount_promotion}

-- ---- a row refers to what it names in its first field

or_false : (b : Bool) → (b || false) ≡ b
or_false true = refl
or_false false = refl

ident_is : (value : Option Value) → ident value ≡ option_and_then id_in value
ident_is None = refl
ident_is (Some (V.Flag flag)) = refl
ident_is (Some (V.Int number)) = refl
ident_is (Some (V.Text text)) = refl
ident_is (Some (V.Ident id)) = refl

-- the row refers, where its entity has that number
abbrev refers_as : ℕ → Row → ℕ → ℕ → Bool
refers_as n row of id = list_any (λ reference. acts_on_delete reference && ((entity_number reference.of == of) && is_id (if entity_number reference.entity == n then part_of reference.part row else None) id)) REFERENCES

-- a row of the entity refers to one of the other exactly where it names it in the field
abbrev Refers : Entity → FieldName → Entity → Type 0
Refers entity field of = (row : Row) (id : ℕ) → entity_number row.key.entity ≡ entity_number entity → refers_at REFERENCES row (entity_number of) id ≡ is_id (id_at row (number_of entity field)) id

refers_by : (entity of : Entity) (naming_field : FieldName) → number_of entity naming_field ≡ 1 → ((row : Row) (id : ℕ) → refers_as (entity_number entity) row (entity_number of) id ≡ is_id (ident (field_of row 1)) id) → Refers entity naming_field of
unfolding refers_at
refers_by entity of naming_field number same row id is =
    subst (λ (n : ℕ). refers_as n row (entity_number of) id ≡ is_id (ident (field_of row 1)) id) (sym is) (same row id)
    ∙ (ap (λ (o : Option ℕ). is_id o id) (ident_is (field_of row 1)) ∙ sym (ap (λ (n : ℕ). is_id (id_at row n) id) number))

lines_refer : Refers E.CartLine N.Cart E.Cart
lines_refer = refers_by E.CartLine E.Cart N.Cart line_cart (λ row id. or_false (is_id (ident (field_of row 1)) id))

codes_refer : Refers E.CartCode N.Cart E.Cart
codes_refer = refers_by E.CartCode E.Cart N.Cart code_cart (λ row id. or_false (is_id (ident (field_of row 1)) id))

prices_refer : Refers E.ProductPrice N.Product E.Product
prices_refer = refers_by E.ProductPrice E.Product N.Product price_product (λ row id. or_false (is_id (ident (field_of row 1)) id))

variants_refer : Refers E.Product N.Parent E.Product
variants_refer = refers_by E.Product E.Product N.Parent product_parent (λ row id. or_false (is_id (ident (field_of row 1)) id))

discounts_refer : Refers E.PromotionDiscount N.Promotion E.Promotion
discounts_refer = refers_by E.PromotionDiscount E.Promotion N.Promotion discount_promotion (λ row id. or_false (is_id (ident (field_of row 1)) id))

shipping_refers : Refers E.ShippingPrice N.Method E.ShippingMethod
shipping_refers = refers_by E.ShippingPrice E.ShippingMethod N.Method price_method (λ row id. or_false (is_id (ident (field_of row 1)) id))

-- ---- tests that are alike

same_bool : (a b : Bool) → (a ≡ true → b ≡ true) → (b ≡ true → a ≡ true) → a ≡ b
same_bool true b there back = sym (there refl)
same_bool false true there back = back refl
same_bool false false there back = refl

flip_eq : (a b : ℕ) → (a == b) ≡ (b == a)
flip_eq a b = same_bool (a == b) (b == a) (λ e. eq-eqb _ _ (sym (eqb-true _ _ e))) (λ e. eq-eqb _ _ (sym (eqb-true _ _ e)))

filter-same : (p q : Row → Bool) → ((row : Row) → p row ≡ q row) → (rows : List Row) → filter p rows ≡ filter q rows
filter-same p q same rows = ap (λ (test : Row → Bool). filter test rows) (λ i row. same row i)

filter-filter : (p q : Row → Bool) (rows : List Row) → filter p (filter q rows) ≡ filter (λ row. q row && p row) rows
filter-filter p q [] = refl
filter-filter p q (row ∷ rows) = by (filter-filter p q rows) (q row) (p row) refl refl
  where
    by : filter p (filter q rows) ≡ filter (λ other. q other && p other) rows → (b c : Bool) → q row ≡ b → p row ≡ c → filter p (filter q (row ∷ rows)) ≡ filter (λ other. q other && p other) (row ∷ rows)
    by more true true e f = rw (e, f) (ap (λ (others : List Row). row ∷ others) more)
    by more true false e f = rw (e, f) more
    by more false c e f = rw e more

-- ---- rows found again at their keys

-- a row below the keys is none of theirs
skipped : (row : Row) (rows : List Row) (keys : List Key) → AllByRecursion (λ key. key_cmp row.key key ≡ Less) keys → rows_at (row ∷ rows) keys ≡ rows_at rows keys
skipped row rows [] above = refl
skipped row rows (key ∷ keys) above = rw above.0 (ap (cons_option (row_at rows key)) (skipped row rows keys above.1))

part_above : (low : Key) (test : Row → Bool) (rows : List Row) → AllByRecursion (λ row. key_cmp low (row_key row) ≡ Less) rows → AllByRecursion (λ key. key_cmp low key ≡ Less) (map row_key (filter test rows))
part_above low test [] above = tt
part_above low test (row ∷ rows) above = by (part_above low test rows above.1) (test row) refl
  where
    by : AllByRecursion (λ key. key_cmp low key ≡ Less) (map row_key (filter test rows)) → (b : Bool) → test row ≡ b → AllByRecursion (λ key. key_cmp low key ≡ Less) (map row_key (filter test (row ∷ rows)))
    by more true e = rw e (above.0, more)
    by more false e = rw e more

found_again : (test : Row → Bool) (rows : List Row) → IsInKeyOrder rows → rows_at rows (map row_key (filter test rows)) ≡ filter test rows
found_again test [] up = refl
found_again test (row ∷ rows) up = by (found_again test rows up.1) (test row) refl
  where
    rest : rows_at (row ∷ rows) (map row_key (filter test rows)) ≡ rows_at rows (map row_key (filter test rows))
    rest = skipped row rows (map row_key (filter test rows)) (part_above row.key test rows up.0)

    by : rows_at rows (map row_key (filter test rows)) ≡ filter test rows → (b : Bool) → test row ≡ b → rows_at (row ∷ rows) (map row_key (filter test (row ∷ rows))) ≡ filter test (row ∷ rows)
    by more true e = rw (e, itself_equal key_cmp key_cmp_total row.key) (ap (λ (others : List Row). row ∷ others) (rest ∙ more))
    by more false e = rw e (rest ∙ more)

any_key : (rows : List Row) → has_any (map row_key rows) ≡ is_any rows
any_key [] = refl
any_key (row ∷ rows) = refl

module _ (entity of : Entity) (field : FieldName) (refer : Refers entity field of) where
  abbrev is_one : Row → Bool
  is_one row = is_entity row.key.entity entity

  same_test : (row : Row) (id : ℕ) → (is_entity entity row.key.entity && refers_at REFERENCES row (entity_number of) id) ≡ (is_one row && is_id (id_at row (number_of entity field)) id)
  same_test row id = ap (λ (b : Bool). b && refers_at REFERENCES row (entity_number of) id) (flip_eq (entity_number entity) (entity_number row.key.entity)) ∙ by (is_one row) refl
    where
      by : (b : Bool) → is_one row ≡ b → (is_one row && refers_at REFERENCES row (entity_number of) id) ≡ (is_one row && is_id (id_at row (number_of entity field)) id)
      by true e = rw e (refer row id (eqb-true (entity_number row.key.entity) (entity_number entity) e))
      by false e = rw e refl

  -- the rows of the entity that refer are those that name
  same_rows : (rows : List Row) (id : ℕ) → filter (λ row. is_entity entity row.key.entity && refers_at REFERENCES row (entity_number of) id) (live rows) ≡ naming rows entity field id
  same_rows rows id = filter-same (λ row. is_entity entity row.key.entity && refers_at REFERENCES row (entity_number of) id) (λ row. is_one row && is_id (id_at row (number_of entity field)) id) (λ row. same_test row id) (live rows)

  naming_found : (rows : List Row) (id : ℕ) → IsInKeyOrder rows → referring_rows rows entity of id ≡ naming rows entity field id
  naming_found rows id up =
      let refers : Row → Bool = λ row. is_entity entity row.key.entity && refers_at REFERENCES row (entity_number of) id in
      ap (λ (some : List Row). rows_at rows (map row_key some)) (filter-filter refers is_live rows)
      ∙ (found_again (λ row. is_live row && refers row) rows up
      ∙ (sym (filter-filter refers is_live rows) ∙ same_rows rows id))

  naming_any : (rows : List Row) (id : ℕ) → is_referred rows entity of id ≡ is_any (naming rows entity field id)
  naming_any rows id =
      any_key (filter (λ row. is_entity entity row.key.entity && refers_at REFERENCES row (entity_number of) id) (live rows))
      ∙ ap is_any (same_rows rows id)

-- ---- the rows that a cart needs

pub lines_found : (rows : List Row) (cart : ℕ) → IsInKeyOrder rows → referring_rows rows E.CartLine E.Cart cart ≡ naming rows E.CartLine N.Cart cart
lines_found = naming_found E.CartLine E.Cart N.Cart lines_refer

pub codes_found : (rows : List Row) (cart : ℕ) → IsInKeyOrder rows → referring_rows rows E.CartCode E.Cart cart ≡ naming rows E.CartCode N.Cart cart
codes_found = naming_found E.CartCode E.Cart N.Cart codes_refer

pub prices_found : (rows : List Row) (product : ℕ) → IsInKeyOrder rows → referring_rows rows E.ProductPrice E.Product product ≡ naming rows E.ProductPrice N.Product product
prices_found = naming_found E.ProductPrice E.Product N.Product prices_refer

pub variants_found : (rows : List Row) (product : ℕ) → is_referred rows E.Product E.Product product ≡ is_any (naming rows E.Product N.Parent product)
variants_found = naming_any E.Product E.Product N.Parent variants_refer

pub discounts_found : (rows : List Row) (promotion : ℕ) → IsInKeyOrder rows → referring_rows rows E.PromotionDiscount E.Promotion promotion ≡ naming rows E.PromotionDiscount N.Promotion promotion
discounts_found = naming_found E.PromotionDiscount E.Promotion N.Promotion discounts_refer

pub shipping_found : (rows : List Row) (method : ℕ) → IsInKeyOrder rows → referring_rows rows E.ShippingPrice E.ShippingMethod method ≡ naming rows E.ShippingPrice N.Method method
shipping_found = naming_found E.ShippingPrice E.ShippingMethod N.Method shipping_refers

pub ruleset found = (lines_found, codes_found, prices_found, variants_found, discounts_found, shipping_found)
