-- The rows that are found by what they refer to are those that the definitions name.
use Rattle.std.proofs.Common.{◌≡◌, ℕ, Bool, true, false, ◌&&◌, ◌||◌, ◌==◌, List, [], ◌∷◌, map, filter, length, Option, Some, None, if◌then◌else◌, refl, sym, ap, subst, ◌∙◌, true≢false, arith}
use Rattle.std.specs.List.{list_any}
use Rattle.std.proofs.lemmas.Bool.{eqb-true, eq-eqb, and_from}
use Rattle.closure.specs.Closure.{IsIn}
use Rattle.closure.proofs.Members.{any_is, in_filter, in_map}
use Rattle.shop_defs.specs.declared.entity.Entity.{Entity}
use Rattle.shop_defs.specs.declared.entity.Entity.TheVariants as E
use Rattle.shop_defs.specs.declared.key.Key.{Key}
use Rattle.shop_defs.specs.declared.row.Row.{Row}
use Rattle.shop_defs.specs.declared.table.TheConstants.{REFERENCES}
use Rattle.shop_defs.specs.Entities.{entity_number}
use Rattle.shop_defs.specs.References.{acts_on_delete}
use Rattle.shop_defs.specs.Rows.{row_key}
use Rattle.shop_operations.specs.References.{is_entity, is_id, part_of, of_version, refers_at}
use Rattle.shop_rows.specs.Lookups.{referrers_by, keys_of}
use Rattle.shop_rows.proofs.Lists.{filter-filter}
use Rattle.shop_meanings.specs.Live.{live_key, live_row}
use Rattle.shop_meanings.proofs.Found.{stands_under}
use Rattle.product_meanings.specs.Products.{own_links, or_else}
use Rattle.product_rows.specs.Affecting.{linked_to}

or_false : (b : Bool) → (b || false) ≡ b
or_false true = refl
or_false false = refl

-- ---- a link refers to its product and to its category

refers_product : (row : Row) (id : ℕ) → entity_number row.key.entity ≡ entity_number E.ProductCategory → refers_at REFERENCES row (entity_number E.Product) id ≡ (row.key.id == id)
unfolding refers_at
refers_product row id is =
    subst (λ (n : ℕ). list_any (λ reference. acts_on_delete reference && ((entity_number reference.of == entity_number E.Product) && is_id (if entity_number reference.entity == n then part_of reference.part row else None) id)) REFERENCES ≡ (row.key.id == id))
    (sym is) (or_false (row.key.id == id))

refers_category : (row : Row) (id : ℕ) → entity_number row.key.entity ≡ entity_number E.ProductCategory → refers_at REFERENCES row (entity_number E.Category) id ≡ (row.key.second == id)
unfolding refers_at
refers_category row id is =
    subst (λ (n : ℕ). list_any (λ reference. acts_on_delete reference && ((entity_number reference.of == entity_number E.Category) && is_id (if entity_number reference.entity == n then part_of reference.part row else None) id)) REFERENCES ≡ (row.key.second == id))
    (sym is) (or_false (row.key.second == id))

-- two tests, of which the second is another where the first holds
pub tests_alike : (v e r l : Bool) → (e ≡ true → r ≡ l) → (v && (e && r)) ≡ ((v && e) && l)
tests_alike true true r l same = same refl
tests_alike true false r l same = refl
tests_alike false e r l same = refl

pub filter-same : (p q : Row → Bool) → ((row : Row) → p row ≡ q row) → (rows : List Row) → filter p rows ≡ filter q rows
filter-same p q same rows = ap (λ (test : Row → Bool). filter test rows) (λ i row. same row i)

seconds_by_keys : (rows : List Row) → map (λ (key : Key). key.second) (map row_key rows) ≡ map (λ (row : Row). row.key.second) rows
seconds_by_keys [] = refl
seconds_by_keys (row ∷ rows) = ap (λ (ids : List ℕ). row.key.second ∷ ids) (seconds_by_keys rows)

ids_by_keys : (rows : List Row) → map (λ (key : Key). key.id) (map row_key rows) ≡ map (λ (row : Row). row.key.id) rows
ids_by_keys [] = refl
ids_by_keys (row ∷ rows) = ap (λ (ids : List ℕ). row.key.id ∷ ids) (ids_by_keys rows)

-- the live rows of an entity that refer to another are those of the entity that pass the test
pub referring : (rows : List Row) (entity of : Entity) (id : ℕ) (test : Row → Bool) → ((row : Row) → entity_number entity ≡ entity_number row.key.entity → refers_at REFERENCES row (entity_number of) id ≡ test row)
    → filter (λ row. is_entity entity row.key.entity && refers_at REFERENCES row (entity_number of) id) (of_version 0 rows) ≡ filter test (filter (λ row. (row.key.version == 0) && is_entity entity row.key.entity) rows)
referring rows entity of id test same =
    filter-filter (λ row. is_entity entity row.key.entity && refers_at REFERENCES row (entity_number of) id) (λ row. row.key.version == 0) rows
    ∙ (filter-same (λ row. (row.key.version == 0) && (is_entity entity row.key.entity && refers_at REFERENCES row (entity_number of) id)) (λ row. ((row.key.version == 0) && is_entity entity row.key.entity) && test row)
    (λ row. tests_alike (row.key.version == 0) (is_entity entity row.key.entity) (refers_at REFERENCES row (entity_number of) id) (test row) (λ e. same row (eqb-true _ _ e))) rows
    ∙ sym (filter-filter test (λ row. (row.key.version == 0) && is_entity entity row.key.entity) rows))

-- the categories of the links that refer to a product are its own links
pub links_found : (rows : List Row) (id : ℕ) → map (λ (key : Key). key.second) (referrers_by E.ProductCategory (of_version 0 rows) (entity_number E.Product) id) ≡ own_links rows id
links_found rows id =
    seconds_by_keys (filter (λ row. is_entity E.ProductCategory row.key.entity && refers_at REFERENCES row (entity_number E.Product) id) (of_version 0 rows))
    ∙ ap (map (λ (row : Row). row.key.second)) (referring rows E.ProductCategory E.Product id (λ link. link.key.id == id) (λ row e. refers_product row id (sym e)))

-- the products of the links that refer to a category are those that are linked to it
pub linked_found : (rows : List Row) (id : ℕ) → map (λ (key : Key). key.id) (referrers_by E.ProductCategory (of_version 0 rows) (entity_number E.Category) id) ≡ linked_to rows id
linked_found rows id =
    ids_by_keys (filter (λ row. is_entity E.ProductCategory row.key.entity && refers_at REFERENCES row (entity_number E.Category) id) (of_version 0 rows))
    ∙ ap (map (λ (row : Row). row.key.id)) (referring rows E.ProductCategory E.Category id (λ link. link.key.second == id) (λ row e. refers_category row id (sym e)))

-- ---- the first list, or the other

pub own_first : {X : Type 0} (xs ys : List X) → (length xs == 0) ≡ false → or_else xs ys ≡ xs
own_first [] ys e = absurd (cc)
own_first (x ∷ xs) ys e = refl

pub other_first : {X : Type 0} (xs ys : List X) → (length xs == 0) ≡ true → or_else xs ys ≡ ys
other_first [] ys e = refl
other_first (x ∷ xs) ys e = absurd (omega (arith, eqb-true (length (x ∷ xs)) 0 e))

-- ---- the keys of an entity are those of all its live rows

pub keys_cover : (rows : List Row) (entity : Entity) (id : ℕ) → list_any (λ other. other == id) (map (λ (key : Key). key.id) (keys_of (of_version 0 rows) entity)) ≡ false → live_row rows entity id ≡ None
keys_cover rows entity id off = by (live_row rows entity id) refl
  where
    here : (row : Row) → live_row rows entity id ≡ Some row → list_any (λ other. other == id) (map (λ (key : Key). key.id) (keys_of (of_version 0 rows) entity)) ≡ true
    here row e =
        let stands = stands_under rows (live_key entity id) row e in
        let version : (row.key.version == 0) ≡ true = ap (λ (k : Key). k.version == 0) stands.same in
        let of : is_entity entity row.key.entity ≡ true = ap (λ (k : Key). is_entity entity k.entity) stands.same ∙ eq-eqb (entity_number entity) (entity_number entity) refl in
        let among = in_filter (λ r. is_entity entity r.key.entity) (of_version 0 rows) row (in_filter (λ r. r.key.version == 0) rows row stands.is_in version) of in
        let keyed = in_map (λ (r : Row). r.key) (filter (λ r. is_entity entity r.key.entity) (of_version 0 rows)) row among in
        let named = in_map (λ (key : Key). key.id) (keys_of (of_version 0 rows) entity) row.key keyed in
        any_is (λ other. other == id) (map (λ (key : Key). key.id) (keys_of (of_version 0 rows) entity)) row.key.id named (ap (λ (k : Key). k.id == id) stands.same ∙ eq-eqb id id refl)

    by : (o : Option Row) → live_row rows entity id ≡ o → live_row rows entity id ≡ None
    by None e = e
    by (Some row) e = absurd (true≢false (sym (here row e) ∙ off))
