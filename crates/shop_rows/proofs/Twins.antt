-- Rows with the same unique fields have the same fingerprint.
use Rattle.std.proofs.Common.{◌≡◌, ℕ, ℤ, Bool, true, false, not, ◌&&◌, ◌||◌, List, [], ◌∷◌, ◌++◌, Option, Some, None, is_some, if◌then◌else◌, refl, sym, ap, ◌∙◌}
use Rattle.std.specs.Int.{w128, to_be_bytes}
use Rattle.std.specs.List.{flat_map, list_all}
use Rattle.std.proofs.lemmas.Bool.Decides.{Decides-int_eq}
use Rattle.std.proofs.lemmas.Slice.Eq.{bytes_eq-Decides}
use borrow.Author.Tests.{eqb-true}
use Rattle.shop_defs.specs.declared.entity.Entity.{Entity}
use Rattle.shop_defs.specs.declared.row.Row.{Row}
use Rattle.shop_defs.specs.declared.table.FieldInfo.{FieldInfo}
use Rattle.shop_defs.specs.declared.value.Value.{Value}
use Rattle.shop_defs.specs.declared.value.Value.TheVariants as V
use Rattle.shop_defs.specs.Entities.{entity_number}
use Rattle.shop_defs.specs.Rows.{field_of}
use Rattle.shop_defs.specs.Tables.{fields_of}
use Rattle.shop_defs.proofs.EachLine.{same_entity}
use Rattle.shop_operations.specs.Deletes.{stands_at}
use Rattle.shop_operations.specs.References.{is_entity}
use Rattle.shop_operations.specs.Upserts.{same_value, same_given, has_unique, agree_in_unique, is_twin}
use Rattle.shop_rows.specs.Prints.{given_bytes, field_bytes, message, has_where_unique, has_print, half_digest, print_in, print_of}

and_first : (a b : Bool) → (a && b) ≡ true → a ≡ true
and_first true b e = refl
and_first false b e = absurd (cc)

and_second : (a b : Bool) → (a && b) ≡ true → b ≡ true
and_second true b e = e
and_second false b e = absurd (cc)

flags_same : (a b : Bool) → (if a then b else not b) ≡ true → a ≡ b
flags_same true b e = sym e
flags_same false true e = absurd (cc)
flags_same false false e = refl

-- values that are the same are equal
pub value_is : (a b : Option Value) → same_value a b ≡ true → a ≡ b
value_is None None e = refl
value_is None (Some b) e = absurd (cc)
value_is (Some a) None e = first a e
  where
    first : (a : Value) → same_value (Some a) None ≡ true → Some a ≡ None
    first (V.Flag x) e = absurd (cc)
    first (V.Int x) e = absurd (cc)
    first (V.Text x) e = absurd (cc)
    first (V.Ident x) e = absurd (cc)
value_is (Some (V.Flag a)) (Some (V.Flag b)) e = ap (λ (x : Bool). Some (V.Flag x)) (flags_same a b e)
value_is (Some (V.Flag a)) (Some (V.Int b)) e = absurd (cc)
value_is (Some (V.Flag a)) (Some (V.Text b)) e = absurd (cc)
value_is (Some (V.Flag a)) (Some (V.Ident b)) e = absurd (cc)
value_is (Some (V.Int a)) (Some (V.Flag b)) e = absurd (cc)
value_is (Some (V.Int a)) (Some (V.Int b)) e = ap (λ (x : ℤ). Some (V.Int x)) ((Decides-int_eq a b).0 e)
value_is (Some (V.Int a)) (Some (V.Text b)) e = absurd (cc)
value_is (Some (V.Int a)) (Some (V.Ident b)) e = absurd (cc)
value_is (Some (V.Text a)) (Some (V.Flag b)) e = absurd (cc)
value_is (Some (V.Text a)) (Some (V.Int b)) e = absurd (cc)
value_is (Some (V.Text a)) (Some (V.Text b)) e = ap (λ (x : List ℕ). Some (V.Text x)) ((bytes_eq-Decides a b).0 e)
value_is (Some (V.Text a)) (Some (V.Ident b)) e = absurd (cc)
value_is (Some (V.Ident a)) (Some (V.Flag b)) e = absurd (cc)
value_is (Some (V.Ident a)) (Some (V.Int b)) e = absurd (cc)
value_is (Some (V.Ident a)) (Some (V.Text b)) e = absurd (cc)
value_is (Some (V.Ident a)) (Some (V.Ident b)) e = ap (λ (x : ℕ). Some (V.Ident x)) (eqb-true a b e)

-- ---- fingerprints

-- both rows have that fingerprint
pub record ShareAt (one two : Option ℕ) : Type 0 where
  pub print : ℕ
  pub first : one ≡ Some print
  pub second : two ≡ Some print

-- a field, or several, that both rows have where they are unique, with the same bytes
record Share (one two : Bool) (bytes other : List ℕ) : Type 0 where
  first : one ≡ true
  second : two ≡ true
  same : bytes ≡ other

-- a value that is given and the same in both rows
given_share : (a b : Option Value) → same_given a b ≡ true → Share (is_some a) (is_some b) (given_bytes a) (given_bytes b)
given_share None b e = absurd (cc)
given_share (Some a) b e = let same : Some a ≡ b = value_is (Some a) b e in record { first = refl; second = ap is_some (sym same); same = ap given_bytes same }

field_share : (unique : Bool) (a b : Option Value) → (not unique || same_given a b) ≡ true
    → Share (not unique || is_some a) (not unique || is_some b) (if unique then given_bytes a else []) (if unique then given_bytes b else [])
field_share true a b e = given_share a b e
field_share false a b e = record { first = refl; second = refl; same = refl }

fields_share : (fields : List FieldInfo) (row other : Row) → list_all (λ field. not field.marks.unique || same_given (field_of row field.number) (field_of other field.number)) fields ≡ true
    → Share (list_all (has_where_unique row) fields) (list_all (has_where_unique other) fields) (flat_map (field_bytes row) fields) (flat_map (field_bytes other) fields)
fields_share [] row other e = record { first = refl; second = refl; same = refl }
fields_share (field ∷ fields) row other e =
    let here = field_share field.marks.unique (field_of row field.number) (field_of other field.number) (and_first _ _ e) in
    let rest = fields_share fields row other (and_second _ _ e) in
    record {
      first = (λ i. here.first i && rest.first i);
      second = (λ i. here.second i && rest.second i);
      same = (λ i. here.same i ++ rest.same i);
    }

-- the fingerprint of a row as of an entity and a version
abbrev print_from : Entity → ℕ → Row → Option ℕ
print_from entity version row = if has_unique entity && list_all (has_where_unique row) (fields_of entity) then Some (half_digest ((entity_number entity ∷ to_be_bytes w128 version) ++ flat_map (field_bytes row) (fields_of entity))) else None

-- a twin has the fingerprint that the row has in the twin's version
pub twins_share : (version : ℕ) (row other : Row) → other.key.version ≡ version → is_twin row other ≡ true → ShareAt (print_in version row) (print_of other)
unfolding is_twin print_in
twins_share version row other same_version twin =
    let parts = and_first (is_entity row.key.entity other.key.entity && not (stands_at row.key other) && has_unique row.key.entity) (agree_in_unique row.key.entity row other) twin in
    let agree : agree_in_unique row.key.entity row other ≡ true = and_second (is_entity row.key.entity other.key.entity && not (stands_at row.key other) && has_unique row.key.entity) (agree_in_unique row.key.entity row other) twin in
    let unique : has_unique row.key.entity ≡ true = and_second (is_entity row.key.entity other.key.entity && not (stands_at row.key other)) (has_unique row.key.entity) parts in
    let entities : is_entity row.key.entity other.key.entity ≡ true = and_first (is_entity row.key.entity other.key.entity) (not (stands_at row.key other)) (and_first (is_entity row.key.entity other.key.entity && not (stands_at row.key other)) (has_unique row.key.entity) parts) in
    let same : row.key.entity ≡ other.key.entity = same_entity row.key.entity other.key.entity (eqb-true _ _ entities) in
    let share = fields_share (fields_of row.key.entity) row other agree in
    let digest : List ℕ → ℕ = λ bytes. half_digest ((entity_number row.key.entity ∷ to_be_bytes w128 version) ++ bytes) in
    record {
      print = digest (flat_map (field_bytes row) (fields_of row.key.entity));
      first = (λ i. if unique i && share.first i then Some (digest (flat_map (field_bytes row) (fields_of row.key.entity))) else None);
      second = (λ i. print_from (sym same i) (same_version i) other) ∙ (λ i. if unique i && share.second i then Some (digest (sym share.same i)) else None);
    }
