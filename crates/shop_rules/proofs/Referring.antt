-- The conditions of a rule are the conditions among the rows that refer to it.
use Rattle.std.proofs.Common.{◌≡◌, ℕ, Bool, true, false, ◌&&◌, ◌||◌, ◌==◌, List, [], ◌∷◌, ◌++◌, map, filter, Option, Some, None, if◌then◌else◌, refl, sym, ap, subst, ◌∙◌, append_assoc}
use Rattle.std.specs.declared.cmp.Ordering.TheVariants.{Less}
use Rattle.std.specs.Prelude.{option_and_then}
use Rattle.std.specs.List.{AllByRecursion, list_any, cons_option}
use Rattle.std.specs.Option.{option_to_list}
use Rattle.std.proofs.lemmas.Bool.{eqb-true, eq-eqb}
use Rattle.shop_defs.specs.declared.entity.Entity.TheVariants as E
use Rattle.shop_defs.specs.declared.key.Key.{Key}
use Rattle.shop_defs.specs.declared.row.Row.{Row}
use Rattle.shop_defs.specs.declared.table.TheConstants.{REFERENCES}
use Rattle.shop_defs.specs.declared.value.Value.{Value}
use Rattle.shop_defs.specs.declared.value.Value.TheVariants as V
use Rattle.shop_defs.specs.declared.words.FieldName.TheVariants as N
use Rattle.shop_defs.specs.Entities.{entity_number}
use Rattle.shop_defs.specs.Keys.{key_cmp}
use Rattle.shop_defs.specs.References.{acts_on_delete}
use Rattle.shop_defs.specs.Rows.{row_at, row_key, field_of, IsInKeyOrder}
use Rattle.shop_defs.proofs.Keys.{key_cmp_total}
use Rattle.shop_operations.specs.References.{is_entity, is_id, is_live, live, ident, part_of, refers_at}
use Rattle.shop_rows.specs.Lookups.{referrers_by}
use Rattle.shop_rows.proofs.Same.{itself_equal}
use Rattle.row_fields.specs.Fields.{number_of, id_in, id_at}
use Rattle.shop_rules.specs.Conditions.{conditions}
use Rattle.shop_rules.specs.Reading.{rows_at}
use Rattle.shop_rules.proofs.FieldNumbers.{condition_rule}

-- ---- a condition refers to its rule, and to no other

or_false : (b : Bool) → (b || false) ≡ b
or_false true = refl
or_false false = refl

ident_is : (value : Option Value) → ident value ≡ option_and_then id_in value
ident_is None = refl
ident_is (Some (V.Flag flag)) = refl
ident_is (Some (V.Int number)) = refl
ident_is (Some (V.Text text)) = refl
ident_is (Some (V.Ident id)) = refl

refers : (row : Row) (rule : ℕ) → entity_number row.key.entity ≡ entity_number E.RuleCondition → refers_at REFERENCES row (entity_number E.Rule) rule ≡ is_id (id_at row (number_of E.RuleCondition N.Rule)) rule
unfolding refers_at
refers row rule is =
    subst (λ (n : ℕ). list_any (λ reference. acts_on_delete reference && ((entity_number reference.of == entity_number E.Rule) && is_id (if entity_number reference.entity == n then part_of reference.part row else None) rule)) REFERENCES ≡ is_id (ident (field_of row 1)) rule)
    (sym is) (or_false (is_id (ident (field_of row 1)) rule))
    ∙ (ap (λ (o : Option ℕ). is_id o rule) (ident_is (field_of row 1)) ∙ sym (ap (λ (n : ℕ). is_id (id_at row n) rule) condition_rule))

abbrev is_condition : Row → Bool
is_condition row = is_entity row.key.entity E.RuleCondition

same_bool : (a b : Bool) → (a ≡ true → b ≡ true) → (b ≡ true → a ≡ true) → a ≡ b
same_bool true b there back = sym (there refl)
same_bool false true there back = back refl
same_bool false false there back = refl

flip_eq : (a b : ℕ) → (a == b) ≡ (b == a)
flip_eq a b = same_bool (a == b) (b == a) (λ e. eq-eqb _ _ (sym (eqb-true _ _ e))) (λ e. eq-eqb _ _ (sym (eqb-true _ _ e)))

-- the tests agree
same_test : (row : Row) (rule : ℕ) → (is_entity E.RuleCondition row.key.entity && refers_at REFERENCES row (entity_number E.Rule) rule) ≡ (is_condition row && is_id (id_at row (number_of E.RuleCondition N.Rule)) rule)
same_test row rule = ap (λ (b : Bool). b && refers_at REFERENCES row (entity_number E.Rule) rule) (flip_eq (entity_number E.RuleCondition) (entity_number row.key.entity)) ∙ by (is_condition row) refl
  where
    by : (b : Bool) → is_condition row ≡ b → (is_condition row && refers_at REFERENCES row (entity_number E.Rule) rule) ≡ (is_condition row && is_id (id_at row (number_of E.RuleCondition N.Rule)) rule)
    by true e = rw e (refers row rule (eqb-true (entity_number row.key.entity) (entity_number E.RuleCondition) e))
    by false e = rw e refl

-- ---- rows found again at their keys

-- a row below the keys is none of theirs
skipped : (row : Row) (rows : List Row) (keys : List Key) → AllByRecursion (λ key. key_cmp row.key key ≡ Less) keys → rows_at (row ∷ rows) keys ≡ rows_at rows keys
skipped row rows [] above = refl
skipped row rows (key ∷ keys) above = rw above.0 (ap (cons_option (row_at rows key)) (skipped row rows keys above.1))

part_above : (low : Key) (test : Row → Bool) (rows : List Row) → AllByRecursion (λ row. key_cmp low (row_key row) ≡ Less) rows → AllByRecursion (λ key. key_cmp low key ≡ Less) (map row_key (filter test rows))
part_above low test [] above = tt
part_above low test (row ∷ rows) above = by (part_above low test rows above.1) (test row) refl
  where
    by : AllByRecursion (λ key. key_cmp low key ≡ Less) (map row_key (filter test rows)) → (b : Bool) → test row ≡ b → AllByRecursion (λ key. key_cmp low key ≡ Less) (map row_key (filter test (row ∷ rows)))
    by more true e = rw e (above.0, more)
    by more false e = rw e more

found_again : (test : Row → Bool) (rows : List Row) → IsInKeyOrder rows → rows_at rows (map row_key (filter test rows)) ≡ filter test rows
found_again test [] up = refl
found_again test (row ∷ rows) up = by (found_again test rows up.1) (test row) refl
  where
    rest : rows_at (row ∷ rows) (map row_key (filter test rows)) ≡ rows_at rows (map row_key (filter test rows))
    rest = skipped row rows (map row_key (filter test rows)) (part_above row.key test rows up.0)

    by : rows_at rows (map row_key (filter test rows)) ≡ filter test rows → (b : Bool) → test row ≡ b → rows_at (row ∷ rows) (map row_key (filter test (row ∷ rows))) ≡ filter test (row ∷ rows)
    by more true e = rw (e, itself_equal key_cmp key_cmp_total row.key) (ap (λ (others : List Row). row ∷ others) (rest ∙ more))
    by more false e = rw e (rest ∙ more)

filter-same : (p q : Row → Bool) → ((row : Row) → p row ≡ q row) → (rows : List Row) → filter p rows ≡ filter q rows
filter-same p q same rows = ap (λ (test : Row → Bool). filter test rows) (λ i row. same row i)

filter-filter : (p q : Row → Bool) (rows : List Row) → filter p (filter q rows) ≡ filter (λ row. q row && p row) rows
filter-filter p q [] = refl
filter-filter p q (row ∷ rows) = by (filter-filter p q rows) (q row) (p row) refl refl
  where
    by : filter p (filter q rows) ≡ filter (λ other. q other && p other) rows → (b c : Bool) → q row ≡ b → p row ≡ c → filter p (filter q (row ∷ rows)) ≡ filter (λ other. q other && p other) (row ∷ rows)
    by more true true e f = rw (e, f) (ap (λ (others : List Row). row ∷ others) more)
    by more true false e f = rw (e, f) more
    by more false c e f = rw e more

-- the conditions of a rule are the rows of conditions that refer to it
pub conditions_found : (rows : List Row) (rule : ℕ) → IsInKeyOrder rows → rows_at rows (referrers_by E.RuleCondition (live rows) (entity_number E.Rule) rule) ≡ conditions rows rule
conditions_found rows rule up =
    let names : Row → Bool = λ row. is_entity E.RuleCondition row.key.entity && refers_at REFERENCES row (entity_number E.Rule) rule in
    ap (λ (some : List Row). rows_at rows (map row_key some)) (filter-filter names is_live rows)
    ∙ (found_again (λ row. is_live row && names row) rows up
    ∙ (sym (filter-filter names is_live rows)
    ∙ filter-same names (λ row. is_condition row && is_id (id_at row (number_of E.RuleCondition N.Rule)) rule) (λ row. same_test row rule) (live rows)))

-- ---- one row more

pub pushed : (nodes : List Row) (found : Option Row) (rest : List Row) → (nodes ++ option_to_list found) ++ rest ≡ nodes ++ cons_option found rest
pushed nodes None rest = append_assoc nodes [] rest
pushed nodes (Some row) rest = append_assoc nodes (row ∷ []) rest
