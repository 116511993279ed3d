-- The filters of a stream are the filters among the rows that refer to it.
use Rattle.std.proofs.Common.{◌≡◌, ℕ, Bool, true, false, ◌&&◌, ◌||◌, ◌==◌, List, [], ◌∷◌, ◌++◌, map, filter, Option, Some, None, if◌then◌else◌, refl, sym, ap, subst, ◌∙◌, append_assoc}
use Rattle.std.specs.declared.cmp.Ordering.TheVariants.{Less}
use Rattle.std.specs.Prelude.{option_and_then}
use Rattle.std.specs.List.{AllByRecursion, list_any, cons_option}
use Rattle.std.specs.Option.{option_to_list}
use Rattle.shop_defs.specs.declared.entity.Entity.TheVariants as E
use Rattle.shop_defs.specs.declared.key.Key.{Key}
use Rattle.shop_defs.specs.declared.row.Row.{Row}
use Rattle.shop_defs.specs.declared.table.TheConstants.{REFERENCES}
use Rattle.shop_defs.specs.declared.value.Value.{Value}
use Rattle.shop_defs.specs.declared.value.Value.TheVariants as V
use Rattle.shop_defs.specs.declared.words.FieldName.TheVariants as N
use Rattle.shop_defs.specs.Entities.{entity_number}
use Rattle.shop_defs.specs.Keys.{key_cmp}
use Rattle.shop_defs.specs.References.{acts_on_delete}
use Rattle.shop_defs.specs.Rows.{row_at, row_key, field_of, IsInKeyOrder}
use Rattle.shop_defs.proofs.Keys.{key_cmp_total}
use Rattle.shop_operations.specs.References.{is_entity, is_id, ident, part_of, of_version, refers_at}
use Rattle.shop_rows.specs.Lookups.{referrers_by}
use Rattle.shop_rows.proofs.Lists.{filter-filter}
use Rattle.shop_rows.proofs.Same.{itself_equal}
use Rattle.row_fields.specs.Fields.{number_of, id_in, id_at}
use Rattle.product_meanings.specs.Streams.{filters}
use Rattle.product_rows.proofs.Referring.{referring}
use Rattle.idx_stream.specs.Reading.{rows_at}
use Rattle.idx_stream.proofs.FieldNumbers.{filter_stream}

-- ---- a filter refers to its stream

or_false : (b : Bool) → (b || false) ≡ b
or_false true = refl
or_false false = refl

ident_is : (value : Option Value) → ident value ≡ option_and_then id_in value
ident_is None = refl
ident_is (Some (V.Flag flag)) = refl
ident_is (Some (V.Int number)) = refl
ident_is (Some (V.Text text)) = refl
ident_is (Some (V.Ident id)) = refl

refers : (row : Row) (stream : ℕ) → entity_number row.key.entity ≡ entity_number E.StreamFilter → refers_at REFERENCES row (entity_number E.Stream) stream ≡ is_id (id_at row (number_of E.StreamFilter N.Stream)) stream
unfolding refers_at
refers row stream is =
    subst (λ (n : ℕ). list_any (λ reference. acts_on_delete reference && ((entity_number reference.of == entity_number E.Stream) && is_id (if entity_number reference.entity == n then part_of reference.part row else None) stream)) REFERENCES ≡ is_id (ident (field_of row 1)) stream)
    (sym is) (or_false (is_id (ident (field_of row 1)) stream))
    ∙ (ap (λ (o : Option ℕ). is_id o stream) (ident_is (field_of row 1)) ∙ sym (ap (λ (n : ℕ). is_id (id_at row n) stream) filter_stream))

-- ---- rows found again at their keys

-- a row below the keys is none of theirs
skipped : (row : Row) (rows : List Row) (keys : List Key) → AllByRecursion (λ key. key_cmp row.key key ≡ Less) keys → rows_at (row ∷ rows) keys ≡ rows_at rows keys
skipped row rows [] above = refl
skipped row rows (key ∷ keys) above = rw above.0 (ap (cons_option (row_at rows key)) (skipped row rows keys above.1))

part_above : (low : Key) (test : Row → Bool) (rows : List Row) → AllByRecursion (λ row. key_cmp low (row_key row) ≡ Less) rows → AllByRecursion (λ key. key_cmp low key ≡ Less) (map row_key (filter test rows))
part_above low test [] above = tt
part_above low test (row ∷ rows) above = by (part_above low test rows above.1) (test row) refl
  where
    by : AllByRecursion (λ key. key_cmp low key ≡ Less) (map row_key (filter test rows)) → (b : Bool) → test row ≡ b → AllByRecursion (λ key. key_cmp low key ≡ Less) (map row_key (filter test (row ∷ rows)))
    by more true e = rw e (above.0, more)
    by more false e = rw e more

found_again : (test : Row → Bool) (rows : List Row) → IsInKeyOrder rows → rows_at rows (map row_key (filter test rows)) ≡ filter test rows
found_again test [] up = refl
found_again test (row ∷ rows) up = by (found_again test rows up.1) (test row) refl
  where
    rest : rows_at (row ∷ rows) (map row_key (filter test rows)) ≡ rows_at rows (map row_key (filter test rows))
    rest = skipped row rows (map row_key (filter test rows)) (part_above row.key test rows up.0)

    by : rows_at rows (map row_key (filter test rows)) ≡ filter test rows → (b : Bool) → test row ≡ b → rows_at (row ∷ rows) (map row_key (filter test (row ∷ rows))) ≡ filter test (row ∷ rows)
    by more true e = rw (e, itself_equal key_cmp key_cmp_total row.key) (ap (λ (others : List Row). row ∷ others) (rest ∙ more))
    by more false e = rw e (rest ∙ more)

-- the filters of a stream are the rows of filters that refer to it
pub filters_found : (rows : List Row) (stream : ℕ) → IsInKeyOrder rows → rows_at rows (referrers_by E.StreamFilter (of_version 0 rows) (entity_number E.Stream) stream) ≡ filters rows stream
filters_found rows stream up =
    let names : Row → Bool = λ row. is_entity E.StreamFilter row.key.entity && refers_at REFERENCES row (entity_number E.Stream) stream in
    ap (λ (some : List Row). rows_at rows (map row_key some)) (filter-filter names (λ row. row.key.version == 0) rows)
    ∙ (found_again (λ row. (row.key.version == 0) && names row) rows up
    ∙ (sym (filter-filter names (λ row. row.key.version == 0) rows)
    ∙ referring rows E.StreamFilter E.Stream stream (λ node. is_id (id_at node (number_of E.StreamFilter N.Stream)) stream) (λ row e. refers row stream (sym e))))
