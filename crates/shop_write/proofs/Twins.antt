-- A written row has the same twins among the rows before and after it is put at its place.
use Rattle.std.proofs.Common.{◌≡◌, true, false, List, sym, ap, ◌∙◌, Option}
use Rattle.std.specs.Prelude.{not, find}
use Rattle.std.specs.Option.{option_map}
use Rattle.std.specs.Ordering.{is_eq}
use Rattle.std.proofs.lemmas.Bool.{and_left, and_right}
use Rattle.shop_defs.specs.declared.broken.Broken.TheVariants as B
use Rattle.shop_defs.specs.declared.row.Row.{Row}
use Rattle.shop_defs.specs.Rows.{row_key}
use Rattle.shop_operations.specs.Deletes.{stands_at}
use Rattle.shop_operations.specs.Upserts.{place_cmp, with_row, is_twin, duplicate}
use Rattle.shop_write.proofs.WrittenRows.{find_past, stands_is, stands_itself}

no_twin : (row other : Row) → stands_at row.key other ≡ true → is_twin row other ≡ false
unfolding is_twin
no_twin row other h = and_left _ _ (and_left _ _ (and_right _ _ (ap not h)))

pub twins_with : (rows : List Row) (row : Row) → find (is_twin row) (with_row rows row) ≡ find (is_twin row) rows
twins_with rows row = find_past place_cmp row_key (is_twin row) rows row (no_twin row row (stands_itself row)) (λ other e. no_twin row other (stands_is row.key other ∙ ap is_eq e))

pub duplicate_is : (rows : List Row) (row : Row) (found : Option Row) → found ≡ find (is_twin row) rows → option_map (λ (other : Row). B.Duplicate other.key) found ≡ duplicate (with_row rows row) row
duplicate_is rows row found e = ap (option_map (λ (other : Row). B.Duplicate other.key)) (e ∙ sym (twins_with rows row))
