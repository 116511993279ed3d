-- The rows of a version, found by their keys.
use Rattle.std.proofs.Common.{◌≡◌, ◌++◌, ◌<◌, ◌+◌, ℕ, suc, List, [], ◌∷◌, length, get_or, drop, drop-cons, add-one, append_assoc, refl, sym, ap, subst, ◌∙◌, Some}
use Rattle.std.specs.Prelude.{map, ◌==◌}
use Rattle.std.specs.List.{AllByRecursion}
use Rattle.std.specs.Option.{option_to_list}
use Rattle.shop_defs.specs.declared.key.Key.{Key}
use Rattle.shop_defs.specs.declared.row.Row.{Row}
use Rattle.shop_defs.specs.Keys.{key_cmp}
use Rattle.shop_defs.specs.Rows.{row_key, row_at, IsInKeyOrder}
use Rattle.shop_defs.proofs.Keys.{key_cmp_total}
use Rattle.shop_operations.specs.References.{of_version}
use Rattle.shop_write.proofs.InOrder.{all_found, all_filter, ascends_filter}
use Rattle.shop_version.specs.Overlays.{rows_at}

-- rows that are found are found by their keys
pub found_rows : (rows some : List Row) → AllByRecursion (λ row. row_at rows row.key ≡ Some row) some → rows_at rows (map row_key some) ≡ some
found_rows rows [] all = refl
found_rows rows (row ∷ rest) all = rw all.0 (ap (λ ys. row ∷ ys) (found_rows rows rest all.1))

pub own_found : (rows : List Row) (version : ℕ) (keys : List Key) → IsInKeyOrder rows → keys ≡ map row_key (of_version version rows) → rows_at rows keys ≡ of_version version rows
own_found rows version keys up e =
    ap (rows_at rows) e
    ∙ found_rows rows (of_version version rows) (all_filter (λ row. row_at rows row.key ≡ Some row) (λ row. row.key.version == version) rows (all_found key_cmp row_key key_cmp_total rows up))

pub own_order : (rows own : List Row) (version : ℕ) (keys : List Key) → IsInKeyOrder rows → keys ≡ map row_key (of_version version rows) → own ≡ rows_at rows keys → IsInKeyOrder own
own_order rows own version keys up e f =
    subst IsInKeyOrder (sym (f ∙ own_found rows version keys up e)) (ascends_filter key_cmp row_key key_cmp_total (λ row. row.key.version == version) rows up)

-- a step of the copying
pub copied_step : (rows copies : List Row) (keys : List Key) (i : ℕ) (d : Key) → i < length keys
    → (copies ++ option_to_list (row_at rows (get_or keys i d))) ++ rows_at rows (drop (i + 1) keys) ≡ copies ++ rows_at rows (drop i keys)
copied_step rows copies keys i d low =
    ap (λ n. (copies ++ option_to_list (row_at rows (get_or keys i d))) ++ rows_at rows (drop n keys)) (add-one i)
    ∙ (regroup copies (option_to_list (row_at rows (get_or keys i d))) (rows_at rows (drop (suc i) keys))
    ∙ ap (λ rest. copies ++ rows_at rows rest) (sym (drop-cons keys i d low)))
  where
    regroup : (a b c : List Row) → (a ++ b) ++ c ≡ a ++ (b ++ c)
    regroup a b c = simp append_assoc
