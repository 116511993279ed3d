-- The row that a version shows at a place.
use Rattle.std.proofs.Common.{◌≡◌, ◌≢◌, ℕ, Bool, true, false, List, refl, sym, ap, ◌∙◌, Option, Some, None, if◌then◌else◌, not}
use Rattle.std.specs.Prelude.{◌==◌, filter}
use Rattle.std.proofs.lemmas.Bool.{eq-eqb, ne_eqb}
use Rattle.keyed.specs.Keyed.{find}
use Rattle.shop_defs.specs.declared.key.Key.{Key}
use Rattle.shop_defs.specs.declared.row.Row.{Row}
use Rattle.shop_defs.specs.Keys.{key_cmp}
use Rattle.shop_defs.specs.Rows.{row_key, row_at, IsInKeyOrder}
use Rattle.shop_defs.proofs.Keys.{key_cmp_total}
use Rattle.shop_operations.specs.References.{live, of_version}
use Rattle.shop_operations.specs.Upserts.{place_cmp, row_in}
use Rattle.shop_rows.proofs.Mentioning.{found_key}
use Rattle.shop_drafts.specs.Aggregates.{is_part}
use Rattle.shop_drafts.specs.Drafts.{is_open, over, root_in, shown_rows, shown_by}
use Rattle.shop_version.specs.Overlays.{at_version_key, guarded}
use Rattle.shop_drafts.specs.declared.aggregate.Root.{Root}
use Rattle.shop_version.proofs.Layers.{all_of, in_place_order, row_in-version}
use Rattle.shop_write.proofs.InOrder.{guard, later, ascends_filter, find_filter, find_puts}
use Rattle.shop_write.proofs.LivePlaces.{live_in_order, row_in-live}
use Rattle.shop_write.proofs.Standing.{place_cmp_total}
use Rattle.shop_write.proofs.WrittenRows.{row_in_is}

module _ (rows : List Row) (version : ℕ) (root : Root) (up : IsInKeyOrder rows) where
  own_up : IsInKeyOrder (of_version version rows)
  own_up = ascends_filter key_cmp row_key key_cmp_total (λ row. row.key.version == version) rows up

  -- a row of the version at a place
  own_at : (key : Key) → row_in (of_version version rows) key ≡ row_at rows (at_version_key version key)
  own_at key =
      row_in-version version (of_version version rows) key (all_of version rows)
      ∙ (find_filter key_cmp row_key key_cmp_total (λ row. row.key.version == version) rows (at_version_key version key) up ∙ by (row_at rows (at_version_key version key)) refl)
    where
      by : (found : Option Row) → row_at rows (at_version_key version key) ≡ found → guard (λ row. row.key.version == version) found ≡ found
      by None e = refl
      by (Some row) e = let passes : (row.key.version == version) ≡ true = eq-eqb row.key.version version (ap (λ (k : Key). k.version) (found_key rows (at_version_key version key) row e)) in rw passes refl

  -- a live row at a place, if it shows
  open_at : (key : Key) → row_in (filter (is_open root (of_version version rows)) (live rows)) key ≡ guard (is_open root (of_version version rows)) (row_at rows (at_version_key 0 key))
  open_at key =
      row_in_is (filter (is_open root (of_version version rows)) (live rows)) key
      ∙ (find_filter place_cmp row_key place_cmp_total (is_open root (of_version version rows)) (live rows) key (live_in_order rows up)
      ∙ ap (guard (is_open root (of_version version rows))) (sym (row_in_is (live rows) key) ∙ row_in-live rows key up))

  over_at : (key : Key) → row_in (over rows version root) key ≡ later (guard (is_open root (of_version version rows)) (row_at rows (at_version_key 0 key))) (row_at rows (at_version_key version key))
  unfolding over
  over_at key =
      row_in_is _ key
      ∙ (find_puts place_cmp row_key place_cmp_total (of_version version rows) (filter (is_open root (of_version version rows)) (live rows)) key (in_place_order version (of_version version rows) (all_of version rows) own_up)
      ∙ (ap (λ (found : Option Row). later found (find place_cmp row_key (of_version version rows) key)) (sym (row_in_is (filter (is_open root (of_version version rows)) (live rows)) key) ∙ open_at key)
      ∙ ap (later (guard (is_open root (of_version version rows)) (row_at rows (at_version_key 0 key)))) (sym (row_in_is (of_version version rows) key) ∙ own_at key)))

  -- where the draft has a row, it shows
  pub shows_own : (key : Key) (row : Row) → row_at rows (at_version_key version key) ≡ Some row → Some row ≡ row_in (over rows version root) key
  shows_own key row e = sym (over_at key ∙ ap (later (guard (is_open root (of_version version rows)) (row_at rows (at_version_key 0 key)))) e)

  -- and else the live row shows, unless the draft edits it
  pub shows_live : (key : Key) → row_at rows (at_version_key version key) ≡ None → guarded (λ row. not (is_part root row)) (row_at rows (at_version_key 0 key)) ≡ row_in (over rows version root) key
  shows_live key e = sym (over_at key ∙ (ap (later (guard (is_open root (of_version version rows)) (row_at rows (at_version_key 0 key)))) e ∙ by (row_at rows (at_version_key 0 key)) refl))
    where
      same : (row : Row) → row_at rows (at_version_key 0 key) ≡ Some row → row_in (of_version version rows) row.key ≡ None
      same row f = own_at row.key ∙ (ap (λ (k : Key). row_at rows (at_version_key version k)) (found_key rows (at_version_key 0 key) row f) ∙ e)

      each : (row : Row) (b : Bool) → is_part root row ≡ b → row_in (of_version version rows) row.key ≡ None → later (guard (is_open root (of_version version rows)) (Some row)) None ≡ guarded (λ row. not (is_part root row)) (Some row)
      each row true f g = rw f refl
      each row false f g = rw (f, g) refl

      by : (found : Option Row) → row_at rows (at_version_key 0 key) ≡ found → later (guard (is_open root (of_version version rows)) found) None ≡ guarded (λ row. not (is_part root row)) found
      by None f = refl
      by (Some row) f = each row (is_part root row) refl (same row f)

-- ---- what a version shows

pub live_shown : (rows : List Row) (version : ℕ) (key : Key) → IsInKeyOrder rows → version ≡ 0 → row_at rows (at_version_key 0 key) ≡ row_in (shown_rows rows version) key
live_shown rows version key up e = rw e (sym (row_in-live rows key up))

pub draft_shown : (rows : List Row) (version : ℕ) (key : Key) (root : Root) → version ≢ 0 → root_in rows version ≡ Some root → row_in (over rows version root) key ≡ row_in (shown_rows rows version) key
draft_shown rows version key root n e =
    sym (ap (λ (b : Bool). row_in (if b then live rows else shown_by rows version (root_in rows version)) key) (ne_eqb version 0 n)
    ∙ ap (λ (found : Option Root). row_in (shown_by rows version found) key) e)

pub none_shown : (rows : List Row) (version : ℕ) (key : Key) → version ≢ 0 → root_in rows version ≡ None → None ≡ row_in (shown_rows rows version) key
none_shown rows version key n e =
    sym (ap (λ (b : Bool). row_in (if b then live rows else shown_by rows version (root_in rows version)) key) (ne_eqb version 0 n)
    ∙ ap (λ (found : Option Root). row_in (shown_by rows version found) key) e)
