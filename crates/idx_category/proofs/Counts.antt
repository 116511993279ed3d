-- Rows that pass a test, by their keys.
use Rattle.std.proofs.Common.{◌≡◌, Bool, true, false, List, [], ◌∷◌, map, filter, Option, None, refl, sym, ap, ◌∙◌}
use Rattle.std.specs.declared.cmp.Ordering.TheVariants.{Less, Equal, Greater}
use Rattle.std.specs.Ordering.{is_eq, ordering_reverse}
use Rattle.std.specs.List.{AllByRecursion}
use Rattle.std.specs.Option.{option_map_or}
use Rattle.shop_defs.specs.declared.key.Key.{Key}
use Rattle.shop_defs.specs.declared.row.Row.{Row}
use Rattle.shop_defs.specs.Keys.{key_cmp}
use Rattle.shop_defs.specs.Rows.{row_at, row_key, IsInKeyOrder}
use Rattle.shop_defs.proofs.Keys.{key_cmp_total}
use Rattle.keyed.specs.Keyed.{Ascends}
use Rattle.shop_rows.proofs.Same.{is_equal, key_is}
use Rattle.shop_rows.proofs.SameLists.{same_lists, its, holds}

-- a key that equals one below all rows is not among them
pub none_above : (low key : Key) (rows : List Row) → AllByRecursion (λ row. key_cmp low (row_key row) ≡ Less) rows → key_cmp low key ≡ Equal → row_at rows key ≡ None
none_above low key [] above same = refl
none_above low key (row ∷ rows) above same =
    let greater : key_cmp row.key key ≡ Greater = key_cmp_total.antisymm row.key key ∙ ap ordering_reverse (sym (key_cmp_total.congr low key row.key same) ∙ above.0) in
    rw greater (none_above low key rows above.1 same)

module _ (test : Row → Bool) where
  -- the keys of the rows that pass
  abbrev pub passing : List Row → List Key
  passing rows = map row_key (filter test rows)

  -- a key is among them where the row at the key passes
  pub passing_has : (rows : List Row) (key : Key) → IsInKeyOrder rows → holds key_cmp key_cmp_total key_is (passing rows) key ≡ option_map_or test (row_at rows key) false
  passing_has [] key order = refl
  passing_has (row ∷ rows) key order = by (passing_has rows key order.1) (is_eq (key_cmp row.key key)) (test row) refl refl
    where
      more_none : holds key_cmp key_cmp_total key_is (passing rows) key ≡ option_map_or test (row_at rows key) false → is_eq (key_cmp row.key key) ≡ true → holds key_cmp key_cmp_total key_is (passing rows) key ≡ false
      more_none more e = more ∙ ap (λ (o : Option Row). option_map_or test o false) (none_above row.key key rows order.0 (is_equal _ e))

      by : holds key_cmp key_cmp_total key_is (passing rows) key ≡ option_map_or test (row_at rows key) false → (b c : Bool) → is_eq (key_cmp row.key key) ≡ b → test row ≡ c → holds key_cmp key_cmp_total key_is (passing (row ∷ rows)) key ≡ option_map_or test (row_at (row ∷ rows) key) false
      by more true true e f = rw (f, e) (sym f)
      by more true false e f = rw (f, e) (more_none more e ∙ sym f)
      by more false true e f = rw (f, e) more
      by more false false e f = rw (f, e) more

  all_passing : (P : Key → Type 0) (rows : List Row) → AllByRecursion (λ row. P (row_key row)) rows → AllByRecursion P (passing rows)
  all_passing P [] all = tt
  all_passing P (row ∷ rows) all = by (all_passing P rows all.1) (test row) refl
    where
      by : AllByRecursion P (passing rows) → (b : Bool) → test row ≡ b → AllByRecursion P (passing (row ∷ rows))
      by more true e = rw e (all.0, more)
      by more false e = rw e more

  pub passing_ascends : (rows : List Row) → IsInKeyOrder rows → Ascends key_cmp its (passing rows)
  passing_ascends [] order = tt
  passing_ascends (row ∷ rows) order = by (passing_ascends rows order.1) (test row) refl
    where
      by : Ascends key_cmp its (passing rows) → (b : Bool) → test row ≡ b → Ascends key_cmp its (passing (row ∷ rows))
      by more true e = rw e (all_passing (λ key. key_cmp row.key key ≡ Less) rows order.0, more)
      by more false e = rw e more

  -- the keys of the rows that pass are the same, where at each key the rows pass alike
  pub same_passing : (before after : List Row) → IsInKeyOrder before → IsInKeyOrder after → ((key : Key) → option_map_or test (row_at before key) false ≡ option_map_or test (row_at after key) false) → passing before ≡ passing after
  same_passing before after order now same =
      same_lists key_cmp key_cmp_total key_is (passing before) (passing after) (passing_ascends before order) (passing_ascends after now)
      (λ key. passing_has before key order ∙ (same key ∙ sym (passing_has after key now)))
