-- Changes of rows, as changes of the bytes that are kept of them.
use Rattle.std.proofs.Common.{◌≡◌, ℕ, ◌+◌, List, [], ◌∷◌, Option, Some, None, is_some, refl, sym, ap, subst, ◌∙◌}
use Rattle.std.specs.declared.cmp.Ordering.{Ordering}
use Rattle.std.specs.declared.cmp.Ordering.TheVariants.{Less, Equal, Greater}
use Rattle.std.specs.Option.{option_map}
use Rattle.std.specs.List.{AllByRecursion}
use Rattle.keyed.specs.Keyed.{Ascends, put, without}
use Rattle.shop_defs.specs.declared.key.Key.{Key}
use Rattle.shop_defs.specs.declared.row.Row.{Row}
use Rattle.shop_defs.specs.Joined.{Change, change_key}
use Rattle.shop_defs.specs.Keys.{key_cmp}
use Rattle.shop_defs.specs.Rows.{row_key, change_row, change_rows, IsInKeyOrder}
use Rattle.shop_kept.specs.Spelling.{kept_row}
use Rattle.shop_outside.specs.declared.keeper.Kept.{Kept}
use Rattle.shop_outside.specs.Keeping.{Bodies, BodyChanges, kept_key, body_change, body_changes, Applied}
use Rattle.shop_check.specs.Soundness.{kept}
use Rattle.shop_rows.specs.Changing.{StandsUnderItsKey, StandUnderTheirKeys}
use Rattle.shop_core.specs.Plans.{encoded}
use Rattle.shop_core.specs.Shops.{HoldsKept}

kept_put : (rows : List Row) (row : Row) → put key_cmp kept_key (kept rows) (row.key, kept_row row) ≡ kept (put key_cmp row_key rows row)
kept_put [] row = refl
kept_put (x ∷ rows) row = by (kept_put rows row) (key_cmp x.key row.key) refl
  where
    by : put key_cmp kept_key (kept rows) (row.key, kept_row row) ≡ kept (put key_cmp row_key rows row) → (o : Ordering) → key_cmp x.key row.key ≡ o → put key_cmp kept_key (kept (x ∷ rows)) (row.key, kept_row row) ≡ kept (put key_cmp row_key (x ∷ rows) row)
    by more Less e = rw e (ap (λ (rest : Bodies). (x.key, kept_row x) ∷ rest) more)
    by more Equal e = rw e refl
    by more Greater e = rw e refl

kept_without : (rows : List Row) (key : Key) → without key_cmp kept_key (kept rows) key ≡ kept (without key_cmp row_key rows key)
kept_without [] key = refl
kept_without (x ∷ rows) key = by (kept_without rows key) (key_cmp x.key key) refl
  where
    by : without key_cmp kept_key (kept rows) key ≡ kept (without key_cmp row_key rows key) → (o : Ordering) → key_cmp x.key key ≡ o → without key_cmp kept_key (kept (x ∷ rows)) key ≡ kept (without key_cmp row_key (x ∷ rows) key)
    by more Less e = rw e (ap (λ (rest : Bodies). (x.key, kept_row x) ∷ rest) more)
    by more Equal e = rw e refl
    by more Greater e = rw e (ap (λ (rest : Bodies). (x.key, kept_row x) ∷ rest) more)

kept_change : (rows : List Row) (key : Key) (change : Option Row) → StandsUnderItsKey (key, change) → body_change (kept rows) key (option_map kept_row change) ≡ kept (change_row rows key change)
kept_change rows key None its_own = kept_without rows key
kept_change rows key (Some row) its_own = ap (λ (k : Key). put key_cmp kept_key (kept rows) (k, kept_row row)) (sym its_own) ∙ kept_put rows row

-- changing what is kept of rows gives what is kept of the changed rows
pub kept_changes : (rows : List Row) (changes : List Change) → StandUnderTheirKeys changes → body_changes (kept rows) (encoded changes) ≡ kept (change_rows rows changes)
kept_changes rows [] own = refl
kept_changes rows (change ∷ changes) own = ap (λ (held : Bodies). body_changes held (encoded changes)) (kept_change rows change.0 change.1 own.0) ∙ kept_changes (change_row rows change.0 change.1) changes own.1

kept_above : (key : Key) (rows : List Row) → AllByRecursion (λ y. key_cmp key (row_key y) ≡ Less) rows → AllByRecursion (λ y. key_cmp key (kept_key y) ≡ Less) (kept rows)
kept_above key [] up = tt
kept_above key (row ∷ rows) up = (up.0, kept_above key rows up.1)

kept_ascends : (rows : List Row) → IsInKeyOrder rows → Ascends key_cmp kept_key (kept rows)
kept_ascends [] up = tt
kept_ascends (row ∷ rows) up = (kept_above row.key rows up.0, kept_ascends rows up.1)

encoded_above : (key : Key) (changes : List Change) → AllByRecursion (λ y. key_cmp key (change_key y) ≡ Less) changes → AllByRecursion (λ y. key_cmp key (kept_key y) ≡ Less) (encoded changes)
encoded_above key [] up = tt
encoded_above key (change ∷ changes) up = (up.0, encoded_above key changes up.1)

-- the keys of the encoded changes ascend
pub encoded_ascends : (changes : List Change) → Ascends key_cmp change_key changes → Ascends key_cmp kept_key (encoded changes)
encoded_ascends [] up = tt
encoded_ascends (change ∷ changes) up = (encoded_above change.0 changes up.0, encoded_ascends changes up.1)

-- a keeper that holds the kept rows holds the changed ones after the changes are applied
pub holds_next : (content now : Option Kept) (rows : List Row) (changes : List Change) (number : ℕ) → HoldsKept content rows number → IsInKeyOrder rows → StandUnderTheirKeys changes → Applied content now (encoded changes) (number + 1) → HoldsKept now (change_rows rows changes) (number + 1)
holds_next None None rows changes number holds up own applied = tt
holds_next None (Some held) rows changes number holds up own applied = (cc)
holds_next (Some held) None rows changes number holds up own applied = absurd applied
holds_next (Some held) (Some now) rows changes number holds up own applied =
    let ascends : Ascends key_cmp kept_key held.rows = subst (Ascends key_cmp kept_key) (sym holds.0) (kept_ascends rows up) in
    (applied.0.list ascends ∙ ap (λ (h : Bodies). body_changes h (encoded changes)) holds.0 ∙ kept_changes rows changes own, applied.1)

-- a keeper that tells goes on to tell
pub still_told : (content now : Option Kept) (changes : BodyChanges) (number : ℕ) → Applied content now changes number → is_some now ≡ is_some content
still_told None None changes number applied = refl
still_told None (Some held) changes number applied = (cc)
still_told (Some held) None changes number applied = absurd applied
still_told (Some held) (Some now) changes number applied = refl
