-- What rows are like after a list of changes.
use Rattle.std.proofs.Common.{◌≡◌, List, [], ◌∷◌, Option, Some, None, Bool, true, false, if◌then◌else◌, refl, sym, ap, ◌∙◌}
use Rattle.std.specs.declared.cmp.Ordering.{Ordering}
use Rattle.std.specs.declared.cmp.Ordering.TheVariants.{Less, Equal, Greater}
use Rattle.std.specs.Ordering.{is_eq, ordering_reverse}
use Rattle.std.specs.List.{AllByRecursion}
use Rattle.shop_defs.specs.declared.key.Key.{Key}
use Rattle.shop_defs.specs.declared.row.Row.{Row}
use Rattle.shop_defs.specs.Keys.{key_cmp}
use Rattle.shop_defs.specs.Rows.{row_key, row_at, change_row, change_rows, IsInKeyOrder}
use Rattle.shop_defs.specs.Joined.{Change, change_key, change_at, later_of, last_in}
use Rattle.shop_defs.proofs.Keys.{key_cmp_total}
use Rattle.keyed.proofs.Changes.{ascends_put, ascends_without, find_put, find_without}
use Rattle.shop_rows.specs.Changing.{row_after, StandsUnderItsKey, StandUnderTheirKeys, HasAscendingKeys}

-- a change keeps the key order
in_order-change_row : (rows : List Row) (at : Key) (change : Option Row) → IsInKeyOrder rows → IsInKeyOrder (change_row rows at change)
in_order-change_row rows at None order = ascends_without key_cmp row_key key_cmp_total rows at order
in_order-change_row rows at (Some row) order = ascends_put key_cmp row_key key_cmp_total rows row order

-- and so do changes
pub in_order-change_rows : (changes : List Change) (rows : List Row) → IsInKeyOrder rows → IsInKeyOrder (change_rows rows changes)
in_order-change_rows [] rows order = order
in_order-change_rows (change ∷ changes) rows order =
    in_order-change_rows changes (change_row rows change.0 change.1) (in_order-change_row rows change.0 change.1 order)

-- a change where a test passes
row_after-if : (b : Bool) (change : Change) (before : Option Row) → row_after (if b then Some change else None) before ≡ (if b then change.1 else before)
row_after-if true change before = refl
row_after-if false change before = refl

-- the change that is at the key, if it is
abbrev here : Change → Key → Option Change
here change key = if is_eq (key_cmp change.0 key) then Some change else None

-- what one change leaves under a key
row_at-change_row : (rows : List Row) (change : Change) → IsInKeyOrder rows → StandsUnderItsKey change → (key : Key)
    → row_at (change_row rows change.0 change.1) key ≡ row_after (here change key) (row_at rows key)
row_at-change_row rows (at, None) order own key =
    find_without key_cmp row_key key_cmp_total rows at key order ∙ sym (row_after-if (is_eq (key_cmp at key)) (at, None) (row_at rows key))
row_at-change_row rows (at, Some row) order own key =
    find_put key_cmp row_key key_cmp_total rows row key
    ∙ (ap (λ (k : Key). if is_eq (key_cmp k key) then Some row else row_at rows key) own
    ∙ sym (row_after-if (is_eq (key_cmp at key)) (at, Some row) (row_at rows key)))

-- the later of two changes leaves what both leave, one after the other
row_after-later_of : (earlier later : Option Change) (before : Option Row) → row_after (later_of earlier later) before ≡ row_after later (row_after earlier before)
row_after-later_of earlier None before = refl
row_after-later_of earlier (Some later) before = refl

-- changes leave under a key what the last of them there says
pub row_at-change_rows : (changes : List Change) (rows : List Row) → IsInKeyOrder rows → StandUnderTheirKeys changes → (key : Key)
    → row_at (change_rows rows changes) key ≡ row_after (last_in changes key) (row_at rows key)
row_at-change_rows [] rows order own key = refl
row_at-change_rows (change ∷ changes) rows order own key =
    row_at-change_rows changes (change_row rows change.0 change.1) (in_order-change_row rows change.0 change.1 order) own.1 key
    ∙ (ap (row_after (last_in changes key)) (row_at-change_row rows change order own.0 key)
    ∙ sym (row_after-later_of (here change key) (last_in changes key) (row_at rows key)))

-- the later of none and a change is the change
later_of-none : (later : Option Change) → later_of None later ≡ later
later_of-none None = refl
later_of-none (Some later) = refl

-- a key that equals one below all changes is not among them
last_in-above : (changes : List Change) (low key : Key) → AllByRecursion (λ change. key_cmp low (change_key change) ≡ Less) changes → key_cmp low key ≡ Equal → last_in changes key ≡ None
last_in-above [] low key above same = refl
last_in-above (change ∷ changes) low key above same =
    let greater : key_cmp change.0 key ≡ Greater =
    key_cmp_total.antisymm change.0 key ∙ ap ordering_reverse (sym (key_cmp_total.congr low key change.0 same) ∙ above.0) in
    rw (greater, last_in-above changes low key above.1 same) refl

-- where each key stands once, the last change of a key is the one that is found
pub last_in-ascending : (changes : List Change) (key : Key) → HasAscendingKeys changes → last_in changes key ≡ change_at changes key
last_in-ascending [] key order = refl
last_in-ascending (change ∷ changes) key order = by (last_in-ascending changes key order.1) (key_cmp change.0 key) refl
  where
    by : last_in changes key ≡ change_at changes key → (o : Ordering) → key_cmp change.0 key ≡ o → last_in (change ∷ changes) key ≡ change_at (change ∷ changes) key
    by more Less e = rw e (ap (later_of None) more ∙ later_of-none (change_at changes key))
    by more Equal e = rw (e, last_in-above changes change.0 key order.0 e) refl
    by more Greater e = rw e (ap (later_of None) more ∙ later_of-none (change_at changes key))
