-- What live and other drafts show isn't changed by what is done with a draft.
use Rattle.std.proofs.Common.{◌≡◌, ◌≢◌, ℕ, Bool, true, false, not, List, [], ◌∷◌, refl, sym, ap, subst, ◌∙◌, Option, Some, None}
use Rattle.std.specs.Prelude.{filter, ◌==◌, ◌&&◌, ◌||◌, Ok}
use Rattle.std.specs.List.{fold, AllByRecursion}
use Rattle.std.specs.Option.{option_and_then}
use Rattle.std.specs.declared.cmp.Ordering.{Ordering}
use Rattle.std.specs.declared.cmp.Ordering.TheVariants.{Less, Equal, Greater}
use Rattle.std.proofs.lemmas.Bool.{eqb-true, eq-eqb, ne_eqb, false≢true}
use Rattle.shop_defs.specs.declared.key.Key.{Key}
use Rattle.shop_defs.specs.declared.row.Row.{Row}
use Rattle.shop_requests.specs.declared.raw.RawOp.{RawOp}
use Rattle.shop_defs.specs.declared.op.Op.{Op}
use Rattle.shop_defs.specs.Keys.{key_cmp}
use Rattle.shop_defs.specs.Rows.{row_key, row_at, IsInKeyOrder}
use Rattle.shop_defs.proofs.Keys.{key_cmp_total}
use Rattle.shop_operations.specs.References.{is_live, live, of_version}
use Rattle.shop_operations.specs.Upserts.{place_cmp, with_row}
use Rattle.shop_operations.specs.Views.{IsInPlaceOrder}
use Rattle.shop_soundness.proofs.InOrder.{ascends_filter}
use Rattle.shop_soundness.proofs.Places.{place_cmp_total}
use Rattle.shop_drafts.specs.Drafts.{draft_key, root_of, root_in, is_open, over, shown_by, shown_rows}
use Rattle.shop_drafts.specs.Making.{is_of_draft, dropped, made, made_rows, make_draft, drop_draft, with_rows}
use Rattle.shop_drafts.specs.Writing.{written, without_version, with_commits, new_commit, next_number, read_all, draft_write}
use Rattle.shop_drafts.specs.Laws.{OthersShowTheSame, NothingElseChanges}
use Rattle.shop_drafts.specs.declared.aggregate.Root.{Root}
use Rattle.shop_drafts.proofs.Keys.{key_is}
use Rattle.shop_drafts.proofs.Orders.{filter_all, filter_puts_pass, ascends_puts}
use Rattle.shop_drafts.proofs.Apart.{AllLive, live_is, filter_swap, filter_again, of_draft_by_key, made_is, written_is, making, writing, dropping, merging}

-- ---- the order of live rows

as_places : (a b : Key) → a.version ≡ 0 → b.version ≡ 0 → key_cmp a b ≡ place_cmp a b
as_places a b v w = rw (v, w) refl

pub as_place_order : (rows : List Row) → AllLive rows → IsInKeyOrder rows → IsInPlaceOrder rows
as_place_order [] all up = tt
as_place_order (row ∷ rest) all up = (heads rest all.1 up.0, as_place_order rest all.1 up.1)
  where
    heads : (rest : List Row) → AllLive rest → AllByRecursion (λ other. key_cmp row.key other.key ≡ Less) rest → AllByRecursion (λ other. place_cmp row.key other.key ≡ Less) rest
    heads [] on above = tt
    heads (other ∷ rest) on above = (sym (as_places row.key other.key all.0 on.0) ∙ above.0, heads rest on.1 above.1)

pub as_key_order : (rows : List Row) → AllLive rows → IsInPlaceOrder rows → IsInKeyOrder rows
as_key_order [] all up = tt
as_key_order (row ∷ rest) all up = (heads rest all.1 up.0, as_key_order rest all.1 up.1)
  where
    heads : (rest : List Row) → AllLive rest → AllByRecursion (λ other. place_cmp row.key other.key ≡ Less) rest → AllByRecursion (λ other. key_cmp row.key other.key ≡ Less) rest
    heads [] on above = tt
    heads (other ∷ rest) on above = (as_places row.key other.key all.0 on.0 ∙ above.0, heads rest on.1 above.1)

pub live_in_order : (rows : List Row) → IsInKeyOrder rows → IsInPlaceOrder (live rows)
live_in_order rows up = as_place_order (live rows) (live_is rows) (ascends_filter key_cmp row_key is_live rows up)

-- ---- what another version shows

-- rows of another draft pass
passes : (version other : ℕ) (row : Row) → other ≢ version → other ≢ 0 → (row.key.version == other) ≡ true → not (is_of_draft version row) ≡ true
passes version other row n m e =
    let is : row.key.version ≡ other = eqb-true row.key.version other e in
    let a : (row.key.version == version) ≡ false = ap (λ v. v == version) is ∙ ne_eqb other version n in
    let b : (row.key.version == 0) ≡ false = ap (λ v. v == 0) is ∙ ne_eqb other 0 m in
    rw (a, b) refl

all_pass : (version other : ℕ) (rows : List Row) → other ≢ version → other ≢ 0 → AllByRecursion (λ row. not (is_of_draft version row) ≡ true) (of_version other rows)
all_pass version other [] n m = tt
all_pass version other (row ∷ rows) n m = by (all_pass version other rows n m) (row.key.version == other) refl
  where
    by : AllByRecursion (λ row. not (is_of_draft version row) ≡ true) (of_version other rows) → (b : Bool) → (row.key.version == other) ≡ b → AllByRecursion (λ row. not (is_of_draft version row) ≡ true) (of_version other (row ∷ rows))
    by more true e = rw e (passes version other row n m e, more)
    by more false e = rw e more

own_kept : (version other : ℕ) (rows : List Row) → other ≢ version → other ≢ 0 → of_version other (dropped rows version) ≡ of_version other rows
unfolding dropped
own_kept version other rows n m =
    filter_swap (λ row. row.key.version == other) (λ row. not (is_of_draft version row)) rows
    ∙ filter_all (λ row. not (is_of_draft version row)) (of_version other rows) (all_pass version other rows n m)

over_kept : (version other : ℕ) (root : Root) (rows : List Row) → IsInKeyOrder rows → other ≢ version → other ≢ 0 → dropped (over rows other root) version ≡ over (dropped rows version) other root
unfolding dropped over
over_kept version other root rows up n m =
    let own = of_version other rows in
    filter_puts_pass place_cmp row_key place_cmp_total (λ row. not (is_of_draft version row)) own (filter (is_open root own) (live rows))
    (ascends_filter place_cmp row_key (is_open root own) (live rows) (live_in_order rows up)) (all_pass version other rows n m)
    ∙ (ap (λ shown. fold with_row shown own)
    (filter_swap (λ row. not (is_of_draft version row)) (is_open root own) (live rows)
    ∙ ap (filter (is_open root own)) (filter_swap (λ row. not (is_of_draft version row)) is_live rows))
    ∙ ap (λ (mine : List Row). fold with_row (filter (is_open root mine) (live (dropped rows version))) mine) (sym (own_kept version other rows n m)))

-- a row at a key that passes is found
pub found_kept : (p : Row → Bool) (rows : List Row) (key : Key) → ((row : Row) → row.key ≡ key → p row ≡ true) → row_at (filter p rows) key ≡ row_at rows key
found_kept p [] key f = refl
found_kept p (row ∷ rows) key f = by (found_kept p rows key f) (p row) refl (key_cmp row.key key) refl
  where
    by : row_at (filter p rows) key ≡ row_at rows key → (b : Bool) → p row ≡ b → (o : Ordering) → key_cmp row.key key ≡ o → row_at (filter p (row ∷ rows)) key ≡ row_at (row ∷ rows) key
    by more true e Less g = rw (e, g) more
    by more true e Equal g = rw (e, g) refl
    by more true e Greater g = rw (e, g) more
    by more false e Less g = rw (e, g) more
    by more false e Equal g = absurd (false≢true (sym e ∙ f row (key_is row.key key g)))
    by more false e Greater g = rw (e, g) more

pub other_draft : (version other : ℕ) (row : Row) → version ≢ 0 → other ≢ version → row.key ≡ draft_key other → not (is_of_draft version row) ≡ true
other_draft version other row n m e = of_draft_by_key version row (record row { key = draft_key other }) e ∙ by (0 == version) (ne_eqb 0 version (λ f. n (sym f))) (version == other) (ne_eqb version other (λ f. m (sym f)))
  where
    by : (a : Bool) → a ≡ false → (b : Bool) → b ≡ false → not (a || ((b && true) || false)) ≡ true
    by true e b f = absurd (false≢true (sym e))
    by false e true f = absurd (false≢true (sym f))
    by false e false f = refl

root_kept : (rows : List Row) (version other : ℕ) → version ≢ 0 → other ≢ version → root_in (dropped rows version) other ≡ root_in rows other
unfolding dropped
root_kept rows version other n m = ap (option_and_then root_of) (found_kept (λ row. not (is_of_draft version row)) rows (draft_key other) (λ row e. other_draft version other row n m e))

live_kept : (rows : List Row) (version : ℕ) → dropped (live rows) version ≡ live (dropped rows version)
unfolding dropped
live_kept rows version = filter_swap (λ row. not (is_of_draft version row)) is_live rows

none_kept : (version : ℕ) → dropped [] version ≡ []
unfolding dropped
none_kept version = refl

-- what another version shows without the rows that keep the draft
shown_kept : (rows : List Row) (version other : ℕ) → IsInKeyOrder rows → version ≢ 0 → other ≢ version → dropped (shown_rows rows other) version ≡ shown_rows (dropped rows version) other
shown_kept rows version other up n m = by (other == 0) refl
  where
    rooted : other ≢ 0 → (root : Option Root) → dropped (shown_by rows other root) version ≡ shown_by (dropped rows version) other root
    rooted o None = none_kept version
    rooted o (Some root) = over_kept version other root rows up m o

    by : (b : Bool) → (other == 0) ≡ b → dropped (shown_rows rows other) version ≡ shown_rows (dropped rows version) other
    by true e = rw e (live_kept rows version)
    by false e = rw e (rooted (λ f. false≢true (sym e ∙ eq-eqb other 0 f)) (root_in rows other) ∙ ap (shown_by (dropped rows version) other) (sym (root_kept rows version other n m)))

others_show : (rows after : List Row) (version : ℕ) → IsInKeyOrder rows → IsInKeyOrder after → version ≢ 0 → dropped after version ≡ dropped rows version → OthersShowTheSame version rows after
others_show rows after version up on n e other m = shown_kept after version other on n m ∙ (ap (λ now. shown_rows now other) e ∙ sym (shown_kept rows version other up n m))

-- ---- the order of rows afterwards

pub made_in_order : (rows : List Row) (version : ℕ) (root : Root) → IsInKeyOrder rows → IsInKeyOrder (made rows version root)
unfolding made
made_in_order rows version root up = ascends_puts key_cmp row_key key_cmp_total (made_rows rows version root) rows up

pub written_in_order : (rows : List Row) (version : ℕ) (draft : Row) (ops : List Op) (shown : List Row) → IsInKeyOrder rows → IsInKeyOrder (written rows version draft ops shown)
unfolding written
written_in_order rows version draft ops shown up =
    ascends_puts key_cmp row_key key_cmp_total (with_commits (next_number rows version) draft ∷ new_commit version (next_number rows version) ops ∷ []) (with_rows (without_version rows version) (of_version version shown))
    (ascends_puts key_cmp row_key key_cmp_total (of_version version shown) (without_version rows version)
    (ascends_filter key_cmp row_key (λ row. not (row.key.version == version)) rows up))

pub dropped_in_order : (rows : List Row) (version : ℕ) → IsInKeyOrder rows → IsInKeyOrder (dropped rows version)
unfolding dropped
dropped_in_order rows version up = ascends_filter key_cmp row_key (λ row. not (is_of_draft version row)) rows up

pub dropped_again : (rows : List Row) (version : ℕ) → dropped (dropped rows version) version ≡ dropped rows version
unfolding dropped
dropped_again rows version = filter_again (λ row. not (is_of_draft version row)) rows

-- ---- the laws

from : (a b : List Row) → a ≡ b → IsInKeyOrder a → IsInKeyOrder b
from a b e up = subst IsInKeyOrder e up

made_shows : (rows after : List Row) (version : ℕ) (name : List ℕ) (id : ℕ) → IsInKeyOrder rows → version ≢ 0 → make_draft rows version name id ≡ Ok after → OthersShowTheSame version rows after
made_shows rows after version name id up n e =
    let m = made_is rows after version name id e in
    others_show rows after version up (from (made rows version m.root) after m.is (made_in_order rows version m.root up)) n (making rows after version name id e)

written_shows : (rows after : List Row) (version : ℕ) (ops : List RawOp) → IsInKeyOrder rows → version ≢ 0 → draft_write rows version ops ≡ Ok after → OthersShowTheSame version rows after
written_shows rows after version ops up n e =
    let w = written_is rows after version ops e in
    others_show rows after version up (from (written rows version w.draft (read_all ops) w.shown) after w.is (written_in_order rows version w.draft (read_all ops) w.shown up)) n (writing rows after version ops e)

dropped_shows : (rows after : List Row) (version : ℕ) → IsInKeyOrder rows → version ≢ 0 → drop_draft rows version ≡ Ok after → OthersShowTheSame version rows after
dropped_shows rows after version up n e =
    let d = dropping rows after version e in
    others_show rows after version up (from (dropped rows version) after (sym d) (dropped_in_order rows version up)) n (ap (λ now. dropped now version) d ∙ dropped_again rows version)

pub nothing_else_changes : NothingElseChanges
nothing_else_changes = record {
  making = making;
  writing = writing;
  dropping = dropping;
  merging = merging;
  made_shows = made_shows;
  written_shows = written_shows;
  dropped_shows = dropped_shows;
}
