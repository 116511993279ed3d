-- What the live rows are after a batch takes changes in, and what it changed in all.
use Rattle.std.proofs.Common.{◌≡◌, ◌<◌, ◌+◌, ◌++◌, ℕ, length, take, get_or, subst, List, [], ◌∷◌, refl, sym, ap, ◌∙◌, Option, Some, None, if◌then◌else◌}
use Rattle.std.specs.Prelude.{is_some, unwrap_or, map}
use Rattle.std.specs.Option.{option_map, option_and_then, option_to_list}
use Rattle.std.proofs.lemmas.List.{take_more}
use Rattle.std.proofs.lemmas.List.Elements.{filter_map-append}
use Rattle.std.specs.List.{AllByRecursion, cons_option}
use Rattle.std.specs.declared.cmp.Ordering.{Ordering}
use Rattle.std.specs.declared.cmp.Ordering.TheVariants.{Less, Equal, Greater}
use Rattle.std.specs.Ordering.{ordering_reverse}
use Rattle.std.proofs.lemmas.Bool.{false≢true}
use Rattle.shop_defs.specs.declared.key.Key.{Key}
use Rattle.shop_defs.specs.declared.row.Row.{Row}
use Rattle.shop_defs.specs.Joined.{Change, change_key, change_at}
use Rattle.shop_defs.specs.Keys.{key_cmp}
use Rattle.shop_defs.specs.Rows.{row_key, row_at, change_rows, IsInKeyOrder}
use Rattle.shop_defs.proofs.Keys.{key_cmp_total}
use Rattle.shop_operations.specs.References.{live}
use Rattle.shop_operations.specs.Views.{change_places, drafted}
use Rattle.shop_rows.specs.Changing.{row_after, StandsUnderItsKey, StandUnderTheirKeys, HasAscendingKeys}
use Rattle.shop_rows.proofs.ChangedRows.{in_order-change_rows, row_at-change_rows, last_in-ascending}
use Rattle.shop_write.specs.Growth.{AreLive, put_in, Growth, changes_so_far, changes_of, grown, IsGrowth, losses, left_by, taken_out, change_by, joined_keys}
use Rattle.shop_write.proofs.InOrder.{found_key, find_as, same_from_find, later, map_puts, all_found}
use Rattle.shop_write.proofs.LivePlaces.{AllLive, all_live, same_version}
use Rattle.shop_write.proofs.LiveChanges.{live-change_rows, live-change_rows_by_key, drafted-change_rows}
use Rattle.shop_write.proofs.Growths.{row_at-changes, changes_ascend, changes_stand, changes_live, change_at-changes}

-- what changes leave at a key, each key once
pub row_at-after : (rows : List Row) (changes : List Change) (key : Key) → IsInKeyOrder rows → StandUnderTheirKeys changes → HasAscendingKeys changes → row_at (change_rows rows changes) key ≡ row_after (change_at changes key) (row_at rows key)
row_at-after rows changes key up stand ascends =
    row_at-change_rows changes rows up stand key ∙ ap (λ change. row_after change (row_at rows key)) (last_in-ascending changes key ascends)

-- ---- the rows that stood where changes are made

weaker : (P Q : Change → Type 0) (changes : List Change) → ((change : Change) → P change → Q change) → AllByRecursion P changes → AllByRecursion Q changes
weaker P Q [] f all = tt
weaker P Q (change ∷ changes) f all = (f change all.0, weaker P Q changes f all.1)

module _ (base : List Row) where
  -- the loss at a key
  abbrev loss : Key → Option Change
  loss key = option_map put_in (row_at base key)

  all_losses : (P : Change → Type 0) (changes : List Change) → AllByRecursion (λ change. (row : Row) → row_at base change.0 ≡ Some row → P (put_in row)) changes → AllByRecursion P (losses base changes)
  all_losses P [] all = tt
  all_losses P (change ∷ changes) all = by (all_losses P changes all.1) (row_at base change.0) refl
    where
      by : AllByRecursion P (losses base changes) → (found : Option Row) → row_at base change.0 ≡ found → AllByRecursion P (losses base (change ∷ changes))
      by more None e = rw e more
      by more (Some row) e = rw e (all.0 row e, more)

  each : (P : Change → Type 0) (changes : List Change) → ((change : Change) → P change) → AllByRecursion P changes
  each P [] f = tt
  each P (change ∷ changes) f = (f change, each P changes f)

  losses_stand : (changes : List Change) → StandUnderTheirKeys (losses base changes)
  losses_stand changes = all_losses StandsUnderItsKey changes (each _ changes (λ change row e. refl))

  losses_live : (changes : List Change) → AreLive changes → AreLive (losses base changes)
  losses_live changes all = all_losses (λ change. change.0.version ≡ 0) changes (weaker (λ change. change.0.version ≡ 0) _ changes (λ change v row e. same_version row.key change.0 (found_key key_cmp row_key key_cmp_total base change.0 row e) ∙ v) all)

  above_losses : (key : Key) (changes : List Change) → AllByRecursion (λ change. key_cmp key change.0 ≡ Less) changes → AllByRecursion (λ change. key_cmp key change.0 ≡ Less) (losses base changes)
  above_losses key changes all = all_losses (λ change. key_cmp key change.0 ≡ Less) changes (weaker (λ change. key_cmp key change.0 ≡ Less) _ changes (λ change l row e. above change l row (found_key key_cmp row_key key_cmp_total base change.0 row e)) all)
    where
      above : (change : Change) → key_cmp key change.0 ≡ Less → (row : Row) → key_cmp row.key change.0 ≡ Equal → key_cmp key row.key ≡ Less
      above change l row e = key_cmp_total.antisymm key row.key ∙ ap ordering_reverse (key_cmp_total.congr row.key change.0 key e ∙ (key_cmp_total.antisymm change.0 key ∙ ap ordering_reverse l))

  losses_ascend : (changes : List Change) → HasAscendingKeys changes → HasAscendingKeys (losses base changes)
  losses_ascend [] up = tt
  losses_ascend (change ∷ changes) up = by (losses_ascend changes up.1) (row_at base change.0) refl
    where
      by : HasAscendingKeys (losses base changes) → (found : Option Row) → row_at base change.0 ≡ found → HasAscendingKeys (losses base (change ∷ changes))
      by more None e = rw e more
      by more (Some row) e = rw e (weaker (λ other. key_cmp change.0 other.0 ≡ Less) (λ other. key_cmp row.key other.0 ≡ Less) (losses base changes) (λ other l. key_cmp_total.congr row.key change.0 other.0 (found_key key_cmp row_key key_cmp_total base change.0 row e) ∙ l) (above_losses change.0 changes up.0), more)

  -- at a key where a change is, what stood there is the loss
  change_at-losses : (changes : List Change) (key : Key) → change_at (losses base changes) key ≡ option_and_then (λ change. loss key) (change_at changes key)
  change_at-losses [] key = refl
  change_at-losses (change ∷ changes) key = by (change_at-losses changes key) (row_at base change.0) refl (key_cmp change.0 key) refl
    where
      nothing : (at : Option Change) → row_at base key ≡ None → option_and_then (λ (c : Change). loss key) at ≡ None
      nothing None e = refl
      nothing (Some c) e = rw e refl

      by : change_at (losses base changes) key ≡ option_and_then (λ (c : Change). loss key) (change_at changes key) → (found : Option Row) → row_at base change.0 ≡ found → (o : Ordering) → key_cmp change.0 key ≡ o
          → change_at (losses base (change ∷ changes)) key ≡ option_and_then (λ (c : Change). loss key) (change_at (change ∷ changes) key)
      by more None e Less f = rw (e, f) more
      by more None e Greater f = rw (e, f) more
      by more None e Equal f =
          let gone = sym (find_as key_cmp row_key key_cmp_total base change.0 key f) ∙ e in
          rw (e, f) (more ∙ (nothing (change_at changes key) gone ∙ sym (nothing (Some change) gone)))
      by more (Some row) e Less f = rw (e, key_cmp_total.congr row.key change.0 key (found_key key_cmp row_key key_cmp_total base change.0 row e), f) more
      by more (Some row) e Greater f = rw (e, key_cmp_total.congr row.key change.0 key (found_key key_cmp row_key key_cmp_total base change.0 row e), f) more
      by more (Some row) e Equal f =
          let there = sym (find_as key_cmp row_key key_cmp_total base change.0 key f) ∙ e in
          rw (e, key_cmp_total.congr row.key change.0 key (found_key key_cmp row_key key_cmp_total base change.0 row e), f, there) refl

losses_more_at : (base : List Row) (changes : List Change) (i : ℕ) (d : Change) → i < length changes → losses base (take (i + 1) changes) ≡ losses base (take i changes) ++ option_to_list (option_map put_in (row_at base (get_or changes i d).0))
losses_more_at base changes i d low =
    ap (losses base) (take_more changes i d low)
    ∙ (filter_map-append (λ (change : Change). option_map put_in (row_at base change.0)) (take i changes) (get_or changes i d ∷ [])
    ∙ ap (λ part. losses base (take i changes) ++ part) (by (option_map put_in (row_at base (get_or changes i d).0))))
  where
    by : (o : Option Change) → cons_option o [] ≡ option_to_list o
    by None = refl
    by (Some change) = refl

-- the losses of one change more
pub losses_more : (base : List Row) (changes : List Change) (i : ℕ) (change : Change) → i < length changes → change ≡ get_or changes i change
    → losses base (take (i + 1) changes) ≡ losses base (take i changes) ++ option_to_list (option_map put_in (row_at base change.0))
losses_more base changes i change low is =
    losses_more_at base changes i change low ∙ ap (λ (at : Change). losses base (take i changes) ++ option_to_list (option_map put_in (row_at base at.0))) (sym is)

-- ---- the growth after changes of live rows

module _ (growth : Growth) (is : IsGrowth growth) (changes : List Change) (ascends : HasAscendingKeys changes) (stand : StandUnderTheirKeys changes) (are_live : AreLive changes) where
  abbrev pub next : Growth
  next = record { base = growth.base; lost = change_rows growth.lost (losses growth.base changes); over = change_rows growth.over changes }

  over_at : (key : Key) → row_at next.over key ≡ row_after (change_at changes key) (row_at growth.over key)
  over_at key = row_at-after growth.over changes key is.over_order stand ascends

  lost_at : (key : Key) → row_at next.lost key ≡ row_after (option_and_then (λ change. option_map put_in (row_at growth.base key)) (change_at changes key)) (row_at growth.lost key)
  lost_at key =
      row_at-after growth.lost (losses growth.base changes) key is.lost_order (losses_stand growth.base changes) (losses_ascend growth.base changes ascends)
      ∙ ap (λ change. row_after change (row_at growth.lost key)) (change_at-losses growth.base changes key)

  -- where nothing stood nothing is lost
  none_lost : (key : Key) → row_at growth.base key ≡ None → row_at growth.lost key ≡ None
  none_lost key e = by (row_at growth.lost key) refl
    where
      by : (found : Option Row) → row_at growth.lost key ≡ found → found ≡ None
      by None f = refl
      by (Some row) f = absurd (false≢true (ap is_some (sym e ∙ is.were key row f)))

  -- where a change is made, what stood there is lost
  lost_there : (key : Key) → row_after (option_map put_in (row_at growth.base key)) (row_at growth.lost key) ≡ row_at growth.base key
  lost_there key = by (row_at growth.base key) refl
    where
      by : (found : Option Row) → row_at growth.base key ≡ found → row_after (option_map put_in found) (row_at growth.lost key) ≡ found
      by None e = none_lost key e
      by (Some row) e = refl

  lost_by : (key : Key) (at : Option Change) → change_at changes key ≡ at → row_at next.lost key ≡ (if is_some at then row_at growth.base key else row_at growth.lost key)
  lost_by key None e = lost_at key ∙ rw e refl
  lost_by key (Some change) e = lost_at key ∙ rw e (lost_there key)

  pub next_is : IsGrowth next
  next_is = record {
    base_order = is.base_order;
    lost_order = in_order-change_rows (losses growth.base changes) growth.lost is.lost_order;
    over_order = in_order-change_rows changes growth.over is.over_order;
    lost_live = live-change_rows_by_key (losses growth.base changes) growth.lost is.lost_order (losses_live growth.base changes are_live) (losses_stand growth.base changes) ∙ ap (λ rows. change_rows rows (losses growth.base changes)) is.lost_live;
    over_live = live-change_rows_by_key changes growth.over is.over_order are_live stand ∙ ap (λ rows. change_rows rows changes) is.over_live;
    were = λ key row e. were key row (change_at changes key) refl e;
    replaced = λ key row e. replaced key row (change_at changes key) refl e;
  }
    where
      were : (key : Key) (row : Row) (at : Option Change) → change_at changes key ≡ at → row_at next.lost key ≡ Some row → row_at growth.base key ≡ Some row
      were key row None e f = is.were key row (sym (lost_by key None e) ∙ f)
      were key row (Some change) e f = sym (lost_by key (Some change) e) ∙ f

      replaced : (key : Key) (row : Row) (at : Option Change) → change_at changes key ≡ at → row_at next.over key ≡ Some row → row_at next.lost key ≡ row_at growth.base key
      replaced key row None e f = lost_by key None e ∙ is.replaced key row (sym (over_at key ∙ rw e refl) ∙ f)
      replaced key row (Some change) e f = lost_by key (Some change) e

  base_after : List Row
  base_after = change_rows growth.base (changes_so_far growth)

  after_up : IsInKeyOrder (change_rows growth.base (changes_so_far growth))
  after_up = in_order-change_rows (changes_so_far growth) growth.base is.base_order

  -- the changes before and these are the changes after
  all_changed : change_rows growth.base (changes_so_far next) ≡ change_rows (change_rows growth.base (changes_so_far growth)) changes
  all_changed =
      same_from_find key_cmp row_key key_cmp_total _ _
      (in_order-change_rows (changes_so_far next) growth.base is.base_order)
      (in_order-change_rows changes (change_rows growth.base (changes_so_far growth)) after_up)
      (λ key. row_at-changes next.lost next.over next_is.lost_order next_is.over_order growth.base key is.base_order
      ∙ (by key (change_at changes key) refl
      ∙ (ap (row_after (change_at changes key)) (sym (row_at-changes growth.lost growth.over is.lost_order is.over_order growth.base key is.base_order))
      ∙ sym (row_at-after (change_rows growth.base (changes_so_far growth)) changes key after_up stand ascends))))
    where
      out : (key : Key) → (found : Option Row) → left_by found found None ≡ None
      out key None = refl
      out key (Some row) = refl

      by : (key : Key) (at : Option Change) → change_at changes key ≡ at
          → left_by (row_at growth.base key) (row_at next.lost key) (row_at next.over key) ≡ row_after (change_at changes key) (left_by (row_at growth.base key) (row_at growth.lost key) (row_at growth.over key))
      by key None e = rw (lost_by key None e, over_at key, e) refl
      by key (Some (at, Some row)) e = rw (over_at key, e) refl
      by key (Some (at, None)) e = rw (lost_by key (Some (at, None)) e, over_at key, e) (out key (row_at growth.base key))

  -- the live rows afterwards
  pub grown-next : grown next ≡ change_places (grown growth) changes
  unfolding grown
  grown-next = ap live all_changed ∙ live-change_rows changes (change_rows growth.base (changes_so_far growth)) after_up are_live stand

-- ---- the changes in all, key by key

module _ (lost over : List Row) (lost_order : IsInKeyOrder lost) (over_order : IsInKeyOrder over) where
  -- a change is what is put at its key, or else takes out
  change_is : (change : Change) → change_at (changes_of lost over) change.0 ≡ Some change → change_by over change.0 ≡ change
  change_is change e = by (row_at lost change.0) (row_at over change.0) refl (sym e ∙ change_at-changes lost over lost_order over_order change.0)
    where
      by : (l o : Option Row) → row_at over change.0 ≡ o → Some change ≡ later (option_map taken_out l) (option_map put_in (row_at over change.0)) → change_by over change.0 ≡ change
      by l (Some row) f h =
          let fact : Some change ≡ Some (put_in row) = rw f at h in
          let is : change ≡ put_in row = ap (λ found. unwrap_or found change) fact in
          let pair : Key → Change = λ at. (at, Some row) in
          rw f (ap pair (ap (λ (c : Change). c.0) is) ∙ sym is)
      by (Some row) None f h =
          let fact : Some change ≡ Some (taken_out row) = rw f at h in
          let is : change ≡ taken_out row = ap (λ found. unwrap_or found change) fact in
          let pair : Key → Change = λ at. (at, None) in
          rw f (ap pair (ap (λ (c : Change). c.0) is) ∙ sym is)
      by None None f h =
          let fact : Some change ≡ None = rw f at h in
          absurd (false≢true (sym (ap is_some fact)))

  map_back : (changes : List Change) → AllByRecursion (λ change. change_by over change.0 ≡ change) changes → map (change_by over) (map change_key changes) ≡ changes
  map_back [] all = refl
  map_back (change ∷ changes) all = rw (all.0, map_back changes all.1) refl

  keys_taken : (rows : List Row) → map change_key (map taken_out rows) ≡ map row_key rows
  keys_taken [] = refl
  keys_taken (row ∷ rows) = ap (λ keys. row.key ∷ keys) (keys_taken rows)

  keys_put : (rows : List Row) → map change_key (map put_in rows) ≡ map row_key rows
  keys_put [] = refl
  keys_put (row ∷ rows) = ap (λ keys. row.key ∷ keys) (keys_put rows)

  -- the changes in all are made key by key, of the keys of both lists
  pub changes_by_key : map (change_by over) (joined_keys (map row_key lost) (map row_key over)) ≡ changes_of lost over
  changes_by_key =
      let keys : map change_key (changes_of lost over) ≡ joined_keys (map row_key lost) (map row_key over) =
      map_puts key_cmp change_key key_cmp_total (map put_in over) (map taken_out lost) ∙ rw (keys_taken lost, keys_put over) refl in
      ap (map (change_by over)) (sym keys)
      ∙ map_back (changes_of lost over) (weaker (λ change. change_at (changes_of lost over) change.0 ≡ Some change) (λ change. change_by over change.0 ≡ change) (changes_of lost over) change_is (all_found key_cmp change_key key_cmp_total (changes_of lost over) (changes_ascend lost over lost_order over_order)))

-- what holds of the changes in all
pub record DeltaLaws (growth : Growth) : Type 0 where
  pub ascends : HasAscendingKeys (changes_so_far growth)
  pub stand : StandUnderTheirKeys (changes_so_far growth)
  pub are_live : AreLive (changes_so_far growth)
  pub drafts : drafted (change_rows growth.base (changes_so_far growth)) ≡ drafted growth.base

pub delta_laws : (growth : Growth) → IsGrowth growth → DeltaLaws growth
delta_laws growth is =
    let stand = changes_stand growth.lost growth.over is.lost_order is.over_order in
    let lost : AllLive growth.lost = subst AllLive is.lost_live (all_live growth.lost) in
    let over : AllLive growth.over = subst AllLive is.over_live (all_live growth.over) in
    let are_live = changes_live growth.lost growth.over is.lost_order is.over_order lost over in
    record {
      ascends = changes_ascend growth.lost growth.over is.lost_order is.over_order;
      stand = stand;
      are_live = are_live;
      drafts = drafted-change_rows (changes_so_far growth) growth.base is.base_order are_live stand;
    }
