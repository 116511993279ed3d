-- What an accepted batch leaves of sound rows.
use Rattle.std.proofs.Common.{◌≡◌, ◌⊎◌, inl, inr, Bool, true, false, List, [], ◌∷◌, Ok, not, refl, sym, ap, subst, ◌∙◌}
use Rattle.std.specs.List.{AllByRecursion}
use Rattle.std.specs.declared.cmp.Ordering.TheVariants.{Less}
use Rattle.std.proofs.lemmas.Bool.{eq-eqb}
use Rattle.closure.specs.Closure.{IsIn}
use Rattle.closure.proofs.Members.{in_filter, of_filter}
use Rattle.shop_defs.specs.declared.key.Key.{Key}
use Rattle.shop_requests.specs.declared.raw.RawOp.{RawOp}
use Rattle.shop_defs.specs.declared.row.Row.{Row}
use Rattle.shop_defs.specs.Fitting.{is_writable}
use Rattle.shop_defs.specs.Keys.{key_cmp}
use Rattle.shop_defs.specs.Rows.{row_key, IsInKeyOrder}
use Rattle.shop_defs.proofs.Keys.{key_cmp_total}
use Rattle.shop_kept.specs.Spelling.{IsKeptRow}
use Rattle.shop_soundness.specs.Batches.{live_batch}
use Rattle.shop_operations.specs.References.{is_live, live}
use Rattle.shop_operations.specs.Soundness.{IsCoherent}
use Rattle.shop_operations.specs.Upserts.{place_cmp}
use Rattle.shop_operations.specs.Views.{IsInPlaceOrder, drafted, live_view, count_hidden}
use Rattle.shop_soundness.specs.Origins.{HadRow}
use Rattle.shop_soundness.specs.WellFormed.{IsWellFormed, AreWellFormed, unwritten}
use Rattle.shop_soundness.proofs.Kept.{batches_keep_rows}
use Rattle.shop_soundness.proofs.Made.{batches_make_up_nothing}
use Rattle.shop_soundness.proofs.Sound.{batches_keep_coherence}
use Rattle.shop_soundness.proofs.Lists.{of_each, each_of}
use Rattle.shop_write.specs.BatchPlans.{HaveIds}
use Rattle.shop_write.proofs.InOrder.{filter_all, weaken, all_filter, all_puts}
use Rattle.shop_write.proofs.LivePlaces.{AllLive, all_live, as_places}
use Rattle.shop_check.specs.Soundness.{AreSound, IsSoundRow}
use Rattle.shop_core.specs.Steps.{with_live}
use Rattle.shop_core.proofs.LiveRows.{with_live_up, live-with_live, drafted-with_live, count_hidden_same}
use Rattle.shop_core.proofs.RowForms.{sound_is_written, sound_is_formed, formed_is_sound}

-- ---- the order of keys

below_keys : (key : Key) (rows : List Row) → key.version ≡ 0 → AllLive rows → AllByRecursion (λ row. place_cmp key (row_key row) ≡ Less) rows → AllByRecursion (λ row. key_cmp key (row_key row) ≡ Less) rows
below_keys key [] v all below = tt
below_keys key (row ∷ rows) v all below = (as_places key row.key v all.0 ∙ below.0, below_keys key rows v all.1 below.1)

-- live rows in the order of their places are in that of their keys
in_key_order : (rows : List Row) → AllLive rows → IsInPlaceOrder rows → IsInKeyOrder rows
in_key_order [] all up = tt
in_key_order (row ∷ rows) all up = (below_keys row.key rows all.0 all.1 up.0, in_key_order rows all.1 up.1)

-- ---- what the batch leaves

-- live rows that operations may write, each as its entity has it, in key order, which fit one another
pub record AreLeft (rows now : List Row) : Type 0 where
  pub are_live : AllLive now
  pub order : IsInKeyOrder now
  pub written : (row : Row) → IsIn row now → is_writable row.key.entity ≡ true
  pub formed : (row : Row) → IsIn row now → IsWellFormed row
  pub coherent : IsCoherent (record (live_view rows) { rows = now })

abbrev is_unwritten : Row → Bool
is_unwritten row = not (is_writable row.key.entity)

module _ (rows : List Row) (sound : AreSound rows) where
  pub live_sound : (row : Row) → IsIn row (live rows) → IsSoundRow row
  live_sound row i = of_each IsSoundRow rows row sound.each (of_filter is_live rows row i).is_in

  all_formed : AreWellFormed (live rows)
  all_formed row i writable = sound_is_formed row (live_sound row i)

  -- operations may write each of the rows
  none_unwritten : (part : List Row) → ((row : Row) → IsIn row part → IsSoundRow row) → unwritten part ≡ []
  none_unwritten [] each = refl
  none_unwritten (row ∷ part) each = rw (sound_is_written row (each row (inl refl))) (none_unwritten part (λ other i. each other (inr i)))

  pub left_by_batch : (now : List Row) (ops : List RawOp) → HaveIds ops → live_batch rows ops ≡ Ok now → AreLeft rows now
  left_by_batch now ops ids done =
      let kept = batches_keep_rows (live_view rows) 1 ops now all_formed ids done in
      let origins = batches_make_up_nothing (live_view rows) 1 ops now done in
      let coherent = batches_keep_coherence (live_view rows) 1 ops now sound.coherent ids done in
      let none : unwritten now ≡ [] = kept.others ∙ none_unwritten (live rows) live_sound in
      let lives : AllLive now = each_of (λ row. row.key.version ≡ 0) now (λ row i. version row (origins.keys row i)) in
      record {
        are_live = lives;
        order = in_key_order now lives coherent.in_order;
        written = λ row i. is_written row i none (is_writable row.key.entity) refl;
        formed = λ row i. kept.formed row i (is_written row i none (is_writable row.key.entity) refl);
        coherent = coherent;
      }
    where
      version : (row : Row) → HadRow (live rows) row.key ⊎ (row.key.version ≡ 0) → row.key.version ≡ 0
      version row (inl had) = sym (ap (λ (k : Key). k.version) had.same) ∙ of_each (λ other. other.key.version ≡ 0) (live rows) had.row (all_live rows) had.is_in
      version row (inr e) = e

      is_written : (row : Row) → IsIn row now → unwritten now ≡ [] → (b : Bool) → is_writable row.key.entity ≡ b → is_writable row.key.entity ≡ true
      is_written row i none true e = e
      is_written row i none false e = absurd (subst (λ (l : List Row). IsIn row l) none (in_filter is_unwritten now row i (ap not e)))

-- ---- soundness

module _ (rows now : List Row) (sound : AreSound rows) (left : AreLeft rows now) where
  all_stay : live now ≡ now
  all_stay = filter_all is_live now (weaken (λ row. row.key.version ≡ 0) (λ row. is_live row ≡ true) now (λ row v. eq-eqb row.key.version 0 v) left.are_live)

  pub stays_live : live (with_live rows now) ≡ now
  stays_live = live-with_live rows now sound.order left.order all_stay

  stays_coherent : IsCoherent (live_view (with_live rows now))
  stays_coherent = subst (λ (l : List Row). IsCoherent (record { version = 0; rows = l; hidden = count_hidden (with_live rows now) })) (sym stays_live) (record {
    in_order = left.coherent.in_order;
    formed = left.coherent.formed;
    grounded = left.coherent.grounded;
    of_one_tree = left.coherent.of_one_tree;
    single = left.coherent.single;
    shallow = left.coherent.shallow;
    bounded = λ entity. rw (count_hidden_same rows (with_live rows now) entity (drafted-with_live rows now sound.order left.order all_stay)) (left.coherent.bounded entity);
    few = left.coherent.few;
  })

  now_sound : ((row : Row) → IsIn row now → IsKeptRow row) → (row : Row) → IsIn row now → IsSoundRow row
  now_sound encoding row i = formed_is_sound row (left.formed row i) (left.written row i) (eq-eqb row.key.version 0 (of_each (λ other. other.key.version ≡ 0) now row left.are_live i)) (encoding row i)

  -- what is left stands soundly in place of the live rows
  pub left_is_sound : ((row : Row) → IsIn row now → IsKeptRow row) → AreSound (with_live rows now)
  left_is_sound encoding = record {
    order = with_live_up rows now sound.order;
    each = all_puts key_cmp row_key key_cmp_total IsSoundRow now (drafted rows) (all_filter IsSoundRow (λ row. not (is_live row)) rows sound.each) (each_of IsSoundRow now (now_sound encoding));
    coherent = stays_coherent;
  }
