-- What the joined changes of deltas leave is what the deltas leave, one after the other.
use Rattle.std.proofs.Common.{◌≡◌, List, [], ◌∷◌, Option, Some, None, Bool, true, false, if◌then◌else◌, refl, sym, ap, ◌∙◌}
use Rattle.std.specs.declared.cmp.Ordering.{Ordering}
use Rattle.std.specs.declared.cmp.Ordering.TheVariants.{Less, Equal, Greater}
use Rattle.std.specs.Ordering.{is_eq}
use Rattle.std.specs.List.{fold}
use Rattle.std.specs.declared.sync.Arc.{Arc}
use Rattle.shop_defs.specs.declared.delta.Delta.{Delta}
use Rattle.shop_defs.specs.declared.key.Key.{Key}
use Rattle.shop_defs.specs.declared.row.Row.{Row}
use Rattle.shop_defs.specs.Keys.{key_cmp}
use Rattle.shop_defs.specs.Rows.{row_key, row_at, change_rows, IsInKeyOrder}
use Rattle.shop_defs.specs.Joined.{Change, change_key, change_at, later_of, last_in, add_changes}
use Rattle.shop_defs.proofs.Keys.{key_cmp_total}
use Rattle.keyed.specs.Keyed.{put}
use Rattle.keyed.proofs.Changes.{ascends_put, find_put}
use Rattle.shop_rows.specs.Changing.{row_after, StandsUnderItsKey, StandUnderTheirKeys, HasAscendingKeys}
use Rattle.shop_rows.proofs.ChangedRows.{in_order-change_rows, row_at-change_rows, last_in-ascending}
use Rattle.idx_copy.specs.Fronts.{changes_of, changes_in, rows_after, joined_all, EachFits}
use Rattle.shop_rows.proofs.SameRows.{same_from_find}

abbrev with : List Change → Change → List Change
with all change = put key_cmp change_key all change

own_put : (all : List Change) (change : Change) → StandUnderTheirKeys all → StandsUnderItsKey change → StandUnderTheirKeys (with all change)
own_put [] change own one = (one, tt)
own_put (first ∷ rest) change own one = by (own_put rest change own.1 one) (key_cmp first.0 change.0) refl
  where
    by : StandUnderTheirKeys (with rest change) → (o : Ordering) → key_cmp first.0 change.0 ≡ o → StandUnderTheirKeys (with (first ∷ rest) change)
    by more Less e = rw e (own.0, more)
    by more Equal e = rw e (one, own.1)
    by more Greater e = rw e (one, (own.0, own.1))

-- one change more
one_more : (rows : List Row) (all : List Change) (change : Change) → IsInKeyOrder rows → HasAscendingKeys all → StandUnderTheirKeys all → StandsUnderItsKey change → change_rows rows (with all change) ≡ change_rows (change_rows rows all) (change ∷ [])
one_more rows all change order once own one =
    same_from_find key_cmp row_key key_cmp_total (change_rows rows (with all change)) (change_rows (change_rows rows all) (change ∷ []))
    (in_order-change_rows (with all change) rows order)
    (in_order-change_rows (change ∷ []) (change_rows rows all) (in_order-change_rows all rows order))
    at
  where
    ends : (b : Bool) (found : Option Change) (row : Option Row) → row_after (if b then Some change else found) row ≡ row_after (later_of (if b then Some change else None) None) (row_after found row)
    ends true found row = refl
    ends false found row = refl

    at : (key : Key) → row_at (change_rows rows (with all change)) key ≡ row_at (change_rows (change_rows rows all) (change ∷ [])) key
    at key =
        row_at-change_rows (with all change) rows order (own_put all change own one) key
        ∙ (ap (λ (o : Option Change). row_after o (row_at rows key)) (last_in-ascending (with all change) key (ascends_put key_cmp change_key key_cmp_total all change once) ∙ find_put key_cmp change_key key_cmp_total all change key)
        ∙ (ends (is_eq (key_cmp change.0 key)) (change_at all key) (row_at rows key)
        ∙ sym (row_at-change_rows (change ∷ []) (change_rows rows all) (in_order-change_rows all rows order) (one, tt) key
        ∙ ap (row_after (last_in (change ∷ []) key)) (row_at-change_rows all rows order own key ∙ ap (λ (o : Option Change). row_after o (row_at rows key)) (last_in-ascending all key once)))))

pub record AreJoined (rows : List Row) (joined : List Change) (now : List Row) : Type 0 where
  pub leads : change_rows rows joined ≡ now
  pub once : HasAscendingKeys joined
  pub own : StandUnderTheirKeys joined

-- more changes
more_changes : (rows : List Row) (changes all : List Change) → IsInKeyOrder rows → HasAscendingKeys all → StandUnderTheirKeys all → StandUnderTheirKeys changes → AreJoined rows (add_changes all changes) (change_rows (change_rows rows all) changes)
more_changes rows [] all order once own new = record { leads = refl; once = once; own = own }
more_changes rows (change ∷ changes) all order once own new =
    let rest = more_changes rows changes (with all change) order (ascends_put key_cmp change_key key_cmp_total all change once) (own_put all change own new.0) new.1 in
    record {
      leads = rest.leads ∙ ap (λ (r : List Row). change_rows r changes) (one_more rows all change order once own new.0);
      once = rest.once;
      own = rest.own;
    }

module _ {Z : Type 0} where
  -- more deltas
  more_deltas : (rows : List Row) (deltas : List (Arc Delta Z)) (all : List Change) → IsInKeyOrder rows → HasAscendingKeys all → StandUnderTheirKeys all → EachFits (changes_in deltas) → AreJoined rows (fold (λ (a : List Change) (delta : Arc Delta Z). add_changes a (changes_of delta)) all deltas) (rows_after (change_rows rows all) (changes_in deltas))
  more_deltas rows [] all order once own fits = record { leads = refl; once = once; own = own }
  more_deltas rows (delta ∷ deltas) all order once own fits =
      let next = more_changes rows (changes_of delta) all order once own fits.0 in
      let rest = more_deltas rows deltas (add_changes all (changes_of delta)) order next.once next.own fits.1 in
      record {
        leads = rest.leads ∙ ap (λ (r : List Row). rows_after r (changes_in deltas)) next.leads;
        once = rest.once;
        own = rest.own;
      }

  -- all of them
  pub all_deltas : (rows : List Row) (deltas : List (Arc Delta Z)) → IsInKeyOrder rows → EachFits (changes_in deltas) → AreJoined rows (joined_all deltas) (rows_after rows (changes_in deltas))
  all_deltas rows deltas order fits = more_deltas rows deltas [] order tt tt fits

  -- what the joined changes leave is what the deltas leave
  pub left_rows : (was now : List Row) (joined : List Change) (deltas : List (Arc Delta Z)) → IsInKeyOrder was → EachFits (changes_in deltas) → joined ≡ joined_all deltas → now ≡ change_rows was joined → now ≡ rows_after was (changes_in deltas)
  left_rows was now joined deltas order fits e f = f ∙ (ap (change_rows was) e ∙ (all_deltas was deltas order fits).leads)
