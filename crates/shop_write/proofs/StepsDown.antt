-- Rows that are so many steps below a row that is written and not below itself.
use Rattle.std.proofs.Common.{◌≡◌, ℕ, zero, suc, ◌+◌, ◌-◌, ◌<◌, ◌≤◌, Bool, true, false, ◌&&◌, ◌||◌, ◌⊎◌, inl, inr, List, length, refl, sym, ap, subst, ◌∙◌, Option, Some, None, arith}
use Rattle.std.specs.Prelude.{nat_le}
use Rattle.std.specs.List.{list_any}
use Rattle.std.specs.Option.{option_map_or}
use Rattle.std.proofs.lemmas.Bool.{both_ways, and_from, and_parts, or_left, or_right, or_cases, leb-true, le-leb, cases_lt}
use Rattle.std.proofs.Math.Dec.{leb-suc-suc}
use Rattle.shop_defs.specs.declared.row.Row.{Row}
use Rattle.shop_defs.specs.declared.table.TheConstants.{REFERENCES, LEVEL_LIMITS}
use Rattle.shop_defs.specs.Entities.{entity_number}
use Rattle.shop_defs.specs.Rows.{row_key}
use Rattle.shop_operations.specs.Deletes.{stands_at}
use Rattle.shop_operations.specs.Parents.{parent_row, walk, is_child, is_below, is_past, is_deep}
use Rattle.shop_operations.specs.Upserts.{place_cmp, with_row, sinks}
use Rattle.shop_operations.specs.Views.{View, IsInPlaceOrder}
use Rattle.closure.specs.Closure.{IsIn, within, reached}
use Rattle.closure.proofs.Laws.{reached_start, reached_closed}
use Rattle.closure.proofs.Members.{Found, any_of}
use Rattle.shop_write.specs.Writes.{IsWrite, limit_of}
use Rattle.shop_write.specs.Steps.{IsDown}
use Rattle.shop_write.proofs.Below.{same_test}
use Rattle.shop_write.proofs.Heights.{walk_ended}
use Rattle.shop_write.proofs.LevelTable.{deep_is, same_limit}
use Rattle.shop_write.proofs.OnePart.{AreFormed, with_formed}
use Rattle.shop_write.proofs.ParentWalks.{child_up, child_entity}
use Rattle.shop_write.proofs.WrittenRows.{stands_itself, places_apart, put_has, with_in_order}

walk_grows : (rows : List Row) (n m : ℕ) (at : Option Row) → n ≤ m → length (walk REFERENCES rows n at) ≤ length (walk REFERENCES rows m at)
walk_grows rows zero m at l = omega arith
walk_grows rows (suc n) zero at l = absurd (omega (arith, l))
walk_grows rows (suc n) (suc m) None l = omega arith
walk_grows rows (suc n) (suc m) (Some row) l = let h = walk_grows rows n m (parent_row REFERENCES rows row) (omega (arith, l)) in omega (arith, h)

-- a way up has a length where it has it with more steps
pub walk_reaches : (rows : List Row) (n m : ℕ) (at : Option Row) → n ≤ m → nat_le n (length (walk REFERENCES rows n at)) ≡ nat_le n (length (walk REFERENCES rows m at))
walk_reaches rows n m at l = same_test _ _ (λ h. to (leb-true n _ h)) (λ h. from (leb-true n _ h))
  where
    to : n ≤ length (walk REFERENCES rows n at) → nat_le n (length (walk REFERENCES rows m at)) ≡ true
    to h = le-leb n _ (omega (arith, h, walk_grows rows n m at l))

    from : n ≤ length (walk REFERENCES rows m at) → nat_le n (length (walk REFERENCES rows n at)) ≡ true
    from h = by (cases_lt (length (walk REFERENCES rows n at)) n)
      where
        by : (length (walk REFERENCES rows n at) < n) ⊎ (n ≤ length (walk REFERENCES rows n at)) → nat_le n (length (walk REFERENCES rows n at)) ≡ true
        by (inl k) = absurd (omega (arith, h, k, walk_ended REFERENCES rows n m at k l))
        by (inr k) = le-leb n _ k

module _ (view : View) (row : Row) (w : IsWrite view row) where
  here : IsIn row (with_row view.rows row)
  here = put_has place_cmp row_key view.rows row

  formed : AreFormed (with_row view.rows row)
  formed = with_formed view row w

  ordered : IsInPlaceOrder (with_row view.rows row)
  ordered = with_in_order view.rows row w.in_order

  pub down_entity : (k : ℕ) (x : Row) → IsDown (with_row view.rows row) row k x → entity_number row.key.entity ≡ entity_number x.key.entity
  down_entity zero x d = ap (λ (r : Row). entity_number r.key.entity) d
  down_entity (suc k) x d = down_entity k d.parent d.is_above ∙ sym (child_entity x d.parent d.is_child)

  -- what is some steps below the row is below it
  pub down_below : (k : ℕ) (x : Row) → IsIn x (with_row view.rows row) → IsDown (with_row view.rows row) row (suc k) x → is_below REFERENCES (with_row view.rows row) row x ≡ true
  down_below zero x i d = reached_start (is_child REFERENCES) (with_row view.rows row) (λ child. is_child REFERENCES child row) x (subst (λ (r : Row). is_child REFERENCES x r ≡ true) (sym d.is_above) d.is_child)
  down_below (suc k) x i d = reached_closed (is_child REFERENCES) (with_row view.rows row) (λ child. is_child REFERENCES child row) x d.parent i d.is_in (down_below k d.parent d.is_in d.is_above) d.is_child

  within_down : (n : ℕ) (x : Row) → within (is_child REFERENCES) (with_row view.rows row) (λ child. is_child REFERENCES child row) n x ≡ true → (k : ℕ) × IsDown (with_row view.rows row) row (suc k) x
  within_down zero x h = (zero, record { parent = row; is_in = here; is_above = refl; is_child = h })
  within_down (suc n) x h = by (within_down n) (or_cases (within (is_child REFERENCES) (with_row view.rows row) (λ child. is_child REFERENCES child row) n x) _ h)
    where
      found : ((y : Row) → within (is_child REFERENCES) (with_row view.rows row) (λ child. is_child REFERENCES child row) n y ≡ true → (k : ℕ) × IsDown (with_row view.rows row) row (suc k) y) → Found (λ y. within (is_child REFERENCES) (with_row view.rows row) (λ child. is_child REFERENCES child row) n y && is_child REFERENCES x y) (with_row view.rows row) → (k : ℕ) × IsDown (with_row view.rows row) row (suc k) x
      found before f =
          let both = and_parts (within (is_child REFERENCES) (with_row view.rows row) (λ child. is_child REFERENCES child row) n f.one) (is_child REFERENCES x f.one) f.passes in
          let b = before f.one both.0 in
          (suc b.0, record { parent = f.one; is_in = f.is_in; is_above = b.1; is_child = both.1 })

      by : ((y : Row) → within (is_child REFERENCES) (with_row view.rows row) (λ child. is_child REFERENCES child row) n y ≡ true → (k : ℕ) × IsDown (with_row view.rows row) row (suc k) y) → (within (is_child REFERENCES) (with_row view.rows row) (λ child. is_child REFERENCES child row) n x ≡ true) ⊎ (list_any (λ y. within (is_child REFERENCES) (with_row view.rows row) (λ child. is_child REFERENCES child row) n y && is_child REFERENCES x y) (with_row view.rows row) ≡ true) → (k : ℕ) × IsDown (with_row view.rows row) row (suc k) x
      by before (inl e) = before x e
      by before (inr e) = found before (any_of (λ y. within (is_child REFERENCES) (with_row view.rows row) (λ child. is_child REFERENCES child row) n y && is_child REFERENCES x y) (with_row view.rows row) e)

  -- what is below the row is some steps below it
  pub below_down : (x : Row) → is_below REFERENCES (with_row view.rows row) row x ≡ true → (k : ℕ) × IsDown (with_row view.rows row) row (suc k) x
  unfolding reached
  below_down x h = within_down (length (with_row view.rows row)) x h

  module _ (free : is_below REFERENCES (with_row view.rows row) row row ≡ false) where
    pub down_other : (k : ℕ) (x : Row) → IsIn x (with_row view.rows row) → IsDown (with_row view.rows row) row (suc k) x → stands_at row.key x ≡ false
    down_other k x i d = by (stands_at row.key x) refl
      where
        by : (b : Bool) → stands_at row.key x ≡ b → b ≡ false
        by false e = refl
        by true e = absurd (both_ways (is_below REFERENCES (with_row view.rows row) row row) free (subst (λ (r : Row). is_below REFERENCES (with_row view.rows row) row r ≡ true) (sym (places_apart (with_row view.rows row) ordered row x here i e)) (down_below k x i d)))

    -- a row so many steps below has as many more rows above it
    down_past : (n k : ℕ) (x : Row) → IsDown (with_row view.rows row) row k x → is_past REFERENCES (with_row view.rows row) (n + k) x ≡ is_past REFERENCES (with_row view.rows row) n row
    down_past n zero x d =
        let z : n + 0 ≡ n = omega arith in
        ap (λ m. is_past REFERENCES (with_row view.rows row) m x) z ∙ ap (is_past REFERENCES (with_row view.rows row) n) (sym d)
    down_past n (suc k) x d =
        let up = child_up (with_row view.rows row) formed ordered x d.parent d.is_in d.is_child in
        let z : n + suc k ≡ suc (n + k) = omega arith in
        ap (λ m. is_past REFERENCES (with_row view.rows row) m x) z ∙
        (ap (λ (at : Option Row). nat_le (suc (n + k)) (length (walk REFERENCES (with_row view.rows row) (suc (n + k)) at))) up ∙
        (leb-suc-suc (n + k) _ ∙ down_past n k d.parent d.is_above))

    module _ (most : ℕ) (limited : limit_of row.key.entity ≡ Some most) where
      -- how many rows stand above the written one, as far as the limit goes
      abbrev pub above : ℕ
      above = length (walk REFERENCES (with_row view.rows row) most (parent_row REFERENCES (with_row view.rows row) row))

      down_deep : (k : ℕ) (x : Row) → k ≤ most → IsDown (with_row view.rows row) row k x → is_deep REFERENCES LEVEL_LIMITS (with_row view.rows row) x ≡ nat_le (most - k) above
      down_deep k x l d =
          let same : limit_of x.key.entity ≡ Some most = sym (same_limit row.key.entity x.key.entity (down_entity k x d)) ∙ limited in
          let z : most ≡ (most - k) + k = omega (arith, l) in
          let less : most - k ≤ most = omega arith in
          deep_is (with_row view.rows row) x ∙
          (ap (λ (o : Option ℕ). option_map_or (λ n. is_past REFERENCES (with_row view.rows row) n x) o false) same ∙
          (ap (λ n. is_past REFERENCES (with_row view.rows row) n x) z ∙
          (down_past (most - k) k x d ∙ walk_reaches (with_row view.rows row) (most - k) most (parent_row REFERENCES (with_row view.rows row) row) less)))

      down_far : (k : ℕ) (x : Row) → most ≤ k → IsDown (with_row view.rows row) row k x → is_deep REFERENCES LEVEL_LIMITS (with_row view.rows row) x ≡ true
      down_far k x l d =
          let same : limit_of x.key.entity ≡ Some most = sym (same_limit row.key.entity x.key.entity (down_entity k x d)) ∙ limited in
          let far : nat_le (0 + k) (length (walk REFERENCES (with_row view.rows row) (0 + k) (parent_row REFERENCES (with_row view.rows row) x))) ≡ true = down_past 0 k x d in
          let long = leb-true (0 + k) _ far in
          deep_is (with_row view.rows row) x ∙
          (ap (λ (o : Option ℕ). option_map_or (λ n. is_past REFERENCES (with_row view.rows row) n x) o false) same ∙
          (walk_reaches (with_row view.rows row) most (0 + k) (parent_row REFERENCES (with_row view.rows row) x) (omega (arith, l)) ∙
          le-leb most _ (omega (arith, l, long))))

      -- a row sinks where it is so many steps below, at least as many as there is room for
      pub sinks_from : (k : ℕ) (x : Row) → IsIn x (with_row view.rows row) → IsDown (with_row view.rows row) row k x → most - above ≤ k → sinks (with_row view.rows row) row x ≡ true
      sinks_from k x i d l = and_from _ _ (at k d) (by (cases_lt k most))
        where
          at : (n : ℕ) → IsDown (with_row view.rows row) row n x → (stands_at row.key x || is_below REFERENCES (with_row view.rows row) row x) ≡ true
          at zero e = or_left _ _ (subst (λ (r : Row). stands_at row.key r ≡ true) e (stands_itself row))
          at (suc n) e = or_right (stands_at row.key x) _ (down_below n x i e)

          by : (k < most) ⊎ (most ≤ k) → is_deep REFERENCES LEVEL_LIMITS (with_row view.rows row) x ≡ true
          by (inl few) = down_deep k x (omega (arith, few)) d ∙ le-leb (most - k) _ (omega (arith, l, few))
          by (inr far) = down_far k x far d

      pub record Sinks (x : Row) : Type 0 where
        pub steps : ℕ
        pub down : IsDown (with_row view.rows row) row steps x
        pub from : most - above ≤ steps

      pub sinks_to : (x : Row) → IsIn x (with_row view.rows row) → sinks (with_row view.rows row) row x ≡ true → Sinks x
      sinks_to x i h = by (or_cases (stands_at row.key x) _ both.0)
        where
          both : ((stands_at row.key x || is_below REFERENCES (with_row view.rows row) row x) ≡ true) × (is_deep REFERENCES LEVEL_LIMITS (with_row view.rows row) x ≡ true)
          both = and_parts (stands_at row.key x || is_below REFERENCES (with_row view.rows row) row x) _ h

          room : (k : ℕ) → IsDown (with_row view.rows row) row k x → (k < most) ⊎ (most ≤ k) → most - above ≤ k
          room k d (inl few) = let low = leb-true (most - k) _ (sym (down_deep k x (omega (arith, few)) d) ∙ both.1) in omega (arith, low, few)
          room k d (inr far) = omega (arith, far)

          at : (k : ℕ) → IsDown (with_row view.rows row) row k x → Sinks x
          at k d = record { steps = k; down = d; from = room k d (cases_lt k most) }

          by : (stands_at row.key x ≡ true) ⊎ (is_below REFERENCES (with_row view.rows row) row x ≡ true) → Sinks x
          by (inl e) = at zero (places_apart (with_row view.rows row) ordered row x here i e)
          by (inr e) = let d = below_down x e in at (suc d.0) d.1

-- one row further up
pub walk_on : (rows : List Row) (most count : ℕ) (x : Row) → count < most → length (walk REFERENCES rows (most - count) (Some x)) ≡ suc (length (walk REFERENCES rows (most - (count + 1)) (parent_row REFERENCES rows x)))
walk_on rows most count x l =
    let z : most - count ≡ suc (most - (count + 1)) = omega (arith, l) in
    ap (λ n. length (walk REFERENCES rows n (Some x))) z
