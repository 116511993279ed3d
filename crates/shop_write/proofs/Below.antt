-- Rows below a row, by their parents.
use Rattle.std.proofs.Common.{◌≡◌, ℕ, zero, suc, Bool, true, false, ◌&&◌, ◌||◌, ◌⊎◌, inl, inr, List, length, refl, sym, ap, subst, ◌∙◌, Option, Some, None}
use Rattle.std.specs.List.{list_any}
use Rattle.std.proofs.lemmas.Bool.{false≢true, and_parts, or_left, or_right, or_cases}
use Rattle.shop_defs.specs.declared.row.Row.{Row}
use Rattle.shop_defs.specs.declared.table.TheConstants.{REFERENCES}
use Rattle.shop_operations.specs.Deletes.{stands_at}
use Rattle.shop_operations.specs.Parents.{parent_row, is_child, is_below}
use Rattle.shop_operations.specs.Upserts.{place_cmp, with_row}
use Rattle.shop_operations.specs.Views.{View, IsInPlaceOrder}
use Rattle.shop_defs.specs.Rows.{row_key}
use Rattle.shop_write.specs.Writes.{IsWrite}
use Rattle.closure.specs.Closure.{IsIn, within, reached}
use Rattle.closure.proofs.Laws.{reached_start, reached_closed}
use Rattle.closure.proofs.Members.{Found, any_of}
use Rattle.shop_write.proofs.WrittenRows.{stands_itself, places_apart, put_has, with_in_order}
use Rattle.shop_write.proofs.OnePart.{AreFormed, with_formed}
use Rattle.shop_write.proofs.ParentWalks.{parent_hit, child_up}

module _ {X : Type 0} (follows : X → X → Bool) (all : List X) (start : X → Bool) where
  -- what is reached, and what follows from it
  pub record Next (x : X) : Type 0 where
    pub one : X
    pub is_in : IsIn one all
    pub reaches : reached follows all start one ≡ true
    pub next : follows x one ≡ true

  within_reached : (n : ℕ) (x : X) → IsIn x all → within follows all start n x ≡ true → reached follows all start x ≡ true
  within_reached zero x i h = reached_start follows all start x h
  within_reached (suc n) x i h = by (within_reached n) (or_cases (within follows all start n x) (list_any (λ y. within follows all start n y && follows x y) all) h)
    where
      found : ((y : X) → IsIn y all → within follows all start n y ≡ true → reached follows all start y ≡ true) → Found (λ y. within follows all start n y && follows x y) all → reached follows all start x ≡ true
      found before f = let both = and_parts (within follows all start n f.one) (follows x f.one) f.passes in reached_closed follows all start x f.one i f.is_in (before f.one f.is_in both.0) both.1

      by : ((y : X) → IsIn y all → within follows all start n y ≡ true → reached follows all start y ≡ true) → (within follows all start n x ≡ true) ⊎ (list_any (λ y. within follows all start n y && follows x y) all ≡ true) → reached follows all start x ≡ true
      by before (inl e) = before x i e
      by before (inr e) = found before (any_of (λ y. within follows all start n y && follows x y) all e)

  within_parts : (n : ℕ) (x : X) → within follows all start n x ≡ true → (start x ≡ true) ⊎ Next x
  within_parts zero x h = inl h
  within_parts (suc n) x h = by (within_parts n x) (or_cases (within follows all start n x) (list_any (λ y. within follows all start n y && follows x y) all) h)
    where
      found : Found (λ y. within follows all start n y && follows x y) all → Next x
      found f = let both = and_parts (within follows all start n f.one) (follows x f.one) f.passes in record { one = f.one; is_in = f.is_in; reaches = within_reached n f.one f.is_in both.0; next = both.1 }

      by : (within follows all start n x ≡ true → (start x ≡ true) ⊎ Next x) → (within follows all start n x ≡ true) ⊎ (list_any (λ y. within follows all start n y && follows x y) all ≡ true) → (start x ≡ true) ⊎ Next x
      by before (inl e) = before e
      by before (inr e) = inr (found (any_of (λ y. within follows all start n y && follows x y) all e))

  -- what is reached is of the start, or follows from what is reached
  pub reached_parts : (x : X) → reached follows all start x ≡ true → (start x ≡ true) ⊎ Next x
  unfolding reached
  reached_parts x h = within_parts (length all) x h

pub same_test : (a b : Bool) → (a ≡ true → b ≡ true) → (b ≡ true → a ≡ true) → a ≡ b
same_test true b f g = sym (f refl)
same_test false true f g = g refl
same_test false false f g = refl

-- there is a row, and it is that one or below it
abbrev pub meets : List Row → Row → Option Row → Bool
meets rows row None = false
meets rows row (Some other) = stands_at row.key other || is_below REFERENCES rows row other

module _ (rows : List Row) (formed : AreFormed rows) (up : IsInPlaceOrder rows) (row : Row) (here : IsIn row rows) where
  -- a row is below another where its parent is that one or below it
  pub below_up : (x : Row) → IsIn x rows → is_below REFERENCES rows row x ≡ meets rows row (parent_row REFERENCES rows x)
  below_up x i = by (parent_row REFERENCES rows x) refl
    where
      from : (y : Row) → parent_row REFERENCES rows x ≡ Some y → (stands_at row.key y ≡ true) ⊎ (is_below REFERENCES rows row y ≡ true) → is_below REFERENCES rows row x ≡ true
      from y e (inl h) =
          let t = parent_hit rows x y e in
          let same : row ≡ y = places_apart rows up row y here t.is_in h in
          reached_start (is_child REFERENCES) rows (λ child. is_child REFERENCES child row) x (subst (λ (r : Row). is_child REFERENCES x r ≡ true) (sym same) t.passes)
      from y e (inr h) = let t = parent_hit rows x y e in reached_closed (is_child REFERENCES) rows (λ child. is_child REFERENCES child row) x y i t.is_in h t.passes

      to : (found : Option Row) → parent_row REFERENCES rows x ≡ found → (is_child REFERENCES x row ≡ true) ⊎ Next (is_child REFERENCES) rows (λ child. is_child REFERENCES child row) x → meets rows row found ≡ true
      to found e (inl h) = subst (λ (o : Option Row). meets rows row o ≡ true) (sym (child_up rows formed up x row here h) ∙ e) (or_left (stands_at row.key row) _ (stands_itself row))
      to found e (inr n) = subst (λ (o : Option Row). meets rows row o ≡ true) (sym (child_up rows formed up x n.one n.is_in n.next) ∙ e) (or_right (stands_at row.key n.one) _ n.reaches)

      by : (found : Option Row) → parent_row REFERENCES rows x ≡ found → is_below REFERENCES rows row x ≡ meets rows row found
      by None e = same_test _ _ (λ h. to None e (reached_parts (is_child REFERENCES) rows (λ child. is_child REFERENCES child row) x h)) (λ h. absurd (false≢true h))
      by (Some y) e = same_test _ _ (λ h. to (Some y) e (reached_parts (is_child REFERENCES) rows (λ child. is_child REFERENCES child row) x h)) (λ h. from y e (or_cases (stands_at row.key y) _ h))

-- on the way up from the row: the row is below itself where the rest of the way meets it
pub record Climbs (rows : List Row) (row : Row) (at : Option Row) : Type 0 where
  pub same : is_below REFERENCES rows row row ≡ meets rows row at
  pub found : (x : Row) → at ≡ Some x → IsIn x rows

module _ (view : View) (row : Row) (w : IsWrite view row) where
  pub climb_first : (at : Option Row) → at ≡ parent_row REFERENCES (with_row view.rows row) row → Climbs (with_row view.rows row) row at
  climb_first at e = record {
    same = below_up (with_row view.rows row) (with_formed view row w) (with_in_order view.rows row w.in_order) row (put_has place_cmp row_key view.rows row) row (put_has place_cmp row_key view.rows row) ∙ ap (meets (with_row view.rows row) row) (sym e);
    found = λ x f. (parent_hit (with_row view.rows row) row x (sym e ∙ f)).is_in;
  }

  pub climb_more : (x : Row) (at : Option Row) → Climbs (with_row view.rows row) row (Some x) → stands_at row.key x ≡ false → at ≡ parent_row REFERENCES (with_row view.rows row) x → Climbs (with_row view.rows row) row at
  climb_more x at c n e = record {
    same = c.same ∙ (ap (λ b. b || is_below REFERENCES (with_row view.rows row) row x) n ∙ (below_up (with_row view.rows row) (with_formed view row w) (with_in_order view.rows row w.in_order) row (put_has place_cmp row_key view.rows row) x (c.found x refl) ∙ ap (meets (with_row view.rows row) row) (sym e)));
    found = λ y f. (parent_hit (with_row view.rows row) x y (sym e ∙ f)).is_in;
  }
