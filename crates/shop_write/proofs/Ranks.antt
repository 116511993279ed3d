-- How many steps a row can be above or below another: no more than there are rows of the entity.
use Rattle.std.proofs.Common.{◌≡◌, ℕ, zero, suc, ◌+◌, ◌-◌, ◌<◌, ◌≤◌, Bool, true, false, ◌&&◌, ◌||◌, ◌⊎◌, inl, inr, List, length, filter, refl, sym, ap, subst, ◌∙◌, Option, Some, None, arith}
use Rattle.std.specs.Prelude.{is_none, if◌then◌else◌}
use Rattle.std.specs.List.{list_any}
use Rattle.std.proofs.lemmas.Bool.{false≢true, both_ways, and_from, and_parts, or_left, or_right, or_cases, eq-eqb, eqb-true}
use Rattle.std.proofs.lemmas.List.Sums.{length-filter}
use Rattle.closure.specs.Closure.{IsIn, within, reached}
use Rattle.closure.proofs.Laws.{Agree, any_agree, grown, filter_short, reached_start, reached_closed, reached_least}
use Rattle.closure.proofs.Members.{Found, any_is, any_of, in_filter, of_filter}
use Rattle.shop_defs.specs.declared.row.Row.{Row}
use Rattle.shop_defs.specs.declared.table.TheConstants.{REFERENCES}
use Rattle.shop_defs.specs.Entities.{entity_number}
use Rattle.shop_defs.specs.Rows.{row_key}
use Rattle.shop_operations.specs.Deletes.{stands_at}
use Rattle.shop_operations.specs.Parents.{parent_row, is_child, is_below}
use Rattle.shop_operations.specs.References.{is_entity}
use Rattle.shop_operations.specs.Upserts.{place_cmp, with_row, row_in, count_of}
use Rattle.shop_operations.specs.Views.{View, IsInPlaceOrder}
use Rattle.shop_write.specs.Steps.{IsDown}
use Rattle.shop_write.specs.Writes.{IsWrite}
use Rattle.shop_write.proofs.Counted.{count_with}
use Rattle.shop_write.proofs.OnePart.{AreFormed, with_formed}
use Rattle.shop_write.proofs.ParentWalks.{child_up, child_entity}
use Rattle.shop_write.proofs.StepsDown.{down_entity, down_below}
use Rattle.shop_write.proofs.WrittenRows.{put_has, stands_itself, with_in_order}

-- ---- closures

module _ {X : Type 0} (follows : X → X → Bool) (all : List X) (start : X → Bool) where
  more : (n : ℕ) (x : X) → within follows all start n x ≡ true → within follows all start (suc n) x ≡ true
  more n x h = or_left (within follows all start n x) _ h

  twice : (a b : Bool) → (a || b) ≡ ((a || b) || b)
  twice true b = refl
  twice false true = refl
  twice false false = refl

  stays : (n : ℕ) → Agree (within follows all start n) (within follows all start (suc n)) all → Agree (within follows all start (suc n)) (within follows all start (suc (suc n))) all
  stays n a x i =
      let b : list_any (λ y. within follows all start n y && follows x y) all ≡ list_any (λ y. within follows all start (suc n) y && follows x y) all = any_agree _ _ all (λ y j. ap (λ t. t && follows x y) (a y j)) in
      twice (within follows all start n x) (list_any (λ y. within follows all start n y && follows x y) all) ∙ ap (λ t. within follows all start (suc n) x || t) b

  -- after n steps nothing is new, or more than n elements are reached
  pub many : (n : ℕ) → Agree (within follows all start n) (within follows all start (suc n)) all ⊎ (n + 1 ≤ length (filter (within follows all start (suc n)) all))
  many zero = by (grown (within follows all start zero) (within follows all start 1) all (λ x i h. more zero x h))
    where
      by : Agree (within follows all start zero) (within follows all start 1) all ⊎ (length (filter (within follows all start zero) all) < length (filter (within follows all start 1) all)) → Agree (within follows all start zero) (within follows all start 1) all ⊎ (0 + 1 ≤ length (filter (within follows all start 1) all))
      by (inl a) = inl a
      by (inr l) = inr (omega (arith, l))
  many (suc n) = by (many n)
    where
      next : n + 1 ≤ length (filter (within follows all start (suc n)) all) → Agree (within follows all start (suc n)) (within follows all start (suc (suc n))) all ⊎ (length (filter (within follows all start (suc n)) all) < length (filter (within follows all start (suc (suc n))) all)) → Agree (within follows all start (suc n)) (within follows all start (suc (suc n))) all ⊎ (suc n + 1 ≤ length (filter (within follows all start (suc (suc n))) all))
      next l (inl a) = inl a
      next l (inr m) = inr (omega (arith, l, m))

      by : Agree (within follows all start n) (within follows all start (suc n)) all ⊎ (n + 1 ≤ length (filter (within follows all start (suc n)) all)) → Agree (within follows all start (suc n)) (within follows all start (suc (suc n))) all ⊎ (suc n + 1 ≤ length (filter (within follows all start (suc (suc n))) all))
      by (inl a) = inl (stays n a)
      by (inr l) = next l (grown (within follows all start (suc n)) (within follows all start (suc (suc n))) all (λ x i h. more (suc n) x h))

-- ---- the rows of the written row's entity

abbrev pub is_kin : Row → Row → Bool
is_kin row other = is_entity row.key.entity other.key.entity

abbrev pub kin : List Row → Row → List Row
kin rows row = filter (is_kin row) rows

-- the way up meets the row within so many steps
abbrev pub met : List Row → Row → ℕ → Option Row → Bool
met rows row zero at = false
met rows row (suc n) None = false
met rows row (suc n) (Some other) = stands_at row.key other || met rows row n (parent_row REFERENCES rows other)

met_more : (rows : List Row) (row : Row) (n m : ℕ) (at : Option Row) → n ≤ m → met rows row n at ≡ true → met rows row m at ≡ true
met_more rows row zero m at l h = absurd (false≢true h)
met_more rows row (suc n) zero at l h = absurd (omega (arith, l))
met_more rows row (suc n) (suc m) None l h = absurd (false≢true h)
met_more rows row (suc n) (suc m) (Some other) l h = by (met_more rows row n m (parent_row REFERENCES rows other) (omega (arith, l))) (or_cases (stands_at row.key other) _ h)
  where
    by : (met rows row n (parent_row REFERENCES rows other) ≡ true → met rows row m (parent_row REFERENCES rows other) ≡ true) → (stands_at row.key other ≡ true) ⊎ (met rows row n (parent_row REFERENCES rows other) ≡ true) → met rows row (suc m) (Some other) ≡ true
    by longer (inl e) = or_left (stands_at row.key other) _ e
    by longer (inr e) = or_right (stands_at row.key other) _ (longer e)

-- so many steps are left in which the row is met, if it is below itself
abbrev pub MeetsSoon : List Row → Row → ℕ → Option Row → Type 0
MeetsSoon rows row left at = is_below REFERENCES rows row row ≡ true → met rows row (left + 1) at ≡ true

module _ (view : View) (row : Row) (w : IsWrite view row) where
  here : IsIn row (with_row view.rows row)
  here = put_has place_cmp row_key view.rows row

  formed : AreFormed (with_row view.rows row)
  formed = with_formed view row w

  ordered : IsInPlaceOrder (with_row view.rows row)
  ordered = with_in_order view.rows row w.in_order

  in_kin : (x : Row) → IsIn x (with_row view.rows row) → entity_number row.key.entity ≡ entity_number x.key.entity → IsIn x (kin (with_row view.rows row) row)
  in_kin x i e = in_filter (is_kin row) (with_row view.rows row) x i (eq-eqb _ _ e)

  -- what is so many steps below is within as many
  down_within : (k : ℕ) (x : Row) → IsDown (with_row view.rows row) row (suc k) x → within (is_child REFERENCES) (kin (with_row view.rows row) row) (λ child. is_child REFERENCES child row) k x ≡ true
  down_within zero x d = subst (λ (r : Row). is_child REFERENCES x r ≡ true) (sym d.is_above) d.is_child
  down_within (suc k) x d =
      or_right (within (is_child REFERENCES) (kin (with_row view.rows row) row) (λ child. is_child REFERENCES child row) k x) _
      (any_is (λ y. within (is_child REFERENCES) (kin (with_row view.rows row) row) (λ child. is_child REFERENCES child row) k y && is_child REFERENCES x y) (kin (with_row view.rows row) row) d.parent
      (in_kin d.parent d.is_in (down_entity view row w (suc k) d.parent d.is_above))
      (and_from (within (is_child REFERENCES) (kin (with_row view.rows row) row) (λ child. is_child REFERENCES child row) k d.parent) (is_child REFERENCES x d.parent) (down_within k d.parent d.is_above) d.is_child))

  record Down (n : ℕ) (x : Row) : Type 0 where
    steps : ℕ
    few : steps ≤ n
    down : IsDown (with_row view.rows row) row (suc steps) x

  -- what is within so many steps is at most as many below
  within_down : (n : ℕ) (x : Row) → within (is_child REFERENCES) (kin (with_row view.rows row) row) (λ child. is_child REFERENCES child row) n x ≡ true → Down n x
  within_down zero x h = record { steps = zero; few = omega arith; down = record { parent = row; is_in = here; is_above = refl; is_child = h } }
  within_down (suc n) x h = by (within_down n) (or_cases (within (is_child REFERENCES) (kin (with_row view.rows row) row) (λ child. is_child REFERENCES child row) n x) _ h)
    where
      longer : Down n x → Down (suc n) x
      longer d = record { steps = d.steps; few = omega (arith, d.few); down = d.down }

      found : ((y : Row) → within (is_child REFERENCES) (kin (with_row view.rows row) row) (λ child. is_child REFERENCES child row) n y ≡ true → Down n y) → Found (λ y. within (is_child REFERENCES) (kin (with_row view.rows row) row) (λ child. is_child REFERENCES child row) n y && is_child REFERENCES x y) (kin (with_row view.rows row) row) → Down (suc n) x
      found before f =
          let both = and_parts (within (is_child REFERENCES) (kin (with_row view.rows row) row) (λ child. is_child REFERENCES child row) n f.one) (is_child REFERENCES x f.one) f.passes in
          let b = before f.one both.0 in
          record { steps = suc b.steps; few = omega (arith, b.few); down = record { parent = f.one; is_in = (of_filter (is_kin row) (with_row view.rows row) f.one f.is_in).is_in; is_above = b.down; is_child = both.1 } }

      by : ((y : Row) → within (is_child REFERENCES) (kin (with_row view.rows row) row) (λ child. is_child REFERENCES child row) n y ≡ true → Down n y) → (within (is_child REFERENCES) (kin (with_row view.rows row) row) (λ child. is_child REFERENCES child row) n x ≡ true) ⊎ (list_any (λ y. within (is_child REFERENCES) (kin (with_row view.rows row) row) (λ child. is_child REFERENCES child row) n y && is_child REFERENCES x y) (kin (with_row view.rows row) row) ≡ true) → Down (suc n) x
      by before (inl e) = longer (before x e)
      by before (inr e) = found before (any_of (λ y. within (is_child REFERENCES) (kin (with_row view.rows row) row) (λ child. is_child REFERENCES child row) n y && is_child REFERENCES x y) (kin (with_row view.rows row) row) e)

  -- a row that is two numbers of steps below the row has the row below itself
  twice_down : (a b : ℕ) (x : Row) → IsIn x (with_row view.rows row) → IsDown (with_row view.rows row) row a x → IsDown (with_row view.rows row) row b x → a < b → is_below REFERENCES (with_row view.rows row) row row ≡ true
  twice_down zero zero x i d e l = absurd (omega (arith, l))
  twice_down zero (suc b) x i d e l = subst (λ (r : Row). is_below REFERENCES (with_row view.rows row) row r ≡ true) (sym d) (down_below view row w b x i e)
  twice_down (suc a) zero x i d e l = absurd (omega (arith, l))
  twice_down (suc a) (suc b) x i d e l =
      let up = child_up (with_row view.rows row) formed ordered x d.parent d.is_in d.is_child in
      let other = child_up (with_row view.rows row) formed ordered x e.parent e.is_in e.is_child in
      let found : Some e.parent ≡ Some d.parent = sym other ∙ up in
      let same : e.parent ≡ d.parent = cc in
      twice_down a b d.parent d.is_in d.is_above (subst (IsDown (with_row view.rows row) row b) same e.is_above) (omega (arith, l))

  -- where the row isn't below itself, no row is many more steps below it than there are rows of the entity
  pub few_down : is_below REFERENCES (with_row view.rows row) row row ≡ false → (k : ℕ) (x : Row) → IsIn x (with_row view.rows row) → IsDown (with_row view.rows row) row k x → k ≤ length (kin (with_row view.rows row) row) + 1
  few_down free zero x i d = omega arith
  few_down free (suc zero) x i d = omega arith
  few_down free (suc (suc n)) x i d = by (many (is_child REFERENCES) (kin (with_row view.rows row) row) (λ child. is_child REFERENCES child row) n)
    where
      again : Down n x → suc (suc n) ≤ length (kin (with_row view.rows row) row) + 1
      again b = absurd (both_ways (is_below REFERENCES (with_row view.rows row) row row) free (twice_down (suc b.steps) (suc (suc n)) x i b.down d (omega (arith, b.few))))

      by : Agree (within (is_child REFERENCES) (kin (with_row view.rows row) row) (λ child. is_child REFERENCES child row) n) (within (is_child REFERENCES) (kin (with_row view.rows row) row) (λ child. is_child REFERENCES child row) (suc n)) (kin (with_row view.rows row) row) ⊎ (n + 1 ≤ length (filter (within (is_child REFERENCES) (kin (with_row view.rows row) row) (λ child. is_child REFERENCES child row) (suc n)) (kin (with_row view.rows row) row))) → suc (suc n) ≤ length (kin (with_row view.rows row) row) + 1
      by (inl a) = again (within_down n x (a x (in_kin x i (down_entity view row w (suc (suc n)) x d)) ∙ down_within (suc n) x d))
      by (inr l) =
          let short = filter_short (within (is_child REFERENCES) (kin (with_row view.rows row) row) (λ child. is_child REFERENCES child row) (suc n)) (kin (with_row view.rows row) row) in
          omega (arith, l, short)

  -- a row that is so many steps below the row meets it on its way up
  met_down : (k : ℕ) (x : Row) → IsDown (with_row view.rows row) row (suc k) x → met (with_row view.rows row) row (suc k) (parent_row REFERENCES (with_row view.rows row) x) ≡ true
  met_down zero x d =
      let up = child_up (with_row view.rows row) formed ordered x d.parent d.is_in d.is_child in
      ap (met (with_row view.rows row) row 1) up ∙ or_left (stands_at row.key d.parent) _ (subst (λ (r : Row). stands_at row.key r ≡ true) d.is_above (stands_itself row))
  met_down (suc k) x d =
      let up = child_up (with_row view.rows row) formed ordered x d.parent d.is_in d.is_child in
      ap (met (with_row view.rows row) row (suc (suc k))) up ∙ or_right (stands_at row.key d.parent) _ (met_down k d.parent d.is_above)

  -- what is below the row is so among the rows of the entity
  below_kin : is_below REFERENCES (with_row view.rows row) row row ≡ true → reached (is_child REFERENCES) (kin (with_row view.rows row) row) (λ child. is_child REFERENCES child row) row ≡ true
  below_kin h = (and_parts (is_kin row row) _ (reached_least (is_child REFERENCES) (with_row view.rows row) (λ child. is_child REFERENCES child row) part (record { has_start = begins; has_next = goes_on }) row here h)).1
    where
      part : Row → Bool
      part x = is_kin row x && reached (is_child REFERENCES) (kin (with_row view.rows row) row) (λ child. is_child REFERENCES child row) x

      begins : (x : Row) → IsIn x (with_row view.rows row) → is_child REFERENCES x row ≡ true → part x ≡ true
      begins x i c = and_from _ _ (eq-eqb _ _ (sym (child_entity x row c))) (reached_start (is_child REFERENCES) (kin (with_row view.rows row) row) (λ child. is_child REFERENCES child row) x c)

      goes_on : (x y : Row) → IsIn x (with_row view.rows row) → IsIn y (with_row view.rows row) → part y ≡ true → is_child REFERENCES x y ≡ true → part x ≡ true
      goes_on x y i j p c =
          let both = and_parts (is_kin row y) _ p in
          let of_y = eqb-true _ _ both.0 in
          let of_x = of_y ∙ sym (child_entity x y c) in
          and_from _ _ (eq-eqb _ _ of_x) (reached_closed (is_child REFERENCES) (kin (with_row view.rows row) row) (λ child. is_child REFERENCES child row) x y (in_kin x i of_x) (in_kin y j of_y) both.1 c)

  -- a row that is below itself is met on its way up in as many steps as there are rows of the entity, and one
  pub met_soon : is_below REFERENCES (with_row view.rows row) row row ≡ true → met (with_row view.rows row) row (length (kin (with_row view.rows row) row) + 1) (parent_row REFERENCES (with_row view.rows row) row) ≡ true
  unfolding reached
  met_soon h =
      let d = within_down (length (kin (with_row view.rows row) row)) row (below_kin h) in
      met_more (with_row view.rows row) row (suc d.steps) (length (kin (with_row view.rows row) row) + 1) (parent_row REFERENCES (with_row view.rows row) row) (omega (arith, d.few)) (met_down d.steps row d.down)

  -- there is at most one row more of the entity than the view counts
  pub kin_few : length (kin (with_row view.rows row) row) ≤ count_of view.hidden view.rows row.key.entity + 1
  kin_few =
      let all = length-filter (is_kin row) (with_row view.rows row) in
      let more = count_with view.rows row w.in_order view.hidden in
      omega (arith, all, more, one (is_none (row_in view.rows row.key)))
    where
      one : (b : Bool) → (if b then 1 else 0) ≤ 1
      one true = omega arith
      one false = omega arith

  -- ---- the way up, as the code goes it

  pub soon_first : (left count : ℕ) (at : Option Row) → count ≡ count_of view.hidden view.rows row.key.entity → left ≡ count + 1 → at ≡ parent_row REFERENCES (with_row view.rows row) row → MeetsSoon (with_row view.rows row) row left at
  soon_first left count at e f p h =
      subst (λ (o : Option Row). met (with_row view.rows row) row (left + 1) o ≡ true) (sym p)
      (met_more (with_row view.rows row) row (length (kin (with_row view.rows row) row) + 1) (left + 1) (parent_row REFERENCES (with_row view.rows row) row) (omega (arith, e, f, kin_few)) (met_soon h))

  pub soon_next : (left : ℕ) (x : Row) (at : Option Row) → MeetsSoon (with_row view.rows row) row left (Some x) → stands_at row.key x ≡ false → (left ≡ 0 → ⊥) → at ≡ parent_row REFERENCES (with_row view.rows row) x → MeetsSoon (with_row view.rows row) row (left - 1) at
  soon_next zero x at m n z e h = absurd (z refl)
  soon_next (suc left) x at m n z e h =
      let longer : suc left + 1 ≡ suc (left + 1) = omega arith in
      let same : left + 1 ≡ (suc left - 1) + 1 = omega arith in
      let before : met (with_row view.rows row) row (suc (left + 1)) (Some x) ≡ true = ap (λ k. met (with_row view.rows row) row k (Some x)) (sym longer) ∙ m h in
      let after : met (with_row view.rows row) row (left + 1) (parent_row REFERENCES (with_row view.rows row) x) ≡ true = ap (λ b. b || met (with_row view.rows row) row (left + 1) (parent_row REFERENCES (with_row view.rows row) x)) (sym n) ∙ before in
      subst (λ (o : Option Row). met (with_row view.rows row) row ((suc left - 1) + 1) o ≡ true) (sym e)
      (subst (λ k. met (with_row view.rows row) row k (parent_row REFERENCES (with_row view.rows row) x) ≡ true) same after)

  -- where none are left, it isn't below itself
  pub soon_never : (left : ℕ) (x : Row) → MeetsSoon (with_row view.rows row) row left (Some x) → stands_at row.key x ≡ false → left ≡ 0 → false ≡ is_below REFERENCES (with_row view.rows row) row row
  soon_never left x m n z = by (is_below REFERENCES (with_row view.rows row) row row) refl
    where
      last : met (with_row view.rows row) row (0 + 1) (Some x) ≡ true → ⊥
      last h = both_ways (stands_at row.key x || false) (ap (λ b. b || false) n) h

      by : (b : Bool) → is_below REFERENCES (with_row view.rows row) row row ≡ b → false ≡ b
      by false e = refl
      by true e = absurd (last (subst (λ k. met (with_row view.rows row) row (k + 1) (Some x) ≡ true) z (m e)))
