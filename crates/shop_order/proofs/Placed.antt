-- The changes that placing plans make of the rows what the definition says.
use Rattle.std.proofs.Common.{◌≡◌, ℕ, suc, ◌+◌, ◌≤◌, ◌*◌, ℤ, List, [], ◌∷◌, ◌++◌, length, Option, Some, None, refl, sym, ap, subst, ◌∙◌, arith, Ok, Result, append_assoc, pos, negsuc, w64, FitsSigned, rules}
use Rattle.std.specs.Prelude.{map}
use Rattle.std.specs.List.{AllByRecursion}
use Rattle.std.proofs.lemmas.Int.{ints}
use Rattle.shop_defs.specs.declared.broken.Broken.{Broken}
use Rattle.shop_defs.specs.declared.broken.Broken.TheVariants as B
use Rattle.shop_defs.specs.declared.delta.Delta.{Delta}
use Rattle.shop_defs.specs.declared.key.Key.{Key}
use Rattle.shop_defs.specs.declared.refused.PlanFault.{PlanFault}
use Rattle.shop_defs.specs.declared.refused.PlanFault.TheVariants as F
use Rattle.shop_defs.specs.declared.row.Row.{Row}
use Rattle.shop_defs.specs.declared.entity.Entity.TheVariants as E
use Rattle.shop_defs.specs.Joined.{Change, add_changes}
use Rattle.shop_defs.specs.Rows.{row_at, IsInKeyOrder}
use Rattle.cart_price.specs.declared.priced.PricedLine.{PricedLine}
use Rattle.cart_price.specs.declared.priced.Settled.{Settled}
use Rattle.cart_price.specs.declared.priced.TaxSum.{TaxSum}
use Rattle.cart_price.specs.Nearest.{IsAmount}
use Rattle.shop_rows.specs.Changing.{StandUnderTheirKeys, HasAscendingKeys}
use Rattle.shop_rows.proofs.Mentioning.{found_key}
use Rattle.shop_order.specs.declared.parts.OrderPart.{OrderPart}
use Rattle.shop_order.specs.declared.stock.Move.TheVariants as M
use Rattle.shop_order.specs.declared.wants.Want.{Want}
use Rattle.shop_order.specs.Keys.{cart_key}
use Rattle.shop_order.specs.OrderRows.{lines_from, tax_change, order_changes, put_row, order_row}
use Rattle.shop_order.specs.Parts.{parts, line_want}
use Rattle.shop_order.specs.Placing.{place, placing_changes, breaks, take_out, cart_gone, keys_of_cart, wants, IsFit}
use Rattle.shop_order.specs.Plans.{IsPlanOf, IsFaultOf, Plans}
use Rattle.shop_order.specs.Wants.{AreFew, stock_moved, stocks_moved}
use Rattle.shop_order.proofs.Sorted.{sorted_rows, sorted_stand}

pub append_stand : (xs ys : List Change) → StandUnderTheirKeys xs → StandUnderTheirKeys ys → StandUnderTheirKeys (xs ++ ys)
append_stand [] ys stand more = more
append_stand (x ∷ xs) ys stand more = (stand.0, append_stand xs ys stand.1 more)

pub stocks_stand : (rows : List Row) (all wants : List Want) → StandUnderTheirKeys (map (stock_moved rows M.Take all) wants)
stocks_stand rows all [] = tt
stocks_stand rows all (want ∷ wants) = (refl, stocks_stand rows all wants)

pub gone_stand : (keys : List Key) → StandUnderTheirKeys (map take_out keys)
gone_stand [] = tt
gone_stand (key ∷ keys) = (tt, gone_stand keys)

pub lines_stand : (order position : ℕ) (parts : List OrderPart) (labels : List (List ℕ)) → StandUnderTheirKeys (lines_from order position parts labels)
lines_stand order position [] labels = tt
lines_stand order position (part ∷ parts) [] = tt
lines_stand order position (part ∷ parts) (label ∷ labels) = (refl, lines_stand order (position + 1) parts labels)

pub taxes_stand : (order : ℕ) (sums : List TaxSum) → StandUnderTheirKeys (map (tax_change order) sums)
taxes_stand order [] = tt
taxes_stand order (sum ∷ sums) = (refl, taxes_stand order sums)

pub cart_stand : (rows : List Row) (cart : ℕ) → StandUnderTheirKeys (cart_gone rows cart)
cart_stand rows cart =
    append_stand ((take_out (cart_key cart) ∷ []) ++ map take_out (keys_of_cart rows E.CartLine cart)) (map take_out (keys_of_cart rows E.CartCode cart))
    (tt, gone_stand (keys_of_cart rows E.CartLine cart)) (gone_stand (keys_of_cart rows E.CartCode cart))

module _ (rows : List Row) (cart order : ℕ) (moment : ℤ) (settled : Settled) (row : Row) where
  abbrev changes_of : List Change
  changes_of = placing_changes rows cart order moment row settled

  placing_stand : StandUnderTheirKeys changes_of
  placing_stand =
      append_stand (stocks_moved rows M.Take (wants settled) ++ cart_gone rows cart) (order_changes order row moment settled)
      (append_stand (stocks_moved rows M.Take (wants settled)) (cart_gone rows cart) (stocks_stand rows (wants settled) (wants settled))
      (append_stand ((take_out (cart_key cart) ∷ []) ++ map take_out (keys_of_cart rows E.CartLine cart)) (map take_out (keys_of_cart rows E.CartCode cart))
      (tt, gone_stand (keys_of_cart rows E.CartLine cart)) (gone_stand (keys_of_cart rows E.CartCode cart))))
      (append_stand ((put_row (order_row order row moment settled.cart) ∷ []) ++ lines_from order 1 (parts settled.cart) settled.labels) (map (tax_change order) settled.cart.taxes) (refl, lines_stand order 1 (parts settled.cart) settled.labels) (taxes_stand order settled.cart.taxes))

  pub placed_plan : (changes : List Change) → IsInKeyOrder rows → row_at rows (cart_key cart) ≡ Some row → breaks rows settled ≡ None → changes ≡ add_changes [] (placing_changes rows cart order moment row settled) → HasAscendingKeys changes
      → IsPlanOf rows (place rows cart order moment settled) changes
  unfolding place
  placed_plan changes up there none e ascend =
      let up_too : HasAscendingKeys (add_changes [] changes_of) = subst HasAscendingKeys e ascend in
      subst (IsPlanOf rows (place rows cart order moment settled)) (sym e) (record {
        rows = rw (there, none) (ap Ok (sym (sorted_rows rows changes_of up placing_stand up_too)));
        ascends = up_too;
        stand = sorted_stand changes_of placing_stand;
      })

  pub placed_fault : (broken : Broken) (fault : PlanFault) → row_at rows (cart_key cart) ≡ Some row → breaks rows settled ≡ Some broken → fault ≡ F.Refused (record { op = 0; broken = broken }) → IsFaultOf (place rows cart order moment settled) fault
  unfolding place
  placed_fault broken fault there some e = subst (IsFaultOf (place rows cart order moment settled)) (sym e) (refl, rw (there, some) refl)

-- ---- the lines of a settled cart want few pieces

lines_small : (lines : List PricedLine) → AllByRecursion (λ line. line.quantity ≤ 10000) lines → AllByRecursion (λ want. want.quantity ≤ 10000) (map line_want lines)
lines_small [] all = tt
lines_small (line ∷ lines) all = (all.0, lines_small lines all.1)

as_many : (lines : List PricedLine) → length (map line_want lines) ≡ length lines
as_many [] = refl
as_many (line ∷ lines) = ap suc (as_many lines)

pub few_lines : (settled : Settled) → IsFit settled → AreFew (wants settled)
few_lines settled fit = record {
  lines = let same = as_many settled.cart.lines in let few = fit.lines in omega (arith, same, few);
  each = lines_small settled.cart.lines fit.quantities;
}

-- ---- the cart's row

cart_id : (rows : List Row) (cart : ℕ) (row : Row) → row_at rows (cart_key cart) ≡ Some row → row.key.id ≡ cart
cart_id rows cart row there = ap (λ (k : Key). k.id) (found_key rows (cart_key cart) row there)

pub cart_there : (rows : List Row) (cart : ℕ) (row : Row) → row_at rows (cart_key cart) ≡ Some row → row_at rows (cart_key row.key.id) ≡ Some row
cart_there rows cart row there = subst (λ (id : ℕ). row_at rows (cart_key id) ≡ Some row) (sym (cart_id rows cart row there)) there

pub by_cart : (rows : List Row) (cart order : ℕ) (moment value : ℤ) (settled : Settled) (row : Row) (answer : Result (Delta × ℤ) PlanFault) → row_at rows (cart_key cart) ≡ Some row → Plans rows (place rows row.key.id order moment settled) value answer → Plans rows (place rows cart order moment settled) value answer
by_cart rows cart order moment value settled row answer there is = subst (λ (id : ℕ). Plans rows (place rows id order moment settled) value answer) (cart_id rows cart row there) is

pub place_missing : (rows : List Row) (cart order : ℕ) (moment : ℤ) (settled : Settled) (fault : PlanFault) → row_at rows (cart_key cart) ≡ None → fault ≡ F.Refused (record { op = 0; broken = B.NoSuchCart cart }) → IsFaultOf (place rows cart order moment settled) fault
unfolding place
place_missing rows cart order moment settled fault none e = subst (IsFaultOf (place rows cart order moment settled)) (sym e) (refl, rw none refl)

-- ---- changes, one after the other

pub three_more : (before x y z first second third : List Change) → first ≡ before ++ x → second ≡ first ++ y → third ≡ second ++ z → third ≡ before ++ ((x ++ y) ++ z)
three_more before x y z first second third e f g = g ∙ (ap (λ (all : List Change). all ++ z) (f ∙ ap (λ (all : List Change). all ++ y) e) ∙ simp append_assoc)

-- ---- numbers

pub amount_fits : (n : ℤ) → IsAmount n → FitsSigned w64 n
amount_fits (pos n) e = first_of (omega (arith, ints, e), search (rules, ints))
amount_fits (negsuc n) e = first_of (omega (arith, ints, e), search (rules, ints))
