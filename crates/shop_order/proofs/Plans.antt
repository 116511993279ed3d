-- The changes that are planned make of the rows what the definitions say.
use Rattle.std.proofs.Common.{◌≡◌, ℕ, ℤ, List, [], ◌∷◌, ◌++◌, Option, Some, None, refl, sym, ap, subst, ◌∙◌, Ok, Result}
use Rattle.std.specs.Prelude.{map}
use Rattle.std.specs.List.{AllByRecursion}
use Rattle.shop_defs.specs.declared.broken.Broken.{Broken}
use Rattle.shop_defs.specs.declared.broken.Broken.TheVariants as B
use Rattle.shop_defs.specs.declared.delta.Delta.{Delta}
use Rattle.shop_requests.specs.declared.command.Action.{Action}
use Rattle.shop_defs.specs.declared.refused.PlanFault.{PlanFault}
use Rattle.shop_defs.specs.declared.refused.PlanFault.TheVariants as F
use Rattle.shop_defs.specs.declared.row.Row.{Row}
use Rattle.shop_defs.specs.Joined.{Change, add_changes}
use Rattle.shop_defs.specs.Rows.{row_at, IsInKeyOrder}
use Rattle.shop_rows.specs.Changing.{StandUnderTheirKeys, StandsUnderItsKey, HasAscendingKeys}
use Rattle.shop_rows.proofs.Mentioning.{found_key}
use Rattle.shop_order.specs.declared.states.OrderState.{OrderState}
use Rattle.shop_order.specs.declared.stock.Move.{Move}
use Rattle.shop_order.specs.declared.wants.Want.{Want}
use Rattle.shop_order.specs.Adjusting.{adjust, adjusting_breaks, adjusting_changes}
use Rattle.shop_order.specs.Keys.{order_key}
use Rattle.shop_order.specs.Plans.{IsPlanOf, IsFaultOf, Plans}
use Rattle.shop_order.specs.States.{state_of, next_state}
use Rattle.shop_order.specs.Steps.{state_change, step, step_of, step_by, step_to}
use Rattle.shop_order.specs.Wants.{wants_of, short_for, stock_moved, stocks_moved}
use Rattle.shop_order.proofs.Sorted.{sorted_rows, sorted_stand}

-- ---- stock is adjusted

pub adjusted_plan : (rows : List Row) (product : ℕ) (amount : ℤ) (changes : List Change) → adjusting_breaks rows product amount ≡ None → changes ≡ adjusting_changes rows product amount → IsPlanOf rows (adjust rows product amount) changes
unfolding adjust
adjusted_plan rows product amount changes none e = subst (IsPlanOf rows (adjust rows product amount)) (sym e) (record { rows = rw none refl; ascends = (tt, tt); stand = (refl, tt) })

pub adjusted_fault : (rows : List Row) (product : ℕ) (amount : ℤ) (broken : Broken) (fault : PlanFault) → adjusting_breaks rows product amount ≡ Some broken → fault ≡ F.Refused (record { op = 0; broken = broken }) → IsFaultOf (adjust rows product amount) fault
unfolding adjust
adjusted_fault rows product amount broken fault some e = subst (IsFaultOf (adjust rows product amount)) (sym e) (refl, rw some refl)

-- ---- an order is taken to another state

stocks_stand : (rows : List Row) (way : Move) (all wants : List Want) (more : List Change) → StandUnderTheirKeys more → StandUnderTheirKeys (map (stock_moved rows way all) wants ++ more)
stocks_stand rows way all [] more stand = stand
stocks_stand rows way all (want ∷ wants) more stand = (refl, stocks_stand rows way all wants more stand)

module _ (rows : List Row) (order : ℕ) (row : Row) (to : OrderState) (up : IsInKeyOrder rows) (there : row_at rows (order_key order) ≡ Some row) where
  abbrev changes_of : Move → List Want → List Change
  changes_of way wants = stocks_moved rows way wants ++ state_change order row to ∷ []

  stand : (way : Move) (wants : List Want) → StandUnderTheirKeys (changes_of way wants)
  stand way wants = stocks_stand rows way wants wants (state_change order row to ∷ []) (found_key rows (order_key order) row there, tt)

  pub stepped_plan : (way : Move) (changes : List Change) → short_for way rows (wants_of rows order) ≡ None → changes ≡ add_changes [] (stocks_moved rows way (wants_of rows order) ++ state_change order row to ∷ []) → HasAscendingKeys changes
      → IsPlanOf rows (step_to rows order row to (Some way)) changes
  stepped_plan way changes none e ascend =
      let all = changes_of way (wants_of rows order) in
      let up_too : HasAscendingKeys (add_changes [] all) = subst HasAscendingKeys e ascend in
      subst (IsPlanOf rows (step_to rows order row to (Some way))) (sym e) (record {
        rows = rw none (ap Ok (sym (sorted_rows rows all up (stand way (wants_of rows order)) up_too)));
        ascends = up_too;
        stand = sorted_stand all (stand way (wants_of rows order));
      })

  pub moved_plan : (way : Move) (changes : List Change) → changes ≡ add_changes [] (stocks_moved rows way [] ++ state_change order row to ∷ []) → HasAscendingKeys changes → IsPlanOf rows (step_to rows order row to None) changes
  moved_plan way changes e ascend =
      let all = changes_of way [] in
      let up_too : HasAscendingKeys (add_changes [] all) = subst HasAscendingKeys e ascend in
      subst (IsPlanOf rows (step_to rows order row to None)) (sym e) (record {
        rows = ap Ok (sym (sorted_rows rows all up (stand way []) up_too));
        ascends = up_too;
        stand = sorted_stand all (stand way []);
      })

pub stepped_fault : (rows : List Row) (order : ℕ) (row : Row) (to : OrderState) (way : Move) (broken : Broken) (fault : PlanFault) → short_for way rows (wants_of rows order) ≡ Some broken → fault ≡ F.Refused (record { op = 0; broken = broken })
    → IsFaultOf (step_to rows order row to (Some way)) fault
stepped_fault rows order row to way broken fault some e = subst (IsFaultOf (step_to rows order row to (Some way))) (sym e) (refl, rw some refl)

pub step_there : (rows : List Row) (order : ℕ) (action : Action) (row : Row) (value : ℤ) (answer : Result (Delta × ℤ) PlanFault) → row_at rows (order_key order) ≡ Some row
    → Plans rows (step_by rows order action row (state_of row) (next_state (state_of row) action)) value answer → Plans rows (step rows order action) value answer
unfolding step
step_there rows order action row value answer there is = subst (λ (found : Option Row). Plans rows (step_of rows order action found) value answer) (sym there) is

pub step_missing : (rows : List Row) (order : ℕ) (action : Action) (fault : PlanFault) → row_at rows (order_key order) ≡ None → fault ≡ F.Refused (record { op = 0; broken = B.NoSuchRow (order_key order) }) → IsFaultOf (step rows order action) fault
unfolding step
step_missing rows order action fault none e = subst (IsFaultOf (step rows order action)) (sym e) (refl, rw none refl)
