-- The first of the rules that is broken, as they are tried.
use Rattle.std.proofs.Common.{◌≡◌, List, [], ◌∷◌, refl, ◌∙◌, Option, Some, None}
use Rattle.shop_defs.specs.declared.broken.Broken.{Broken}
use Rattle.shop_defs.specs.declared.op.Op.{Op}
use Rattle.shop_defs.specs.declared.row.Row.{Row}
use Rattle.shop_operations.specs.Operations.{first, place, broken_by}
use Rattle.shop_operations.specs.Upserts.{row_in, with_row, fixed_field, missing_required, missing_reference, duplicate, parent_cycle, parent_too_deep, too_many}
use Rattle.shop_operations.specs.Views.{View}

-- two rules that are tried in one call
pub stop_two : (a b : Option Broken) (rest : List (Option Broken)) (broken : Broken) → Some broken ≡ first (a ∷ b ∷ []) → Some broken ≡ first (a ∷ b ∷ rest)
stop_two None None rest broken e = cc
stop_two None (Some other) rest broken e = e
stop_two (Some other) b rest broken e = e

pub skip_two : (a b : Option Broken) (rest : List (Option Broken)) (found : Option Broken) → None ≡ first (a ∷ b ∷ []) → found ≡ first rest → found ≡ first (a ∷ b ∷ rest)
skip_two None None rest found e f = f
skip_two None (Some other) rest found e f = cc
skip_two (Some other) b rest found e f = cc

-- ---- all rules, by those that are tried in one call

-- the rules on the row alone
abbrev pub alone : View → Op → Row → Option Broken
alone view op row = first (fixed_field (row_in view.rows (place view op)) row ∷ missing_required row ∷ [])

-- the rules on the rows beside it
abbrev pub beside : View → Op → Row → Option Broken
beside view op row = let rows = with_row view.rows row in first (missing_reference rows op row ∷ duplicate rows row ∷ [])

-- the rules on its parents
abbrev pub above : View → Op → Row → Option Broken
above view op row = let rows = with_row view.rows row in first (parent_cycle rows op row ∷ parent_too_deep rows op row ∷ [])

module _ (view : View) (op : Op) (row : Row) where
  pub breaks_alone : (broken : Broken) → Some broken ≡ alone view op row → Some broken ≡ broken_by view op row
  breaks_alone broken e = stop_two (fixed_field (row_in view.rows (place view op)) row) (missing_required row) _ broken e

  pub breaks_beside : (broken : Broken) → None ≡ alone view op row → Some broken ≡ beside view op row → Some broken ≡ broken_by view op row
  breaks_beside broken a e =
      skip_two (fixed_field (row_in view.rows (place view op)) row) (missing_required row) _ _ a
      (stop_two (missing_reference (with_row view.rows row) op row) (duplicate (with_row view.rows row) row) _ broken e)

  pub breaks_above : (broken : Broken) → None ≡ alone view op row → None ≡ beside view op row → Some broken ≡ above view op row → Some broken ≡ broken_by view op row
  breaks_above broken a b e =
      skip_two (fixed_field (row_in view.rows (place view op)) row) (missing_required row) _ _ a
      (skip_two (missing_reference (with_row view.rows row) op row) (duplicate (with_row view.rows row) row) _ _ b
      (stop_two (parent_cycle (with_row view.rows row) op row) (parent_too_deep (with_row view.rows row) op row) _ broken e))

  pub breaks_limit : (found : Option Broken) → None ≡ alone view op row → None ≡ beside view op row → None ≡ above view op row → found ≡ too_many view.hidden (with_row view.rows row) row → found ≡ broken_by view op row
  breaks_limit found a b d e =
      skip_two (fixed_field (row_in view.rows (place view op)) row) (missing_required row) _ _ a
      (skip_two (missing_reference (with_row view.rows row) op row) (duplicate (with_row view.rows row) row) _ _ b
      (skip_two (parent_cycle (with_row view.rows row) op row) (parent_too_deep (with_row view.rows row) op row) _ _ d
      (e ∙ one (too_many view.hidden (with_row view.rows row) row))))
    where
      one : (o : Option Broken) → o ≡ first (o ∷ [])
      one None = refl
      one (Some broken) = refl
