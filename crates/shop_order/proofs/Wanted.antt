-- Of few lines few pieces are wanted, and the lines of an order are few.
use Rattle.std.proofs.Common.{◌≡◌, ℕ, ◌≤◌, ◌+◌, ◌*◌, Bool, true, false, ◌==◌, List, [], ◌∷◌, ◌++◌, length, Option, Some, None, if◌then◌else◌, refl, sym, ap, subst, ◌∙◌, arith}
use Rattle.std.specs.Prelude.{codes}
use Rattle.std.specs.List.{AllByRecursion, filter_map, cons_option}
use Rattle.std.specs.Option.{option_to_list}
use Rattle.shop_defs.specs.declared.entity.Entity.{Entity}
use Rattle.shop_defs.specs.declared.entity.Entity.TheVariants as E
use Rattle.shop_defs.specs.declared.row.Row.{Row}
use Rattle.row_fields.specs.Checked.{IsRowOf}
use Rattle.row_fields.specs.Fields.{id_at, is_text_at}
use Rattle.shop_order.specs.declared.numbers.TheConstants.{LINE_KIND, LINE_PRODUCT, LINE_QUANTITY}
use Rattle.shop_order.specs.declared.wants.Want.{Want}
use Rattle.shop_order.specs.Checked.{AreChecked, AreOrderly}
use Rattle.shop_order.specs.Stock.{size_at}
use Rattle.shop_order.specs.Wants.{is_line_of, lines_of, want_of, wants_of, pieces, wanted, AreFew}
use Rattle.shop_order.proofs.Bounds.{quantity_few}
use Rattle.shop_order.proofs.Lines.{line_entity}

pieces_few : (want : Want) (product : ℕ) → want.quantity ≤ 10000 → pieces want product ≤ 10000
pieces_few want product few = by (want.product == product) refl
  where
    by : (b : Bool) → (want.product == product) ≡ b → pieces want product ≤ 10000
    by true e = rw e few
    by false e = rw e (omega arith)

wanted_le : (wants : List Want) (product : ℕ) → AllByRecursion (λ want. want.quantity ≤ 10000) wants → wanted wants product ≤ 10000 * length wants
wanted_le [] product all = omega arith
wanted_le (want ∷ wants) product all =
    let here = pieces_few want product all.0 in
    let more = wanted_le wants product all.1 in
    omega (arith, here, more)

pub wanted_few : (wants : List Want) (product : ℕ) → AreFew wants → wanted wants product ≤ 2010000
wanted_few wants product few = let all = wanted_le wants product few.each in let lines = few.lines in omega (arith, all, lines)

-- ---- the lines of an order

fewer : (rows : List Row) → length (filter_map want_of rows) ≤ length rows
fewer [] = omega arith
fewer (row ∷ rows) = by (fewer rows) (want_of row)
  where
    by : length (filter_map want_of rows) ≤ length rows → (want : Option Want) → length (cons_option want (filter_map want_of rows)) ≤ length (row ∷ rows)
    by more None = omega (arith, more)
    by more (Some want) = omega (arith, more)

abbrev AreSmall : List Want → Type 0
AreSmall wants = AllByRecursion (λ want. want.quantity ≤ 10000) wants

one_small : (row : Row) (rest : List Want) → size_at row LINE_QUANTITY ≤ 10000 → AreSmall rest → AreSmall (cons_option (want_of row) rest)
one_small row rest few more = by (is_text_at row LINE_KIND (codes "product")) (id_at row LINE_PRODUCT) refl refl
  where
    by : (b : Bool) (id : Option ℕ) → is_text_at row LINE_KIND (codes "product") ≡ b → id_at row LINE_PRODUCT ≡ id → AreSmall (cons_option (want_of row) rest)
    by true None e f = rw (e, f) more
    by true (Some product) e f = rw (e, f) (few, more)
    by false id e f = rw e more

all_small : (rows : List Row) (order : ℕ) → AreChecked rows → AreSmall (wants_of rows order)
all_small [] order all = tt
all_small (row ∷ rows) order all = by (all_small rows order all.1) (is_line_of order row) refl
  where
    by : AreSmall (wants_of rows order) → (b : Bool) → is_line_of order row ≡ b → AreSmall (wants_of (row ∷ rows) order)
    by more true e = rw e (one_small row (wants_of rows order) (quantity_few row (subst (λ (e : Entity). IsRowOf e row) (line_entity order row e) all.0)) more)
    by more false e = rw e more

pub few_wants : (rows : List Row) (order : ℕ) → AreOrderly rows → AreFew (wants_of rows order)
few_wants rows order orderly = record {
  lines = let short = fewer (lines_of rows order) in let few = orderly.few order in omega (arith, short, few);
  each = all_small rows order orderly.each;
}

pub walked : (found : List Want) (want : Option Want) (rest : List Want) → (found ++ option_to_list want) ++ rest ≡ found ++ cons_option want rest
walked [] None rest = refl
walked [] (Some want) rest = refl
walked (first ∷ found) want rest = ap (λ (wants : List Want). first ∷ wants) (walked found want rest)
