-- Which rows can be written: those that have a spelling; and what of it holds where fields are known to ascend.
use Rattle.std.proofs.Common.{◌≡◌, ◌<◌, ◌+◌, cond, ltb, Bool, true, false, List, [], ◌∷◌, length, ℕ, Option, Some, None, refl, sym, arith}
use Rattle.std.specs.List.{AllByRecursion}
use Rattle.std.specs.Ordering.{nat_cmp}
use Rattle.std.specs.Cmp.{ranked}
use Rattle.std.specs.declared.cmp.Ordering.TheVariants.{Less}
use Rattle.std.proofs.lemmas.Bool.{lt-ltb, ltb-true}
use Rattle.keyed.specs.Keyed.{Ascends}
use Rattle.shop_defs.specs.declared.row.Row.{Row}
use Rattle.shop_defs.specs.declared.op.Op.{Op}
use Rattle.shop_defs.specs.declared.value.Value.{Value}
use Rattle.shop_defs.specs.declared.value.Value.TheVariants as V
use Rattle.shop_kept.specs.Spelling.{FitsValue, FitsGiven, FitsField, FitFields, FitsOp, FitsRow, IsValue, IsGiven, IsField, AreFields, IsOp, IsKeptRow, rises}

each_weaker : {X : Type 0} (P Q : X → Type 0) → ((x : X) → P x → Q x) → (xs : List X) → AllByRecursion P xs → AllByRecursion Q xs
each_weaker P Q weaker [] all = tt
each_weaker P Q weaker (x ∷ xs) all = (weaker x all.0, each_weaker P Q weaker xs all.1)

fits_value : (value : Value) → IsValue value → FitsValue value
fits_value (V.Flag flag) is = tt
fits_value (V.Int number) is = tt
fits_value (V.Text text) is = is.0
fits_value (V.Ident id) is = tt

fits_given : (given : Option Value) → IsGiven given → FitsGiven given
fits_given None is = tt
fits_given (Some value) is = fits_value value is

fit_fields : {X : Type 0} (Is Fits : X → Type 0) → ((x : X) → Is x → Fits x) → (fields : List (ℕ × X)) → AreFields Is fields → FitFields Fits fields
fit_fields Is Fits fits fields are = (are.0, each_weaker (IsField Is) (FitsField Fits) (λ field is. fits field.1 is.1) fields are.1, are.2)

fits_op : (op : Op) → IsOp op → FitsOp op
fits_op op is = fit_fields IsGiven FitsGiven fits_given op.fields is.2

pub fits_kept : (row : Row) → IsKeptRow row → FitsRow row
fits_kept row is = (fit_fields IsValue FitsValue fits_value row.fields is.0, (is.1.0, each_weaker IsOp FitsOp fits_op row.ops is.1.1))

-- ---- for who makes rows: fields in the order of their numbers rise, and there are at most 255

pub rises_ascending : {X : Type 0} (above : ℕ) (fields : List (ℕ × X)) → AllByRecursion (λ field. above < field.0) fields → Ascends nat_cmp (λ field. field.0) fields → rises above fields ≡ true
rises_ascending above [] all ascends = refl
rises_ascending above (field ∷ fields) all ascends =
    let higher = each_weaker (λ other. nat_cmp field.0 other.0 ≡ Less) (λ other. field.0 < other.0) (λ other less. ranked field.0 other.0 Less (sym less)) fields ascends.0 in
    rw (lt-ltb above field.0 all.0) (rises_ascending field.0 fields higher ascends.1)

pub few_rise : {X : Type 0} (above : ℕ) (fields : List (ℕ × X)) → above < 256 → AllByRecursion (λ field. field.0 < 256) fields → rises above fields ≡ true → above + length fields < 256
few_rise above [] low all rise = omega arith
few_rise above (field ∷ fields) low all rise = by (few_rise field.0 fields all.0 all.1) (ltb above field.0) refl rise
  where
    by : (rises field.0 fields ≡ true → field.0 + length fields < 256) → (is : Bool) → ltb above field.0 ≡ is → cond is (rises field.0 fields) false ≡ true → above + length (field ∷ fields) < 256
    by few true is rise = let lower = ltb-true above field.0 is in let most = few rise in omega arith
    by few false is rise = absurd cc
