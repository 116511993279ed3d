-- What is kept of a value that a field can hold fits the field's kind.
use Rattle.std.proofs.Common.{◌≡◌, ℕ, ◌<◌, true, false, Bool, Option, Some, None, List, ℤ, refl, arith}
use Rattle.std.specs.Prelude.{◌==◌, not}
use Rattle.std.specs.Option.{option_map}
use Rattle.std.proofs.lemmas.Bool.Decides.{nat_tests}
use Rattle.shop_defs.specs.declared.value.Value.TheVariants as V
use Rattle.shop_requests.specs.declared.raw.Raw.{Raw}
use Rattle.shop_requests.specs.declared.raw.Raw.TheVariants as R
use Rattle.shop_defs.specs.declared.table.FieldKind.{FieldKind}
use Rattle.shop_defs.specs.declared.table.FieldKind.TheVariants as K
use Rattle.shop_defs.specs.declared.entity.Entity.{Entity}
use Rattle.shop_requests.specs.declared.check.ValueFault.{ValueFault}
use Rattle.shop_requests.specs.Ids.{id_of}
use Rattle.shop_requests.specs.Days.{day_of}
use Rattle.shop_requests.specs.Checks.{unless, fault_in, kept}
use Rattle.shop_defs.specs.Checks.{null_or_fits}
use Rattle.shop_requests.proofs.IdTexts.{id_positive}
use Rattle.shop_requests.proofs.DayRange.{day_of_in_range}

-- where there is no fault, the test passed
unless_none : (holds : Bool) (fault : ValueFault) → unless holds fault ≡ None → holds ≡ true
unless_none true fault none = refl
unless_none false fault none = cc

not_zero : (id : ℕ) → 0 < id → not (id == 0) ≡ true
not_zero id positive = grind (arith, nat_tests)

id_kept : (entity : Entity) (text : List ℕ) (id : Option ℕ) → id_of text ≡ id → null_or_fits (K.Id entity) (option_map V.Ident id) ≡ true
id_kept entity text None is = refl
id_kept entity text (Some id) is = not_zero id (id_positive text id is)

loose_kept : (text : List ℕ) (id : Option ℕ) → id_of text ≡ id → null_or_fits K.Loose (option_map V.Ident id) ≡ true
loose_kept text None is = refl
loose_kept text (Some id) is = not_zero id (id_positive text id is)

day_kept : (text : List ℕ) (days : Option ℤ) → day_of text ≡ days → null_or_fits K.Day (option_map V.Int days) ≡ true
day_kept text None is = refl
day_kept text (Some days) is = day_of_in_range text days is

pub kept_fits : (kind : FieldKind) (raw : Raw) → fault_in kind raw ≡ None → null_or_fits kind (kept kind raw) ≡ true
kept_fits K.Flag (R.Flag flag) none = refl
kept_fits (K.Int low high) (R.Int number) none = unless_none _ _ none
kept_fits K.Interval (R.Int number) none = unless_none _ _ none
kept_fits (K.Text low high) (R.Text text) none = unless_none _ _ none
kept_fits (K.Choice choice) (R.Text text) none = unless_none _ _ none
kept_fits (K.Id entity) (R.Text text) none = id_kept entity text (id_of text) refl
kept_fits K.Loose (R.Text text) none = loose_kept text (id_of text) refl
kept_fits K.Day (R.Text text) none = day_kept text (day_of text) refl
kept_fits K.Flag R.Null none = refl
kept_fits (K.Int low high) R.Null none = refl
kept_fits K.Interval R.Null none = refl
kept_fits (K.Text low high) R.Null none = refl
kept_fits (K.Choice choice) R.Null none = refl
kept_fits (K.Id entity) R.Null none = refl
kept_fits K.Loose R.Null none = refl
kept_fits K.Day R.Null none = refl
kept_fits kind raw none = cc
