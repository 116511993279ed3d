-- What is reported of the rows that a keeper holds.
use Rattle.std.specs.Prelude.{ℕ, ◌++◌, List, length, codes, Option, Some, None}
use Rattle.std.specs.Fmt.{decimal}
use Rattle.shop_outside.specs.declared.keeper.Kept.{Kept}
use Rattle.shop_check.specs.Damage.{Damage, first_damage}
use Rattle.shop_check.specs.Rules.{rule_text}
use Rattle.reply_json.specs.KeyTexts.{key_text}

-- how many rows there are, and the number of entries that led to them
abbrev pub count_lines : ℕ → ℕ → List ℕ
count_lines rows number = codes "rows " ++ decimal rows ++ codes "\nnumber " ++ decimal number ++ codes "\n"

-- the key of the first damaged row, and the first rule that it breaks
abbrev pub damage_line : Damage → List ℕ
damage_line damage = codes "damaged " ++ key_text damage.0 ++ codes " " ++ rule_text damage.1 ++ codes "\n"

-- a report, and the status that goes with it
pub record Report : Type 0 where
  pub text : List ℕ
  pub status : ℕ

abbrev pub reported : Kept → Option Damage → Report
reported held None = record { text = count_lines (length held.rows) held.number; status = 0 }
reported held (Some damage) = record { text = damage_line damage; status = 7 }

abbrev pub report_of : Kept → Report
report_of held = reported held (first_damage held.rows)
