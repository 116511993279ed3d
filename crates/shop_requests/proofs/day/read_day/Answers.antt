use Rattle.std.proofs.Common.{◌≡◌, ℕ, ℤ, List, Option, Some, None, sym, rules}
use Rattle.std.specs.Prelude.{IfSome, IsTrue}
use Rattle.shop_requests.specs.Days.{day_of}
use Rattle.shop_defs.specs.Days.{is_day_number}
use Rattle.shop_requests.proofs.DayRange.{day_of_in_range}
use Rattle.shop_requests.proofs.day.read_day.Goals as goal

-- what a text reads as is in range
in_range : (text : List ℕ) (days : Option ℤ) → days ≡ day_of text → IfSome days (λ number. IsTrue (is_day_number number))
in_range text None is = tt
in_range text (Some days) is = day_of_in_range text days (sym is)

pub returns-clause-value : goal.returns-clause-value
unfolding day_of
returns-clause-value c = search rules

pub returns-clause-range : goal.returns-clause-range
returns-clause-range c = in_range c.args.text.now c.day_of_parts.result (returns-clause-value c)
