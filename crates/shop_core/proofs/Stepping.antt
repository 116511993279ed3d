-- What a step is, by its rules.
use Rattle.std.proofs.Common.{◌≡◌, ℕ, ℤ, ◌<◌, ◌≤◌, cond, Bool, true, false, ltb, List, refl, ap, subst, ◌∙◌, to_z, of_z, w64}
use Rattle.std.specs.Int.RustNames.{FitsSigned}
use Rattle.std.proofs.lemmas.Int.{to_z-of_z}
use Rattle.std.proofs.lemmas.Bool.{lt-ltb, le-ltb}
use Rattle.shop_requests.specs.declared.command.Command.{Command}
use Rattle.shop_defs.specs.declared.refused.Refused.{Refused}
use Rattle.shop_defs.specs.declared.row.Row.{Row}
use Rattle.shop_core.specs.Steps.{Stepped, accepted, refused, unbuilt, effect, counted, step, most_entries, history_full}

counted_below : (number : ℕ) (rows : List Row) (value : ℤ) → number < most_entries → counted number (accepted rows value) ≡ accepted rows value
counted_below number rows value less = rw (lt-ltb number most_entries less) refl

counted_full : (number : ℕ) (rows : List Row) (value : ℤ) → most_entries ≤ number → counted number (accepted rows value) ≡ refused history_full
counted_full number rows value most = rw (le-ltb number most_entries most) refl

-- a command that is accepted by all other rules is accepted below the most entries
pub step_accepts : (rows now : List Row) (number : ℕ) (command : Command) (moment value : ℤ) → number < most_entries → effect rows command moment ≡ accepted now value → step rows number command moment ≡ accepted now value
unfolding step
step_accepts rows now number command moment value less e = ap (counted number) e ∙ counted_below number now value less

-- and refused at them
pub step_is_full : (rows now : List Row) (number : ℕ) (command : Command) (moment value : ℤ) → most_entries ≤ number → effect rows command moment ≡ accepted now value → step rows number command moment ≡ refused history_full
unfolding step
step_is_full rows now number command moment value most e = ap (counted number) e ∙ counted_full number now value most

-- a command that is refused by another rule is refused
pub step_refuses : (rows : List Row) (number : ℕ) (command : Command) (moment : ℤ) (rule : Refused) → effect rows command moment ≡ refused rule → step rows number command moment ≡ refused rule
unfolding step
step_refuses rows number command moment rule e = ap (counted number) e

counted_none : (number : ℕ) (b : Bool) (rows now : List Row) (given value : ℤ) → cond b (accepted rows given) (refused history_full) ≡ accepted now value → accepted rows given ≡ accepted now value
counted_none number true rows now given value e = e
counted_none number false rows now given value e = (cc)

counted_accepts : (number : ℕ) (s : Stepped) (now : List Row) (value : ℤ) → counted number s ≡ accepted now value → s ≡ accepted now value
counted_accepts number (accepted rows given) now value e = counted_none number (ltb number most_entries) rows now given value e
counted_accepts number (refused rule) now value e = (cc)
counted_accepts number unbuilt now value e = (cc)

-- what is accepted as a step is accepted by all other rules
pub accepted_effect : (rows now : List Row) (number : ℕ) (command : Command) (moment value : ℤ) → step rows number command moment ≡ accepted now value → effect rows command moment ≡ accepted now value
unfolding step
accepted_effect rows now number command moment value e = counted_accepts number (effect rows command moment) now value e

-- ---- a moment as the code passes it

-- what a command does at the moment that is passed is what it does at the moment
pub effect_at : (rows now : List Row) (command : Command) (moment value : ℤ) → FitsSigned w64 moment → effect rows command (to_z w64 (of_z w64 moment)) ≡ accepted now value → effect rows command moment ≡ accepted now value
effect_at rows now command moment value fits e = subst (λ (m : ℤ). effect rows command m ≡ accepted now value) (to_z-of_z w64 moment fits) e

pub refused_at : (rows : List Row) (command : Command) (moment : ℤ) (rule : Refused) → FitsSigned w64 moment → effect rows command (to_z w64 (of_z w64 moment)) ≡ refused rule → effect rows command moment ≡ refused rule
refused_at rows command moment rule fits e = subst (λ (m : ℤ). effect rows command m ≡ refused rule) (to_z-of_z w64 moment fits) e
