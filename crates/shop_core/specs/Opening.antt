-- What opening a shop over a keeper answers and leaves.
use Rattle.std.specs.Prelude.{ℕ, ◌≡◌, ◌≤◌, ◌<◌, ◌^◌, Option, Some, None, IfSome}
use Rattle.shop_defs.specs.declared.key.Key.{Key}
use Rattle.shop_outside.specs.Causes.{Rose}
use Rattle.shop_outside.specs.declared.keeper.Kept.{Kept}
use Rattle.shop_check.specs.declared.fault.Rule.{Rule}
use Rattle.shop_check.specs.Damage.{first_damage, IsFirstDamage}
use Rattle.shop_check.specs.Soundness.{kept}
use Rattle.shop_core.specs.declared.answers.OpenFault.{OpenFault}
use Rattle.shop_core.specs.declared.answers.OpenFault.TheVariants as opening
use Rattle.shop_core.specs.Shops.{ShopView}

-- what the keeper gave when it was loaded: what it holds, where it tells
pub record IsLoaded (content : Option Kept) (loaded : Kept) : Type 0 where
  pub held : IfSome content (λ held. loaded ≡ held)
  pub number : loaded.number < 2 ^ 63

-- the shop that is opened has the rows of which what was loaded is kept, and the number beside them
pub record Opens (content : Option Kept) (faults : ℕ) (view : ShopView) : Type 0 where
  pub loaded : Kept
  pub is_loaded : IsLoaded content loaded
  pub undamaged : first_damage loaded.rows ≡ None
  pub rows : kept view.rows ≡ loaded.rows
  pub number : view.number ≡ loaded.number
  pub same_content : view.content ≡ content
  pub same_faults : view.faults ≡ faults

-- what was loaded is damaged: its first damage is at this key, by this rule
pub record IsDamaged (content : Option Kept) (key : Key) (rule : Rule) : Type 0 where
  pub loaded : Kept
  pub is_loaded : IsLoaded content loaded
  pub damage : first_damage loaded.rows ≡ Some (key, rule)
  pub in_words : IsFirstDamage loaded.rows key rule

-- why no shop is opened: what was loaded is damaged, or the keeper's count of faults rose
abbrev pub HasOpenCause : Option Kept → ℕ → ℕ → OpenFault → Type 0
HasOpenCause content before now (opening.Damaged key rule) = (now ≡ before) × IsDamaged content key rule
HasOpenCause content before now opening.StoreFault = (before ≤ now) × Rose before now
HasOpenCause content before now opening.NoMemory = now ≡ before

-- another fault than damage
abbrev pub IsNoDamage : OpenFault → Type 0
IsNoDamage (opening.Damaged key rule) = ⊥
IsNoDamage opening.StoreFault = Unit {0}
IsNoDamage opening.NoMemory = Unit {0}
