-- What a command changes, as rows and as the bytes that are kept of them.
use Rattle.std.specs.Prelude.{ℤ, ◌≡◌, List, map, Result, Ok, Err}
use Rattle.std.specs.Option.{option_map, IfSome}
use Rattle.std.specs.Int.{w64}
use Rattle.std.specs.Int.RustNames.{FitsSigned}
use Rattle.std.specs.List.{AllByRecursion}
use Rattle.shop_requests.specs.declared.command.Command.{Command}
use Rattle.shop_defs.specs.declared.delta.Delta.{Delta}
use Rattle.shop_defs.specs.declared.refused.PlanFault.{PlanFault}
use Rattle.shop_defs.specs.declared.refused.PlanFault.TheVariants as planning
use Rattle.shop_defs.specs.declared.row.Row.{Row}
use Rattle.shop_defs.specs.Joined.{Change}
use Rattle.shop_defs.specs.Rows.{change_rows}
use Rattle.shop_kept.specs.Spelling.{kept_row, FitsRow, IsKeptRow}
use Rattle.shop_outside.specs.Keeping.{BodyChanges}
use Rattle.shop_rows.specs.Changing.{HasAscendingKeys, StandUnderTheirKeys}
use Rattle.shop_core.specs.Steps.{effect, accepted, refused}

-- changes of rows, as changes of the bytes that are kept of them
abbrev pub encoded : List Change → BodyChanges
encoded changes = map (λ change. (change.0, option_map kept_row change.1)) changes

-- the counts and lengths of the kept format can tell each row of the changes
abbrev pub FitTheFormat : List Change → Type 0
FitTheFormat changes = AllByRecursion (λ change. IfSome change.1 FitsRow) changes

-- each row of the changes is one that its bytes give back
abbrev pub AreKeptRows : List Change → Type 0
AreKeptRows changes = AllByRecursion (λ change. IfSome change.1 IsKeptRow) changes

-- the keys of the changes ascend, and each row fits its key and the kept format
pub record AreFit (changes : List Change) : Type 0 where
  pub order : HasAscendingKeys changes
  pub keys : StandUnderTheirKeys changes
  pub kept : FitTheFormat changes

-- Changes and a value that are the command's effect on these rows, or its refusal.
abbrev pub Plans : List Row → Command → ℤ → Result (Delta × ℤ) PlanFault → Type 0
Plans rows command moment (Ok plan) =
    (effect rows command moment ≡ accepted (change_rows rows plan.0.changes) plan.1) × AreFit plan.0.changes × FitsSigned w64 plan.1
Plans rows command moment (Err (planning.Refused rule)) = effect rows command moment ≡ refused rule
Plans rows command moment (Err planning.NoMemory) = Unit {0}
