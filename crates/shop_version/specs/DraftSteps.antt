-- One operation of a batch in a draft. No public contract cites this.
use Rattle.std.specs.Prelude.{◌≡◌, ℕ, ◌==◌, ◌&&◌, ◌++◌, Bool, true, if◌then◌else◌, List, [], ◌∷◌, filter, Option, Some, None, Result, Ok, Err}
use Rattle.std.specs.List.{AllByRecursion}
use Rattle.std.specs.Option.{option_map_or}
use Rattle.shop_defs.specs.declared.broken.Broken.{Broken}
use Rattle.shop_defs.specs.declared.delta.Delta.{Delta}
use Rattle.shop_defs.specs.declared.key.Key.{Key}
use Rattle.shop_defs.specs.declared.op.Op.{Op}
use Rattle.shop_defs.specs.declared.refused.PlanFault.{PlanFault}
use Rattle.shop_defs.specs.declared.refused.PlanFault.TheVariants as F
use Rattle.shop_defs.specs.declared.row.Row.{Row}
use Rattle.shop_defs.specs.Joined.{Change, all_changes, joined}
use Rattle.shop_defs.specs.Rows.{change_rows}
use Rattle.shop_requests.specs.declared.raw.RawOp.{RawOp}
use Rattle.shop_requests.specs.Operations.{reading}
use Rattle.shop_operations.specs.Operations.{place}
use Rattle.shop_operations.specs.Upserts.{row_in}
use Rattle.shop_rows.specs.Changing.{StandUnderTheirKeys, HasAscendingKeys}
use Rattle.shop_drafts.specs.Aggregates.{is_part}
use Rattle.shop_drafts.specs.Drafts.{commit_key}
use Rattle.shop_drafts.specs.Writing.{not_versioned, unless_not_versioned, done_in, batch_in, no_draft, unknown_to, with_commits, new_commit}
use Rattle.shop_drafts.specs.declared.aggregate.Root.{Root}
use Rattle.shop_version.specs.Overlays.{Layer, layer_rows, layer_view}

-- the row at the key's place, if one is there, is part of what the draft edits
abbrev pub is_free_or_inside : Root → List Row → Key → Bool
is_free_or_inside root rows key = option_map_or (is_part root) (row_in rows key) true

-- the place of an upsert that would leave the row, unless it stays inside what the draft edits
abbrev pub upsert_outside : Layer → Op → Option Row → Option Key
upsert_outside layer op None = Some (place (layer_view layer) op)
upsert_outside layer op (Some row) = if is_free_or_inside layer.root (layer_rows layer) (place (layer_view layer) op) && is_part layer.root row then None else Some (place (layer_view layer) op)

-- the changes at keys of the version
abbrev pub own_changes : ℕ → List Change → List Change
own_changes version changes = filter (λ change. change.0.version == version) changes

-- each of the changes is at a key of the version
abbrev pub AreOwn : ℕ → List Change → Type 0
AreOwn version changes = AllByRecursion (λ change. change.0.version ≡ version) changes

-- an operation on what the draft shows, once it is read
abbrev pub doing : Layer → Op → Result (List Row) Broken
doing layer op = unless_not_versioned layer.root (layer_view layer) op (not_versioned op)

-- the fault is want of memory, or names the rule that the operation breaks
abbrev pub IsDoingFault : Layer → Op → PlanFault → Type 0
IsDoingFault layer op F.NoMemory = Unit {0}
IsDoingFault layer op (F.Refused refused) = doing layer op ≡ Err refused.broken

-- the same of an operation as a request gives it
abbrev pub IsRawFault : Layer → RawOp → PlanFault → Type 0
IsRawFault layer op F.NoMemory = Unit {0}
IsRawFault layer op (F.Refused refused) = done_in layer.root (layer_view layer) op ≡ Err refused.broken

-- and with its number
abbrev pub IsStepFault : Layer → ℕ → RawOp → PlanFault → Type 0
IsStepFault layer number op F.NoMemory = Unit {0}
IsStepFault layer number op (F.Refused refused) = (refused.op ≡ number) × (done_in layer.root (layer_view layer) op ≡ Err refused.broken)

-- the same of a batch
abbrev pub IsBatchFault : Layer → List RawOp → PlanFault → Type 0
IsBatchFault layer ops F.NoMemory = Unit {0}
IsBatchFault layer ops (F.Refused refused) = batch_in layer.root (layer_view layer) 1 ops ≡ Err refused

-- the fault is want of memory, or the refusal of a batch in a draft that isn't there
abbrev pub IsNoDraft : ℕ → List RawOp → PlanFault → Type 0
IsNoDraft version ops F.NoMemory = Unit {0}
IsNoDraft version ops (F.Refused refused) = refused ≡ no_draft version ops

-- the same of its first operation
abbrev pub IsUnknownTo : ℕ → RawOp → PlanFault → Type 0
IsUnknownTo version op F.NoMemory = Unit {0}
IsUnknownTo version op (F.Refused refused) = refused ≡ record { op = 1; broken = unknown_to version (reading op) }

-- an operation was done: what it leaves is what the draft shows now, by changes of the draft's own rows alone
pub record IsDone (before after : Layer) (op : Op) (delta : Delta) : Type 0 where
  pub rows : doing before op ≡ Ok (layer_rows after)
  pub layer : after ≡ record before { own = after.own }
  pub own : after.own ≡ change_rows before.own delta.changes
  pub are_own : AreOwn before.version delta.changes
  pub stand : StandUnderTheirKeys delta.changes

-- in each delta the rows stand under their keys
abbrev pub StandAll : List Delta → Type 0
StandAll deltas = AllByRecursion (λ delta. StandUnderTheirKeys delta.changes) deltas

-- operations were done, which changed the draft's own rows alone
pub record AreDone (before after : Layer) (deltas : List Delta) : Type 0 where
  pub layer : after ≡ record before { own = after.own }
  pub own : after.own ≡ change_rows before.own (all_changes deltas)
  pub are_own : AreOwn before.version (all_changes deltas)
  pub stand : StandAll deltas

-- the draft's row with that many commits, and the commit
abbrev pub commit_changes : ℕ → ℕ → Row → List Op → List Change
commit_changes version number draft ops = ((with_commits number draft).key, Some (with_commits number draft)) ∷ (commit_key version number, Some (new_commit version number ops)) ∷ []

-- the changes are those of the deltas and of the commit
pub record IsCommitted (version number : ℕ) (draft : Row) (ops : List Op) (deltas : List Delta) (changes : List Change) : Type 0 where
  pub commit : Delta
  pub is : commit.changes ≡ commit_changes version number draft ops
  pub all : changes ≡ joined (deltas ++ commit ∷ [])
  pub ascends : HasAscendingKeys changes
