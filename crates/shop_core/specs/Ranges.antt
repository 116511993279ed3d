-- Commands whose parts are in the ranges of their types, as those of every command in memory are.
use Rattle.std.specs.Prelude.{◌≡◌, ◌<◌, ◌^◌, true}
use Rattle.std.specs.Int.{w64}
use Rattle.std.specs.Int.RustNames.{FitsSigned}
use Rattle.std.specs.List.{AllByRecursion}
use Rattle.std.specs.Str.{is_utf8}
use Rattle.shop_requests.specs.declared.command.Command.{Command}
use Rattle.shop_requests.specs.declared.command.Command.TheVariants as commands
use Rattle.shop_requests.specs.declared.raw.RawOp.{RawOp}
use Rattle.shop_requests.specs.declared.raw.Raw.{Raw}
use Rattle.shop_requests.specs.declared.raw.Raw.TheVariants as R

abbrev pub IsRaw : Raw → Type 0
IsRaw R.Null = Unit {0}
IsRaw (R.Flag flag) = Unit {0}
IsRaw (R.Int number) = FitsSigned w64 number
IsRaw (R.Big number) = number < 2 ^ 64
IsRaw (R.Text text) = is_utf8 text ≡ true
IsRaw R.Other = Unit {0}

-- an operation
pub record IsRawOp (op : RawOp) : Type 0 where
  pub id : op.id < 2 ^ 128
  pub second : op.second < 2 ^ 128
  pub fields : AllByRecursion (λ field. IsRaw field.1) op.fields

-- a command: of a batch, each of its operations
abbrev pub IsInRange : Command → Type 0
IsInRange (commands.Sync version ops) = AllByRecursion IsRawOp ops
IsInRange command = Unit {0}
