-- What holds of operations that are read.
use Rattle.std.specs.Prelude.{◌≢◌, ◌≤◌, ℕ, List, map}
use Rattle.std.specs.List.{AllByRecursion}
use Rattle.std.specs.List.Sorted.{IsStrictlySortedBy}
use Rattle.std.specs.Cmp.Lexicographic.{slice_cmp}
use Rattle.std.specs.Ordering.{nat_cmp}
use Rattle.shop_requests.specs.declared.raw.RawOp.{RawOp}
use Rattle.shop_requests.specs.Operations.{Given}

-- a batch has 1 to 1,000 operations
abbrev pub IsCount : ℕ → Type 0
IsCount count = (1 ≤ count) × (count ≤ 1000)

-- the names ascend by their bytes, so no two are the same
abbrev pub NamesAscend : List Given → Type 0
NamesAscend fields = IsStrictlySortedBy (slice_cmp nat_cmp) (map (λ field. field.0) fields)

-- an operation has an id, and its fields ascend by name
pub record IsWellFormed (op : RawOp) : Type 0 where
  pub id : op.id ≢ 0
  pub names : NamesAscend op.fields

-- each operation has an id
abbrev pub HaveIds : List RawOp → Type 0
HaveIds ops = AllByRecursion (λ op. op.id ≢ 0) ops

-- the fields of each operation ascend by name
abbrev pub HaveAscendingNames : List RawOp → Type 0
HaveAscendingNames ops = AllByRecursion (λ op. NamesAscend op.fields) ops
