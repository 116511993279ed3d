-- What is found of a draft and taken out with it, and what is put where one is made. No public contract cites this.
use Rattle.std.specs.Prelude.{◌≡◌, ℕ, ◌+◌, zero, suc, Bool, nat_lt, List, [], ◌∷◌, ◌++◌, filter, map, None, Result, Ok, Err}
use Rattle.std.specs.List.{AllByRecursion}
use Rattle.closure.specs.Closure.{IsIn}
use Rattle.shop_defs.specs.declared.delta.Delta.{Delta}
use Rattle.shop_defs.specs.declared.entity.Entity.{Entity}
use Rattle.shop_defs.specs.declared.key.Key.{Key}
use Rattle.shop_defs.specs.declared.refused.PlanFault.{PlanFault}
use Rattle.shop_defs.specs.declared.table.TheConstants.{MOST_ROWS}
use Rattle.shop_defs.specs.declared.row.Row.{Row}
use Rattle.shop_defs.specs.Joined.{Change}
use Rattle.shop_operations.specs.Operations.{unless}
use Rattle.shop_operations.specs.References.{is_entity}
use Rattle.shop_rows.specs.Lookups.{count_rows}
use Rattle.shop_drafts.specs.Aggregates.{is_member}
use Rattle.shop_drafts.specs.Drafts.{commit_key}
use Rattle.shop_drafts.specs.Making.{made, made_rows, making_breaks}
use Rattle.shop_drafts.specs.declared.aggregate.Member.{Member}
use Rattle.shop_drafts.specs.declared.aggregate.Root.{Root}
use Rattle.shop_drafts.specs.declared.aggregate.TheConstants.{MEMBERS}
use Rattle.shop_write.specs.Growth.{put_in}
use Rattle.shop_version.specs.Plans.{IsFaultOf}

-- the rows of each member, one after the other
abbrev pub parts : (Row → Member → Bool) → List Member → List Row → List Row
parts p [] rows = []
parts p (member ∷ members) rows = filter (λ row. p row member) rows ++ parts p members rows

-- the row is of the member's entity
abbrev pub of_member : Row → Member → Bool
of_member row member = is_entity member.entity row.key.entity

-- so many numbers, from that one on
abbrev pub numbers : ℕ → ℕ → List ℕ
numbers from zero = []
numbers from (suc count) = from ∷ numbers (suc from) count

-- the keys of the commits with these numbers
abbrev pub commit_keys : ℕ → List ℕ → List Key
commit_keys version all = map (commit_key version) all

-- the row at the key is taken out
abbrev pub take_out : Key → Change
take_out key = (key, None)

-- ---- making

-- it is a line of the table of what drafts edit
abbrev pub IsMember : Member → Type 0
IsMember member = IsIn member MEMBERS

abbrev pub AreMembers : List Member → Type 0
AreMembers members = AllByRecursion IsMember members

-- the rows that a draft of the root edits by the member
abbrev pub parts_of : Root → Member → List Row → List Row
parts_of root member rows = filter (λ row. is_member root row member) rows

-- with those that are made there would be more rows of the entity than there may be
unfoldable pub is_crowded : List Row → List Row → Entity → Bool
is_crowded rows made entity = nat_lt MOST_ROWS (count_rows rows entity + count_rows made entity)

-- the changes put what is made, and no rule is broken; or there are none for want of memory or for that rule
abbrev pub Makes : List Row → ℕ → Root → Result Delta PlanFault → Type 0
Makes rows version root (Ok delta) = (making_breaks rows version root ≡ None) × (delta.changes ≡ map put_in (made_rows rows version root))
Makes rows version root (Err fault) = IsFaultOf (unless (made rows version root) (making_breaks rows version root)) fault
