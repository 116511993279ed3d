-- Which rule a read breaks, in words: the first, those before it being kept.
use Rattle.std.specs.Prelude.{ℕ, ◌≡◌, ◌≢◌, ◌⊎◌, List, Option, Some, None, IsSome}
use Rattle.shop_defs.specs.declared.broken.Broken.{Broken}
use Rattle.shop_defs.specs.declared.broken.Broken.TheVariants as B
use Rattle.shop_defs.specs.declared.row.Row.{Row}
use Rattle.shop_defs.specs.declared.table.EntityInfo.{EntityInfo}
use Rattle.shop_requests.specs.declared.query.RowRead.{RowRead}
use Rattle.shop_defs.specs.Rows.{row_at}
use Rattle.shop_defs.specs.Tables.{info_named}
use Rattle.shop_requests.specs.Operations.{wrong_second}
use Rattle.idx_copy.specs.declared.answer.AskFault.{AskFault}
use Rattle.idx_copy.specs.declared.answer.AskFault.TheVariants as asking
use Rattle.shop_core.specs.Requests.{asked_key, draft_key}

-- the key has its second part exactly where the entity's keys have two
abbrev pub HasForm : EntityInfo → RowRead → Type 0
HasForm info read = wrong_second info.key read.second ≡ None

-- the version is the live one, or there is a draft of it
abbrev pub IsKnown : List Row → ℕ → Type 0
IsKnown rows version = (version ≡ 0) ⊎ IsSome (row_at rows (draft_key version))

-- the version is another than the live one, and there is no draft of it
abbrev pub IsUnknown : List Row → ℕ → Type 0
IsUnknown rows version = (version ≢ 0) × (row_at rows (draft_key version) ≡ None)

-- the rule is broken, and none before it: no entity has the name; or one has it, and the key isn't of its form; or it is, and the
-- version is unknown; or it is known, and no row has the key
abbrev pub IsFirstBroken : List Row → RowRead → Option EntityInfo → Broken → Type 0
IsFirstBroken rows read None B.UnknownEntity = Unit {0}
IsFirstBroken rows read (Some info) (B.WrongKind name) = wrong_second info.key read.second ≡ Some name
IsFirstBroken rows read (Some info) (B.NoSuchVersion version) = HasForm info read × (version ≡ read.version) × IsUnknown rows version
IsFirstBroken rows read (Some info) (B.NoSuchRow key) = HasForm info read × IsKnown rows read.version × (key ≡ asked_key info.entity read) × (row_at rows key ≡ None)
IsFirstBroken rows read line broken = ⊥

-- a refusal names the first broken rule
abbrev pub NamesFirst : List Row → RowRead → AskFault → Type 0
NamesFirst rows read (asking.Refused broken) = IsFirstBroken rows read (info_named read.entity) broken
NamesFirst rows read asking.NoMemory = Unit {0}

abbrev pub IsUnbroken : List Row → RowRead → Option EntityInfo → Type 0
IsUnbroken rows read None = ⊥
IsUnbroken rows read (Some info) = HasForm info read × IsKnown rows read.version × IsSome (row_at rows (asked_key info.entity read))

-- the read breaks no rule
abbrev pub KeepsRules : List Row → RowRead → Type 0
KeepsRules rows read = IsUnbroken rows read (info_named read.entity)
