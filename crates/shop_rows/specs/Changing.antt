-- What a list of changes leaves under a key.
use Rattle.std.specs.Prelude.{◌≡◌, List, Option, Some, None}
use Rattle.std.specs.List.{AllByRecursion}
use Rattle.shop_defs.specs.declared.row.Row.{Row}
use Rattle.shop_defs.specs.Keys.{key_cmp}
use Rattle.shop_defs.specs.Joined.{Change, change_key}
use Rattle.keyed.specs.Keyed.{Ascends}

-- the row after a change: the change's row or none, and without a change the row before
abbrev pub row_after : Option Change → Option Row → Option Row
row_after None before = before
row_after (Some change) before = change.1

-- a change that puts a row names the row's own key
abbrev pub StandsUnderItsKey : Change → Type 0
StandsUnderItsKey (key, None) = Unit {0}
StandsUnderItsKey (key, Some row) = row.key ≡ key

-- and so each of them
abbrev pub StandUnderTheirKeys : List Change → Type 0
StandUnderTheirKeys changes = AllByRecursion StandsUnderItsKey changes

-- the keys of the changes ascend, so each key stands once
abbrev pub HasAscendingKeys : List Change → Type 0
HasAscendingKeys changes = Ascends key_cmp change_key changes
