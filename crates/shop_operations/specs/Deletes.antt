-- What a delete takes out, and what it leaves.
use Rattle.std.specs.Prelude.{ℕ, Bool, false, ◌==◌, ◌&&◌, not, List, map, filter, find, Option}
use Rattle.std.specs.List.{list_any}
use Rattle.closure.specs.Closure.{reached}
use Rattle.shop_defs.specs.declared.key.Key.{Key}
use Rattle.shop_defs.specs.declared.row.Row.{Row}
use Rattle.shop_defs.specs.declared.table.Reference.{Reference}
use Rattle.shop_defs.specs.declared.table.Part.{Part}
use Rattle.shop_defs.specs.declared.table.Part.TheVariants as P
use Rattle.shop_operations.specs.References.{is_entity, ties, sets_null, falls_with, holds_back}

-- the row stands at the key's place: its version doesn't count
abbrev pub stands_at : Key → Row → Bool
stands_at key row = is_entity key.entity row.key.entity && (key.id == row.key.id) && (key.second == row.key.second)

-- the row goes with a delete at the key: it stands there, or it falls with a row that goes
abbrev pub goes : List Reference → List Row → Key → Row → Bool
goes table rows key row = reached (falls_with table) rows (stands_at key) row

-- the rows that go
abbrev pub gone : List Reference → List Row → Key → List Row
gone table rows key = filter (goes table rows key) rows

-- the rows that stay
abbrev pub kept : List Reference → List Row → Key → List Row
kept table rows key = filter (λ row. not (goes table rows key row)) rows

-- the first row that stays and holds back one that goes
abbrev pub in_use : List Reference → List Row → Key → Option Row
in_use table rows key = find (λ row. list_any (holds_back table row) (gone table rows key)) (kept table rows key)

abbrev pub is_field : Part → ℕ → Bool
is_field (P.Field at) number = at == number
is_field part number = false

-- the row's field names one of the lost rows, and is emptied then
unfoldable pub is_emptied : List Reference → List Row → Row → ℕ → Bool
is_emptied table lost row number = list_any (λ reference. sets_null reference.on_delete && is_field reference.part number && list_any (ties reference row) lost) table

-- the row without the fields that name lost rows and are emptied then
abbrev pub emptied : List Reference → List Row → Row → Row
emptied table lost row = record row { fields = filter (λ entry. not (is_emptied table lost row entry.0)) row.fields }

-- the rows after a delete
abbrev pub deleted : List Reference → List Row → Key → List Row
deleted table rows key = map (emptied table (gone table rows key)) (kept table rows key)

-- the row loses a field with a delete at the key
abbrev pub loses_field : List Reference → List Row → Key → Row → Bool
loses_field table rows key row = list_any (λ entry. is_emptied table (gone table rows key) row entry.0) row.fields

-- the rows that stay and lose a field, as they were
abbrev pub losing : List Reference → List Row → Key → List Row
losing table rows key = filter (loses_field table rows key) (kept table rows key)
