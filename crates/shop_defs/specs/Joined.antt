-- Deltas made one.
use Rattle.std.specs.Prelude.{List, [], ◌∷◌, if◌then◌else◌, Option, Some, None}
use Rattle.std.specs.List.{fold, flat_map}
use Rattle.std.specs.Ordering.{is_eq}
use Rattle.shop_defs.specs.declared.key.Key.{Key}
use Rattle.shop_defs.specs.declared.row.Row.{Row}
use Rattle.shop_defs.specs.declared.delta.Delta.{Delta}
use Rattle.shop_defs.specs.Keys.{key_cmp}
use Rattle.keyed.specs.Keyed.{find, put}

-- a key, and the row that stands there from then on, if any
abbrev pub Change : Type 0
Change = Key × Option Row

-- the key of a change
abbrev pub change_key : Change → Key
change_key change = change.0

-- the change at a key
abbrev pub change_at : List Change → Key → Option Change
change_at changes key = find key_cmp change_key changes key

-- each change is put at its key, the later in place of the earlier
abbrev pub add_changes : List Change → List Change → List Change
add_changes all changes = fold (put key_cmp change_key) all changes

-- the changes of all deltas, each put at its key in turn
abbrev pub joined : List Delta → List Change
joined deltas = fold (λ all delta. add_changes all delta.changes) [] deltas

-- the changes of all deltas, one after the other
abbrev pub all_changes : List Delta → List Change
all_changes deltas = flat_map (λ delta. delta.changes) deltas

-- the later of two, where it is there
abbrev pub later_of : Option Change → Option Change → Option Change
later_of earlier None = earlier
later_of earlier (Some later) = Some later

-- the last of a list of changes that is at the key
abbrev pub last_in : List Change → Key → Option Change
last_in [] key = None
last_in (change ∷ rest) key = later_of (if is_eq (key_cmp change.0 key) then Some change else None) (last_in rest key)

-- the last change that any of the deltas makes at the key
abbrev pub last_change : List Delta → Key → Option Change
last_change deltas key = last_in (all_changes deltas) key
