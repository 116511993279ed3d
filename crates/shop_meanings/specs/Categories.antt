-- Where a category stands among the others.
use Rattle.std.specs.Prelude.{ℕ, zero, suc, ◌+◌, List, [], ◌∷◌, ◌++◌, length, Option}
use Rattle.std.specs.Option.{option_map, option_map_or, option_and_then}
use Rattle.shop_defs.specs.declared.entity.Entity.TheVariants as E
use Rattle.shop_defs.specs.declared.row.Row.{Row}
use Rattle.shop_defs.specs.declared.table.TheConstants.{REFERENCES}
use Rattle.shop_operations.specs.Parents.{children, parent_id}
use Rattle.shop_operations.specs.References.{of_version}
use Rattle.shop_meanings.specs.declared.standing.Standing.{Standing}
use Rattle.shop_meanings.specs.Live.{live_row, live_rows}

-- the category that the live one with that id names as its parent
abbrev pub above : List Row → ℕ → Option ℕ
above rows id = option_and_then (parent_id REFERENCES) (live_row rows E.Category id)

-- a walk up by the parents, from where it ends down to the parent of where it begins: so many steps at most
abbrev pub walk : (ℕ → Option ℕ) → ℕ → ℕ → List ℕ
walk up zero id = []
walk up (suc more) id = option_map_or (λ parent. walk up more parent ++ parent ∷ []) (up id) []

-- the ids of the categories above one, from the root to its parent: a walk of as many steps as there are categories
abbrev pub path : List Row → ℕ → List ℕ
path rows id = walk (above rows) (length (live_rows rows E.Category)) id

-- the ids of the categories whose parent is that one
abbrev pub children_of : List Row → ℕ → List ℕ
children_of rows id = children REFERENCES (of_version 0 rows) E.Category id

-- what a path and children come to
abbrev pub standing_of : List ℕ → List ℕ → Standing
standing_of up kids = record { path = up; level = length up + 1; children = length kids }

-- where a category stands: none where there is no such live category
abbrev pub standing : List Row → ℕ → Option Standing
standing rows id = option_map (λ _. standing_of (path rows id) (children_of rows id)) (live_row rows E.Category id)
