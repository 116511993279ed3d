-- Which categories a change of rows touches. No public contract cites this.
use Rattle.std.specs.Prelude.{ℕ, zero, suc, Bool, true, false, ◌==◌, ◌&&◌, ◌||◌, not, List, [], ◌∷◌, ◌++◌, Option, None, Some, if◌then◌else◌}
use Rattle.std.specs.List.{flat_map}
use Rattle.std.specs.Option.{option_map_or, option_and_then}
use Rattle.shop_defs.specs.declared.entity.Entity.TheVariants as E
use Rattle.shop_defs.specs.declared.key.Key.{Key}
use Rattle.shop_defs.specs.declared.row.Row.{Row}
use Rattle.shop_defs.specs.declared.table.TheConstants.{REFERENCES}
use Rattle.shop_defs.specs.Joined.{Change}
use Rattle.shop_defs.specs.Rows.{row_at}
use Rattle.shop_operations.specs.Parents.{parent_id}
use Rattle.shop_operations.specs.References.{is_entity}
use Rattle.renewed.specs.Showing.{has_key}

-- the key is one of a live category
abbrev pub is_category : Key → Bool
is_category key = (key.version == 0) && is_entity E.Category key.entity

-- the same id, or none in both
abbrev pub same_id : Option ℕ → Option ℕ → Bool
same_id None None = true
same_id (Some a) (Some b) = a == b
same_id a b = false

-- both rows are there with the same parent, or neither is there
abbrev pub same_parent : Option Row → Option Row → Bool
same_parent None None = true
same_parent (Some a) (Some b) = same_id (parent_id REFERENCES a) (parent_id REFERENCES b)
same_parent a b = false

-- at the key a category came, went or got another parent
abbrev pub is_moved : List Row → List Row → Key → Bool
is_moved before after key = is_category key && not (same_parent (row_at before key) (row_at after key))

abbrev pub parent_ids : Option Row → List ℕ
parent_ids row = option_map_or (λ id. id ∷ []) (option_and_then (parent_id REFERENCES) row) []

-- the ids of the categories that came, went or got another parent
abbrev pub moved : List Row → List Row → List Change → List ℕ
moved before after changes = flat_map (λ change. if is_moved before after change.0 then change.0.id ∷ [] else []) changes

-- the ids of their parents, before and after
abbrev pub near : List Row → List Row → List Change → List ℕ
near before after changes = flat_map (λ change. if is_moved before after change.0 then parent_ids (row_at before change.0) ++ parent_ids (row_at after change.0) else []) changes

-- the ids and those below them, so many levels down
abbrev pub layers : (ℕ → List ℕ) → ℕ → List ℕ → List ℕ
layers kids zero level = level
layers kids (suc more) level = level ++ layers kids more (flat_map kids level)

-- one of the ids is met on the way up from this one, itself the first, in at most so many steps
abbrev pub meets : (ℕ → Option ℕ) → List ℕ → ℕ → ℕ → Bool
meets up ids zero id = has_key ids id
meets up ids (suc more) id = has_key ids id || option_map_or (meets up ids more) (up id) false
