-- What holds of the meanings, in rows as a shop has them.
use Rattle.std.specs.Prelude.{◌≡◌, ℕ, ◌≤◌, ◌<◌, true, is_some, count_by, List, [], ◌∷◌, ◌++◌, length, Some, None}
use Rattle.std.specs.List.{list_all}
use Rattle.shop_defs.specs.declared.entity.Entity.TheVariants as E
use Rattle.shop_defs.specs.declared.row.Row.{Row}
use Rattle.shop_defs.specs.declared.table.TheConstants.{REFERENCES, MOST_ROWS}
use Rattle.shop_operations.specs.Parents.{parent_id}
use Rattle.shop_operations.specs.References.{is_id}
use Rattle.shop_meanings.specs.Live.{live_row, live_rows, AreOrderly}
use Rattle.shop_meanings.specs.Categories.{above, walk, path, children_of}

-- where the categories of such rows stand
pub record PathsGoUp (rows : List Row) : Type 0 where
  -- nothing stands above a root: its path is empty
  pub root : (id : ℕ) → above rows id ≡ None → path rows id ≡ []
  -- any other path is the parent's, with the parent at its end
  pub below : (id parent : ℕ) → above rows id ≡ Some parent → path rows id ≡ path rows parent ++ parent ∷ []
  -- it begins at a root
  pub from_root : (id first : ℕ) (rest : List ℕ) → path rows id ≡ first ∷ rest → above rows first ≡ None
  -- all that stand on it are live categories
  pub live : (id : ℕ) → list_all (λ up. is_some (live_row rows E.Category up)) (path rows id) ≡ true
  -- a category has 32 levels at most
  pub low : (id : ℕ) → length (path rows id) < 32
  -- a walk of 31 steps, or of more, comes as far
  pub enough : (n id : ℕ) → 31 ≤ n → walk (above rows) n id ≡ path rows id

abbrev pub PathsOfAllGoUp : Type 0
PathsOfAllGoUp = (rows : List Row) → AreOrderly rows → PathsGoUp rows

-- a category has as many children as live categories name it as their parent, and not more than there may be rows
pub record ChildrenAreCounted (rows : List Row) : Type 0 where
  pub count : (id : ℕ) → length (children_of rows id) ≡ count_by (λ row. is_id (parent_id REFERENCES row) id) (live_rows rows E.Category)
  pub few : AreOrderly rows → (id : ℕ) → length (children_of rows id) ≤ MOST_ROWS

abbrev pub ChildrenOfAllAreCounted : Type 0
ChildrenOfAllAreCounted = (rows : List Row) → ChildrenAreCounted rows
