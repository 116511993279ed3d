-- Rows that fit one another.
use Rattle.std.specs.Prelude.{◌≡◌, ◌≤◌, true, not}
use Rattle.std.specs.List.{list_any, list_all}
use Rattle.shop_defs.specs.declared.entity.Entity.{Entity}
use Rattle.shop_defs.specs.declared.table.TheConstants.{REFERENCES, LEVEL_LIMITS, OWNER_LIMITS, MOST_ROWS}
use Rattle.shop_defs.specs.Fitting.{row_key_fits}
use Rattle.shop_operations.specs.References.{are_grounded}
use Rattle.shop_operations.specs.Parents.{is_deep}
use Rattle.shop_operations.specs.Upserts.{is_of_tree, is_twin, owner_is_full, count_of}
use Rattle.shop_operations.specs.Views.{View, IsInPlaceOrder}

-- the rows of a view break none of the rules on how rows stand to one another
pub record IsCoherent (view : View) : Type 0 where
  pub in_order : IsInPlaceOrder view.rows
  -- each key is of its entity's form
  pub formed : list_all (λ row. row_key_fits row.key) view.rows ≡ true
  -- what a row names is there
  pub grounded : are_grounded REFERENCES view.rows ≡ true
  -- a node's parent is of the same tree
  pub of_one_tree : list_all (λ row. list_all (λ reference. is_of_tree reference view.rows row) REFERENCES) view.rows ≡ true
  -- no two rows have the same unique fields
  pub single : list_all (λ row. not (list_any (is_twin row) view.rows)) view.rows ≡ true
  -- no row stands lower than it may, or below itself
  pub shallow : list_all (λ row. not (is_deep REFERENCES LEVEL_LIMITS view.rows row)) view.rows ≡ true
  -- there aren't more rows of an entity than there may be
  pub bounded : (entity : Entity) → count_of view.hidden view.rows entity ≤ MOST_ROWS
  -- nor more rows of an owner
  pub few : list_all (λ row. not (list_any (owner_is_full view.rows row) OWNER_LIMITS)) view.rows ≡ true
