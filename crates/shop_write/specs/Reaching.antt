-- What an operation reaches, whether or not it breaks a rule.
use Rattle.std.specs.Prelude.{◌≡◌, List, map, None}
use Rattle.shop_defs.specs.declared.key.Key.{Key}
use Rattle.shop_defs.specs.declared.op.Op.{Op}
use Rattle.shop_defs.specs.declared.table.Reference.{Reference}
use Rattle.shop_operations.specs.Deletes.{gone, losing}
use Rattle.shop_operations.specs.Operations.{row_left, shown_key, keys_gone, keys_emptied}
use Rattle.shop_operations.specs.Views.{View}
use Rattle.shop_write.specs.declared.effects.Reached.{Reached}

-- the row that an upsert would leave, and the keys of the rows that a delete takes out and that lose a field
pub record IsReach (view : View) (op : Op) (reach : Reached) : Type 0 where
  pub left : reach.left ≡ row_left view op op.kind
  pub gone : reach.gone ≡ keys_gone view op op.kind
  pub emptied : reach.emptied ≡ keys_emptied view op op.kind

-- the keys of the rows that a delete at the key takes out, and of those that lose a field
pub record IsRemoval (table : List Reference) (view : View) (key : Key) (reach : Reached) : Type 0 where
  pub left : reach.left ≡ None
  pub gone : reach.gone ≡ map (shown_key view) (gone table view.rows key)
  pub emptied : reach.emptied ≡ map (shown_key view) (losing table view.rows key)
