-- A row that is written to the rows of a view, and what that asks of them.
use Rattle.std.specs.Prelude.{◌≡◌, ℕ, Bool, true, false, not, List, Option, Some, None, find}
use Rattle.std.specs.List.{list_all}
use Rattle.std.specs.Option.{option_map}
use Rattle.shop_defs.specs.declared.entity.Entity.{Entity}
use Rattle.shop_defs.specs.declared.key.Key.{Key}
use Rattle.shop_defs.specs.declared.op.Op.{Op}
use Rattle.shop_defs.specs.declared.row.Row.{Row}
use Rattle.shop_defs.specs.declared.table.EntityInfo.{EntityInfo}
use Rattle.shop_defs.specs.declared.table.KeyForm.{KeyForm}
use Rattle.shop_defs.specs.declared.table.KeyForm.TheVariants.{OnePart, TwoParts}
use Rattle.shop_defs.specs.declared.table.Reference.{Reference}
use Rattle.shop_defs.specs.declared.table.TheConstants.{REFERENCES, LEVEL_LIMITS}
use Rattle.shop_defs.specs.Fitting.{row_key_fits}
use Rattle.shop_defs.specs.Tables.{info_of}
use Rattle.shop_operations.specs.References.{is_entity}
use Rattle.shop_operations.specs.Parents.{is_deep}
use Rattle.shop_operations.specs.Upserts.{gives_parent}
use Rattle.shop_operations.specs.Views.{View, IsInPlaceOrder}

-- none of the rows stands lower than it may
abbrev pub are_shallow : List Row → Bool
are_shallow rows = list_all (λ row. not (is_deep REFERENCES LEVEL_LIMITS rows row)) rows

-- what an upsert asks of a view: keys are of their entities' forms; and where it gives a parent to a live row, no live row stands
-- lower than it may. Of the rows that a draft shows nothing more is asked, since live rows move on under the draft's own
pub record TakesUpsert (view : View) (op : Op) : Type 0 where
  pub formed : list_all (λ row. row_key_fits row.key) view.rows ≡ true
  pub shallow : gives_parent op ≡ true → view.version ≡ 0 → are_shallow view.rows ≡ true

-- the view's rows stand in order, and their keys and that of the row that is written are of their entities' forms
pub record IsWrite (view : View) (row : Row) : Type 0 where
  pub in_order : IsInPlaceOrder view.rows
  pub keys_fit : list_all (λ row. row_key_fits row.key) view.rows ≡ true
  pub formed : row_key_fits row.key ≡ true

abbrev pub is_one_part : KeyForm → Bool
is_one_part OnePart = true
is_one_part TwoParts = false

abbrev pub line_has_one_part : Option EntityInfo → Bool
line_has_one_part (Some info) = is_one_part info.key
line_has_one_part None = false

-- the keys of the entity's rows have one part
unfoldable pub has_one_part : Entity → Bool
has_one_part entity = line_has_one_part (info_of entity)

-- what the references name has keys of one part
abbrev pub name_one_part : List Reference → Bool
name_one_part table = list_all (λ reference. has_one_part reference.of) table

-- the key of an entity's row with that id, where keys have one part
abbrev pub id_key : Entity → ℕ → Key
id_key entity id = record { entity = entity; version = 0; id = id; second = 0 }

-- the greatest level that rows of the entity may have
unfoldable pub limit_of : Entity → Option ℕ
limit_of entity = option_map (λ limit. limit.most) (find (λ limit. is_entity limit.entity entity) LEVEL_LIMITS)
