-- What replies say of where a category stands, as JSON values.
use Rattle.std.specs.Prelude.{ℕ, List, [], ◌∷◌, map, codes}
use Rattle.serde_json.specs.Data.{Data, string, array, Items}
use Rattle.serde_json.specs.View.{items_of}
use Rattle.shop_defs.specs.declared.key.Key.{Key}
use Rattle.reply_json.specs.Objects.{object_of, count_data, id_data, key_data}

abbrev pub id_items : List ℕ → Items
id_items ids = items_of (map id_data ids)

-- the categories above one, its level and how many children it has, by the rows after so many entries
abbrev pub tree_data : ℕ → List ℕ → ℕ → ℕ → Data
tree_data front path level children =
    object_of ((codes "children", count_data children) ∷ (codes "front", count_data front) ∷ (codes "level", count_data level) ∷ (codes "path", array (id_items path)) ∷ [])

-- no row has the key that is asked for, by the rows after so many entries
abbrev pub missing_data : ℕ → Key → Data
missing_data front key = object_of ((codes "error", string (codes "no_such_row")) ∷ (codes "front", count_data front) ∷ (codes "key", key_data key) ∷ [])
