-- Keys as texts.
use Rattle.std.specs.Prelude.{ℕ, ◌==◌, List, [], ◌++◌, codes, if◌then◌else◌}
use Rattle.shop_defs.specs.declared.key.Key.{Key}
use Rattle.shop_requests.specs.Ids.{id_text}
use Rattle.shop_defs.specs.Texts.{entity_text}

-- a number of a key behind a mark, where it isn't 0
abbrev pub marked : List ℕ → ℕ → List ℕ
marked mark number = if number == 0 then [] else mark ++ id_text number

-- a key: its entity and its id, then its second part and its version, where it has them
unfoldable pub key_text : Key → List ℕ
key_text key = entity_text key.entity ++ codes "/" ++ id_text key.id ++ marked (codes "/") key.second ++ marked (codes "@") key.version
