-- What replies say of fronts, as JSON values.
use Rattle.std.specs.Prelude.{ℕ, [], ◌∷◌, codes}
use Rattle.serde_json.specs.Data.{Data, string}
use Rattle.reply_json.specs.Objects.{object_of, count_data}

-- how many entries are accepted, and how many of them the indexes have seen
abbrev pub front_data : ℕ → ℕ → Data
front_data accepted published = object_of ((codes "accepted", count_data accepted) ∷ (codes "published", count_data published) ∷ [])

-- an answer is asked for that has seen more entries than are accepted
abbrev pub front_unknown_data : ℕ → ℕ → Data
front_unknown_data asked have = object_of ((codes "error", string (codes "front_unknown")) ∷ (codes "asked", count_data asked) ∷ (codes "have", count_data have) ∷ [])
