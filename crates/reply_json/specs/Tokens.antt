-- The tokens that a JSON value is printed as; for private clauses.
use Rattle.std.specs.Prelude.{ℕ, List, ◌∷◌}
use Rattle.json.specs.Token.{Token, key}
use Rattle.json.specs.Tree as tree
use Rattle.serde_json.specs.Data.{Data, Items, Members}
use Rattle.serde_json.specs.Written.{outline, items_outline, members_outline}

abbrev pub value_tokens : Data → List Token
value_tokens value = tree.json_tokens (outline value)

-- a member: its name and its value
abbrev pub member_tokens : List ℕ → Data → List Token
member_tokens name value = key name ∷ value_tokens value

-- with the closing bracket
abbrev pub rest_of_array : Items → List Token
rest_of_array items = tree.items_tokens (items_outline items)

abbrev pub rest_of_object : Members → List Token
rest_of_object members = tree.members_tokens (members_outline members)
