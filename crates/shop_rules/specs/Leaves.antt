-- What a leaf looks at, by the word of its kind.
use Rattle.std.specs.Prelude.{ℕ, List, [], ◌∷◌, Option, codes, option_and_then}
use Rattle.std.specs.List.{find}
use Rattle.std.specs.Str.{bytes_eq}
use Rattle.shop_defs.specs.declared.entity.Entity.TheVariants as E
use Rattle.shop_defs.specs.declared.row.Row.{Row}
use Rattle.shop_defs.specs.declared.words.FieldName.TheVariants as N
use Rattle.row_fields.specs.Fields.{number_of, text_at}
use Rattle.shop_rules.specs.declared.leaf.Leaf.{Leaf}
use Rattle.shop_rules.specs.declared.leaf.Leaf.TheVariants as L

-- the word of a leaf
abbrev pub leaf_text : Leaf → List ℕ
leaf_text L.Amount = codes "amount"
leaf_text L.Count = codes "count"
leaf_text L.Weight = codes "weight"
leaf_text L.Weekday = codes "weekday"
leaf_text L.Day = codes "day"
leaf_text L.Group = codes "group"
leaf_text L.Country = codes "country"
leaf_text L.Product = codes "product"
leaf_text L.Method = codes "method"

-- all that a leaf may look at
abbrev pub leaves : List Leaf
leaves = L.Amount ∷ L.Count ∷ L.Weight ∷ L.Weekday ∷ L.Day ∷ L.Group ∷ L.Country ∷ L.Product ∷ L.Method ∷ []

-- the leaf of the list with that word
abbrev pub leaf_in : List Leaf → List ℕ → Option Leaf
leaf_in table text = find (λ leaf. bytes_eq (leaf_text leaf) text) table

-- the leaf with that word
unfoldable pub leaf_named : List ℕ → Option Leaf
leaf_named text = leaf_in leaves text

-- what a condition looks at: nothing where its word is no leaf's
abbrev pub leaf_of : Row → Option Leaf
leaf_of node = option_and_then leaf_named (text_at node (number_of E.RuleCondition N.Kind))
