-- When the conditions of a rule hold of a cart at a moment.
use Rattle.std.specs.Prelude.{◌≡◌, ℕ, ℤ, Bool, false, ◌==◌, ◌&&◌, List, filter, Option, Some, None}
use Rattle.std.specs.List.{AllByRecursion, list_any}
use Rattle.std.specs.Option.{option_map_or}
use Rattle.shop_defs.specs.declared.entity.Entity.TheVariants as E
use Rattle.shop_defs.specs.declared.row.Row.{Row}
use Rattle.shop_defs.specs.declared.words.FieldName.TheVariants as N
use Rattle.shop_operations.specs.References.{is_entity, is_id, live}
use Rattle.row_fields.specs.Fields.{number_of, int_at, id_at, is_text_at, lies}
use Rattle.trees.specs.Holding.{tree_holds}
use Rattle.shop_rules.specs.declared.facts.CartFacts.{CartFacts}
use Rattle.shop_rules.specs.declared.leaf.Leaf.{Leaf}
use Rattle.shop_rules.specs.declared.leaf.Leaf.TheVariants as L
use Rattle.shop_rules.specs.Days.{day_at, weekday_at}
use Rattle.shop_rules.specs.Leaves.{leaf_of}

-- an id is given, and is that one: by the table it isn't 0, which stands for none
abbrev pub is_named : Option ℕ → ℕ → Bool
is_named id other = option_map_or (λ id. id == other) id false

-- an id is given, and is one of these
abbrev pub is_one_of : Option ℕ → List ℕ → Bool
is_one_of id ids = option_map_or (λ id. list_any (λ other. other == id) ids) id false

-- the number lies between the condition's bounds
abbrev pub is_within : Row → ℤ → Bool
is_within node number = lies (int_at node (number_of E.RuleCondition N.Low)) (int_at node (number_of E.RuleCondition N.High)) number

-- the day lies between the condition's days
abbrev pub is_between_days : Row → ℤ → Bool
is_between_days node day = lies (int_at node (number_of E.RuleCondition N.FromDay)) (int_at node (number_of E.RuleCondition N.ToDay)) day

-- the condition's text is given, and is that one: by the table it isn't empty, so a cart without a group is of none
abbrev pub is_text : Row → List ℕ → Bool
is_text node text = is_text_at node (number_of E.RuleCondition N.Text) text

-- a condition that looks at that is met
abbrev pub is_met_as : Leaf → CartFacts → ℤ → Row → Bool
is_met_as L.Amount facts moment node = is_within node facts.goods
is_met_as L.Count facts moment node = is_within node facts.count
is_met_as L.Weight facts moment node = is_within node facts.weight
is_met_as L.Weekday facts moment node = is_within node (weekday_at moment)
is_met_as L.Day facts moment node = is_between_days node (day_at moment)
is_met_as L.Group facts moment node = is_text node facts.group
is_met_as L.Country facts moment node = is_text node facts.country
is_met_as L.Product facts moment node = is_one_of (id_at node (number_of E.RuleCondition N.Product)) facts.products
is_met_as L.Method facts moment node = is_named (id_at node (number_of E.RuleCondition N.Method)) facts.method

-- a condition is met by what it looks at: not where it looks at nothing
abbrev pub is_met : CartFacts → ℤ → Row → Bool
is_met facts moment node = option_map_or (λ leaf. is_met_as leaf facts moment node) (leaf_of node) false

-- the conditions hold
abbrev pub conditions_hold : List Row → CartFacts → ℤ → Bool
conditions_hold nodes facts moment = tree_holds (is_met facts moment) nodes

-- the conditions of a rule: the live rows of conditions that name it
abbrev pub conditions : List Row → ℕ → List Row
conditions rows rule = filter (λ row. is_entity row.key.entity E.RuleCondition && is_id (id_at row (number_of E.RuleCondition N.Rule)) rule) (live rows)

-- ---- what a tree looks at

-- two carts, each at its moment, are alike in what such a leaf looks at
abbrev pub AreAlike : Leaf → CartFacts → ℤ → CartFacts → ℤ → Type 0
AreAlike L.Amount facts moment other later = facts.goods ≡ other.goods
AreAlike L.Count facts moment other later = facts.count ≡ other.count
AreAlike L.Weight facts moment other later = facts.weight ≡ other.weight
AreAlike L.Weekday facts moment other later = weekday_at moment ≡ weekday_at later
AreAlike L.Day facts moment other later = day_at moment ≡ day_at later
AreAlike L.Group facts moment other later = facts.group ≡ other.group
AreAlike L.Country facts moment other later = facts.country ≡ other.country
AreAlike L.Product facts moment other later = facts.products ≡ other.products
AreAlike L.Method facts moment other later = facts.method ≡ other.method

abbrev pub AreAlikeIfAny : Option Leaf → CartFacts → ℤ → CartFacts → ℤ → Type 0
AreAlikeIfAny None facts moment other later = Unit {0}
AreAlikeIfAny (Some leaf) facts moment other later = AreAlike leaf facts moment other later

-- and so in all that the conditions look at
abbrev pub AgreeOn : List Row → CartFacts → ℤ → CartFacts → ℤ → Type 0
AgreeOn nodes facts moment other later = AllByRecursion (λ node. AreAlikeIfAny (leaf_of node) facts moment other later) nodes
