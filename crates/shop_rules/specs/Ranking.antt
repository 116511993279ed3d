-- Which rules hold of a cart, and in which order they count.
use Rattle.std.specs.Prelude.{◌≡◌, ℕ, ℤ, pos, Bool, List, [], ◌∷◌, map, filter, unwrap_or}
use Rattle.std.specs.declared.cmp.Ordering.{Ordering}
use Rattle.std.specs.Ordering.{int_cmp, nat_cmp, is_eq, ordering_then}
use Rattle.std.specs.List.{list_any}
use Rattle.keyed.specs.Keyed.{Ascends, put}
use Rattle.shop_defs.specs.declared.entity.Entity.TheVariants as E
use Rattle.shop_defs.specs.declared.row.Row.{Row}
use Rattle.shop_defs.specs.declared.words.FieldName.TheVariants as N
use Rattle.shop_operations.specs.References.{is_entity, live}
use Rattle.row_fields.specs.Fields.{number_of, int_at}
use Rattle.shop_rules.specs.declared.facts.CartFacts.{CartFacts}
use Rattle.shop_rules.specs.declared.ranked.Ranked.{Ranked}
use Rattle.shop_rules.specs.Conditions.{conditions, conditions_hold}

-- a rule: its id, its priority and its conditions
abbrev pub Rule : Type 0
Rule = ℕ × ℤ × List Row

-- the order in which rules count: a higher priority first, and of equal ones the lower id
abbrev pub rank_cmp : Ranked → Ranked → Ordering
rank_cmp a b = ordering_then (int_cmp b.priority a.priority) (nat_cmp a.id b.id)

abbrev pub its : Ranked → Ranked
its rule = rule

abbrev pub ranked_of : Rule → Ranked
ranked_of rule = record { priority = rule.1; id = rule.0 }

-- rules in the order in which they count, each once
abbrev pub in_rank : List Ranked → List Ranked
in_rank [] = []
in_rank (rule ∷ rules) = put rank_cmp its (in_rank rules) rule

-- the rules that hold, with what they rank by
abbrev pub holding : List Rule → CartFacts → ℤ → List Ranked
holding rules facts moment = map ranked_of (filter (λ rule. conditions_hold rule.2 facts moment) rules)

-- the ids of the rules that hold, in the order in which they count
abbrev pub matched : List Rule → CartFacts → ℤ → List ℕ
matched rules facts moment = map (λ rule. rule.id) (in_rank (holding rules facts moment))

-- ---- the rules of a shop

-- a rule by its row: its id, its priority and its conditions
abbrev pub rule_in : List Row → Row → Rule
rule_in rows row = (row.key.id, unwrap_or (int_at row (number_of E.Rule N.Priority)) (pos 0), conditions rows row.key.id)

-- all live rules, in the order of their keys
abbrev pub rules : List Row → List Rule
rules rows = map (rule_in rows) (filter (λ row. is_entity row.key.entity E.Rule) (live rows))

-- the ids of the rules of these rows that hold, in the order in which they count
abbrev pub matched_in : List Row → CartFacts → ℤ → List ℕ
matched_in rows facts moment = matched (rules rows) facts moment

-- ---- the same in words

-- the rule is among these
abbrev pub is_among : List Ranked → Ranked → Bool
is_among rules rule = list_any (λ other. is_eq (rank_cmp other rule)) rules

-- The ids are those of rules in the order in which they count, each before those after it and so each once; and a rule is among them exactly where it holds.
pub record AreRanked (rules : List Rule) (facts : CartFacts) (moment : ℤ) (ids : List ℕ) : Type 0 where
  pub ranked : List Ranked
  pub are : ids ≡ map (λ rule. rule.id) ranked
  pub order : Ascends rank_cmp its ranked
  pub hold : (rule : Ranked) → is_among ranked rule ≡ is_among (holding rules facts moment) rule
