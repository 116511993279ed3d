-- Carts that are alike in what the conditions look at get one answer.
use Rattle.std.proofs.Common.{◌≡◌, ℤ, false, List, Option, Some, None, refl, ap}
use Rattle.std.specs.Option.{option_map_or}
use Rattle.shop_defs.specs.declared.row.Row.{Row}
use Rattle.trees.specs.Nodes.{join_of}
use Rattle.trees.proofs.Leaves.{each, same_tree}
use Rattle.shop_rules.specs.declared.facts.CartFacts.{CartFacts}
use Rattle.shop_rules.specs.declared.leaf.Leaf.{Leaf}
use Rattle.shop_rules.specs.declared.leaf.Leaf.TheVariants as L
use Rattle.shop_rules.specs.Leaves.{leaf_of}
use Rattle.shop_rules.specs.Conditions.{is_within, is_between_days, is_text, is_one_of, is_named, is_met_as, is_met, conditions_hold, AreAlike, AreAlikeIfAny, AgreeOn}
use Rattle.shop_defs.specs.declared.entity.Entity.TheVariants as E
use Rattle.shop_defs.specs.declared.words.FieldName.TheVariants as N
use Rattle.row_fields.specs.Fields.{number_of, id_at}

module _ (facts : CartFacts) (moment : ℤ) (other : CartFacts) (later : ℤ) where
  met_alike : (leaf : Leaf) (node : Row) → AreAlike leaf facts moment other later → is_met_as leaf facts moment node ≡ is_met_as leaf other later node
  met_alike L.Amount node e = ap (is_within node) e
  met_alike L.Count node e = ap (is_within node) e
  met_alike L.Weight node e = ap (is_within node) e
  met_alike L.Weekday node e = ap (is_within node) e
  met_alike L.Day node e = ap (is_between_days node) e
  met_alike L.Group node e = ap (is_text node) e
  met_alike L.Country node e = ap (is_text node) e
  met_alike L.Product node e = ap (is_one_of (id_at node (number_of E.RuleCondition N.Product))) e
  met_alike L.Method node e = ap (is_named (id_at node (number_of E.RuleCondition N.Method))) e

  one_alike : (node : Row) → AreAlikeIfAny (leaf_of node) facts moment other later → is_met facts moment node ≡ is_met other later node
  one_alike node = by (leaf_of node)
    where
      by : (leaf : Option Leaf) → AreAlikeIfAny leaf facts moment other later → option_map_or (λ l. is_met_as l facts moment node) leaf false ≡ option_map_or (λ l. is_met_as l other later node) leaf false
      by None e = refl
      by (Some leaf) e = met_alike leaf node e

  pub hold_alike : (nodes : List Row) → AgreeOn nodes facts moment other later → conditions_hold nodes facts moment ≡ conditions_hold nodes other later
  hold_alike nodes agree =
      same_tree (is_met facts moment) (is_met other later) nodes
      (each (λ node. AreAlikeIfAny (leaf_of node) facts moment other later) (λ node. join_of node ≡ None → is_met facts moment node ≡ is_met other later node) (λ node e _. one_alike node e) nodes agree)
