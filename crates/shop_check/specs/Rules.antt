-- The names of the rules on what is kept.
use Rattle.std.specs.Prelude.{ℕ, List, codes}
use Rattle.shop_check.specs.declared.fault.Rule.{Rule}
use Rattle.shop_check.specs.declared.fault.Rule.TheVariants as R

-- the name of a rule
abbrev pub rule_text : Rule → List ℕ
rule_text R.Order = codes "order"
rule_text R.Encoding = codes "encoding"
rule_text R.Kind = codes "kind"
rule_text R.Required = codes "required"
rule_text R.Reference = codes "reference"
rule_text R.Duplicate = codes "duplicate"
rule_text R.Parent = codes "parent"
rule_text R.Limit = codes "limit"
