use Rattle.std.proofs.Common.{◌≡◌, ◌<◌, ◌++◌, List, [], ◌∷◌, map, length, arith, append-nil, rules, sym, ◌∙◌}
use Rattle.cart_price.specs.declared.lent.LentLine.{LentLine}
use Rattle.cart_price.specs.declared.priced.Block.{Block}
use Rattle.cart_price.specs.Lent.{line_rows}
use Rattle.cart_process.specs.declared.line_price.LinePrice.{LinePrice}
use Rattle.cart_process.specs.Priced.{blocks_by}
use Rattle.cart_process.proofs.blocks.line_blocks.Goals as goal
use Rattle.cart_process.proofs.blocks.line_blocks.Goals.{in_default, in_default-2}

no_lines : (found whole : List Block) (at : List LentLine) (costs : List LinePrice) → length at < 1 → found ++ blocks_by (map line_rows at) costs ≡ whole → found ≡ whole
no_lines found whole [] costs none done = sym (append-nil found) ∙ done
no_lines found whole (line ∷ at) costs none done = absurd (omega arith)

no_prices : (found whole : List Block) (at : List LentLine) (costs : List LinePrice) → length costs < 1 → found ++ blocks_by (map line_rows at) costs ≡ whole → found ≡ whole
no_prices found whole [] [] none done = sym (append-nil found) ∙ done
no_prices found whole (line ∷ at) [] none done = sym (append-nil found) ∙ done
no_prices found whole at (price ∷ costs) none done = absurd (omega arith)

pub returns : goal.returns
returns c = elim c.if-at-lt1.branch [
  | in_default w ↦ no_lines c.loop-at.blocks _ c.loop-at.at.now c.loop-at.costs.now (omega arith) c.loop-at.invariant
  | in_default-2 w ↦ first_of (search (rules, no_prices), grind (arith, no_prices))
]
