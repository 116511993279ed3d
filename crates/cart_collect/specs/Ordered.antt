-- What holds of the rows that a cart's prices are made of, in words.
use Rattle.std.specs.Prelude.{ℕ, ◌↔◌, List, map}
use Rattle.keyed.specs.Keyed.{Ascends}
use Rattle.closure.specs.Closure.{IsIn}
use Rattle.shop_defs.specs.declared.entity.Entity.TheVariants as E
use Rattle.shop_defs.specs.declared.row.Row.{Row}
use Rattle.shop_defs.specs.declared.words.FieldName.TheVariants as N
use Rattle.cart_price.specs.Lent.{CartRows}
use Rattle.cart_collect.specs.declared.ranks.Rank.{Rank}
use Rattle.cart_collect.specs.Finding.{live_of, naming}
use Rattle.cart_collect.specs.Ranks.{rank_cmp, line_rank, promotion_rank}

-- the rows stand in the order of their ranks, each before all that follow, and they are just those rows
pub record StandByRank (rank : Row → Rank) (some rows : List Row) : Type 0 where
  pub order : Ascends rank_cmp rank rows
  pub are : (row : Row) → IsIn row rows ↔ IsIn row some

-- the lines are those of the cart, by position and then by id, and the promotions all live ones, by priority from the highest on and then by id
pub record AreInOrder (rows : List Row) (lent : CartRows) : Type 0 where
  pub lines : StandByRank line_rank (naming rows E.CartLine N.Cart lent.cart.key.id) (map (λ line. line.line) lent.lines)
  pub promotions : StandByRank promotion_rank (live_of rows E.Promotion) (map (λ promotion. promotion.promotion) lent.promotions)
