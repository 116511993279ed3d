use Rattle.product_meanings.proofs.Prices.{prices_of_all}
use Rattle.product_meanings.proofs.laws.law_of_the_prices.Goals as goal

pub returns : goal.returns
returns c = prices_of_all
