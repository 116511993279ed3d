-- How the positions of the lines are summed up, one line after the other.
use Rattle.std.specs.Prelude.{List, if◌then◌else◌}
use Rattle.std.specs.List.{fold}
use Rattle.cart_price.specs.declared.priced.TaxState.{TaxState}
use Rattle.cart_sums.specs.declared.sums.RateSum.{RateSum}
use Rattle.cart_sums.specs.Sums.{add_at}
use Rattle.cart_process.specs.declared.line_price.LinePrice.{LinePrice}
use Rattle.cart_process.specs.LinePrices.{has_price}
use Rattle.cart_process.specs.Priced.{line_total}

abbrev pub with_line : TaxState → List RateSum → LinePrice → List RateSum
with_line state sums price = if has_price price.cause then add_at state sums price.rate (line_total price) else sums

abbrev pub line_sums : TaxState → List RateSum → List LinePrice → List RateSum
line_sums state sums prices = fold (with_line state) sums prices
