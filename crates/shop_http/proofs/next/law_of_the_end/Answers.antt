use Rattle.shop_http.proofs.Least.{end_is_least}
use Rattle.shop_http.proofs.next.law_of_the_end.Goals as goal

pub returns : goal.returns
returns c = end_is_least
