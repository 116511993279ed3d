use Rattle.shop_http.proofs.HeadReading.{heads_are_read}
use Rattle.shop_http.proofs.next.law_of_the_heads.Goals as goal

pub returns : goal.returns
returns c = heads_are_read
