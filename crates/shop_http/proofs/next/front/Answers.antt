use Rattle.std.proofs.Common.{◌∙◌, ap, take, arith}
use Rattle.std.proofs.lemmas.List.{take_min}
use Rattle.shop_http.proofs.next.front.Goals as goal

pub returns : goal.returns
returns c = ap (λ n. take n c.args.bytes.now) (c.min.ensures ∙ omega arith) ∙ take_min 16384 c.args.bytes.now
