use Rattle.std.proofs.Common.{drop}
use Rattle.shop_http.specs.Heads.{head_cut}
use Rattle.shop_http.specs.Words.{front_from}
use Rattle.shop_http.proofs.Cutting.{cut_fault, judged_more, next_same, settles_same, size_fits}
use Rattle.shop_http.proofs.next.with_head.Goals as goal

pub with_body-requires-clause-size : goal.with_body-requires-clause-size
with_body-requires-clause-size c = size_fits c.args.bytes.now c.args.end c.in-Ok.begun c.in-Ok.ensures

pub returns-in-Ok-clause-next : goal.returns-in-Ok-clause-next
returns-in-Ok-clause-next c =
    next_same head_cut (λ bs. front_from c.in-Ok.begun c.args.end (drop c.args.end bs)) c.args.bytes.now c.args.ended c.with_body.result
    (judged_more c.args.bytes.now c.args.end c.in-Ok.begun c.requires.ends c.requires.fits c.in-Ok.ensures) c.with_body.ensures.next

pub returns-in-Ok-clause-settles : goal.returns-in-Ok-clause-settles
returns-in-Ok-clause-settles c = λ least is.
    settles_same c.args.bytes.now c.args.end c.in-Ok.begun least c.requires.ends c.requires.fits c.in-Ok.ensures (c.with_body.ensures.settles least is)

pub returns-in-Err-clause-next : goal.returns-in-Err-clause-next
returns-in-Err-clause-next c = cut_fault c.args.bytes.now c.args.end c.in-Err.fault c.requires.ends c.requires.fits c.in-Err.ensures
