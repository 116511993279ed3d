use Rattle.std.proofs.Common.{◌≡◌, ◌+◌, ◌-◌, arith, sym, ◌∙◌}
use Rattle.std.proofs.lemmas.List.{take_rest}
use Rattle.paged.proofs.runs.first_parts.Goals as goal

pub returns : goal.returns
returns g c =
    let n = c.count_up_to-count.result - 1 in
    let is : c.count_up_to-count.result ≡ n + 1 = omega (arith, c.if-count-eq0.false) in
    take_rest c.args.entries.now n ∙ sym (c.count_up_to-count.ensures.from n is)
