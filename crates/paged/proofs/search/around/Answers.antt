use Rattle.std.proofs.Common.{◌+◌, sym, ◌∙◌, add-one}
use Rattle.std.proofs.lemmas.List.{take_rest}
use Rattle.paged.proofs.Places.{front_at, front_gap, back_at, back_gap}
use Rattle.paged.proofs.search.around.Goals as goal

pub returns-in-Ok-clause-front : goal.returns-in-Ok-clause-front
returns-in-Ok-clause-front g c = sym (front_at g.K.Ord.cmp _ _ _ c.in-Ok.ensures.found)

pub returns-in-Ok-clause-back : goal.returns-in-Ok-clause-back
returns-in-Ok-clause-back g c = take_rest c.args.pairs.now (c.in-Ok.at + 1) ∙ rw (add-one c.in-Ok.at) (sym (back_at g.K.Ord.cmp c.args.pairs.now c.args.key.now c.in-Ok.at c.in-Ok.ensures.found))

pub returns-in-Err-clause-front : goal.returns-in-Err-clause-front
returns-in-Err-clause-front g c = sym (front_gap g.K.Ord.cmp _ _ _ c.in-Err.ensures.absent)

pub returns-in-Err-clause-back : goal.returns-in-Err-clause-back
returns-in-Err-clause-back g c = take_rest c.args.pairs.now c.in-Err.at ∙ sym (back_gap g.K.Ord.cmp c.args.pairs.now c.args.key.now c.in-Err.at c.in-Err.ensures.absent)
