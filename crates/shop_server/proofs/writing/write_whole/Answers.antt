use Rattle.std.proofs.Common.{arith, rules, ◌∙◌, take}
use Rattle.std.proofs.KnownBytes.{Appends-kept}
use Rattle.shop_server.proofs.Lines.{wrote_more, first_part}
use Rattle.shop_server.proofs.writing.write_whole.Goals as goal

pub loop-done-preserved : goal.loop-done-preserved
loop-done-preserved g c = record {
  within = omega (arith, c.in_ok-done.ensures.takes.within, c.loop-done.invariant.within);
  wrote = wrote_more _ _ _ c.args.bytes.now c.loop-done.done c.in_ok-done.field-0 c.loop-done.invariant.wrote c.in_ok-done.ensures.bytes;
  kept = c.in_ok-done.ensures.cause.kept ∙ c.loop-done.invariant.kept;
  beside = c.write.ensures.beside ∙ c.loop-done.invariant.beside;
}

pub returns-in_err-done-clause-wrote : goal.returns-in_err-done-clause-wrote
returns-in_err-done-clause-wrote g c =
    (take c.loop-done.done c.args.bytes.now, first_part c.args.bytes.now c.loop-done.done, Appends-kept _ _ _ _ c.loop-done.invariant.wrote c.in_err-done.ensures.bytes, search rules)
