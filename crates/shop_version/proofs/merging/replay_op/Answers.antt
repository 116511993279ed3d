use Rattle.shop_drafts.proofs.HeldOps.{change_fits}
use Rattle.shop_write.proofs.Ground.{coherent_takes}
use Rattle.shop_version.proofs.merging.replay_op.Goals as goal

pub operate-requires-clause-fits : goal.operate-requires-clause-fits
operate-requires-clause-fits c = change_fits c.args.op.now c.requires.change

pub operate-requires-clause-takes : goal.operate-requires-clause-takes
operate-requires-clause-takes c = λ kind. coherent_takes _ c.args.op.now c.requires.coherent
