use Rattle.std.proofs.lemmas.Bool.{and_from}
use Rattle.shop_write.proofs.Ground.{coherent_takes}
use Rattle.shop_write.proofs.batch.do_raw.Goals as goal

pub operate-requires-clause-fits : goal.operate-requires-clause-fits
operate-requires-clause-fits c = and_from _ _ (c.in-Ok.ensures.key c.requires.id) c.in-Ok.ensures.fits

pub operate-requires-clause-takes : goal.operate-requires-clause-takes
operate-requires-clause-takes c = λ kind. coherent_takes _ c.in-Ok.read c.requires.coherent
