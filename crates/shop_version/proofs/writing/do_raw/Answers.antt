use Rattle.std.proofs.lemmas.Bool.{and_from}
use Rattle.shop_version.specs.Overlays.{layer_rows}
use Rattle.shop_version.proofs.DraftBatches.{formed_done}
use Rattle.shop_version.proofs.writing.do_raw.Goals as goal

pub returns-clause-formed : goal.returns-clause-formed
returns-clause-formed c = formed_done c.args.overlay.now c.in_ok-read.read (layer_rows c.operate.new.overlay) c.requires.formed (and_from _ _ (c.in_ok-read.ensures.key c.requires.id) c.in_ok-read.ensures.fits) c.in_ok-delta.ensures.done.rows
