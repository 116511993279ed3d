use Rattle.paged.specs.Paged.{all_pairs}
use Rattle.shop_rows.proofs.Fronts.{live_id_front}
use Rattle.shop_rows.proofs.searches.live_rows_of.Goals as goal

pub returns : goal.returns
returns c = rw (c.at.ensures, c.runs_from.ensures) (live_id_front (all_pairs c.args.pages.now.rows) c.args.entity c.args.id c.requires.stand c.requires.mentioned.order)
