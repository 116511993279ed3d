use Rattle.paged.specs.Paged.{all_pairs}
use Rattle.shop_rows.proofs.Fronts.{entity_of_front}
use Rattle.shop_rows.proofs.searches.rows_of.Goals as goal

pub returns : goal.returns
returns c = rw (c.at.ensures, c.runs_from.ensures) (entity_of_front (all_pairs c.args.pages.now.rows) c.args.entity c.args.version c.requires.stand c.requires.mentioned.order)
