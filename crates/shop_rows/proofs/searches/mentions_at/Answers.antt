use Rattle.paged.specs.Paged.{all_pairs}
use Rattle.shop_rows.proofs.Fronts.{topic_front}
use Rattle.shop_rows.proofs.searches.mentions_at.Goals as goal

pub returns : goal.returns
returns c = rw (c.at.ensures, c.runs_from.ensures, c.lowest-low.ensures) (topic_front (all_pairs c.args.mentions.now) c.args.topic c.requires)
