use Rattle.std.proofs.Common.{◌∙◌}
use Rattle.paged.specs.Paged.{all_pairs}
use Rattle.shop_rows.proofs.InPages.{row_in_pairs}
use Rattle.shop_rows.proofs.pages.Pages.get.Goals as goal

pub returns : goal.returns
returns c = c.get.ensures ∙ row_in_pairs (all_pairs c.args.self.now.rows) c.args.key.now c.requires.stand
