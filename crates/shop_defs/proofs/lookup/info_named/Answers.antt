use Rattle.shop_defs.specs.Tables.{info_named}
use Rattle.shop_defs.proofs.lookup.info_named.Goals as goal

pub returns : goal.returns
unfolding info_named
returns c = c.entity_in.ensures
