use Rattle.std.proofs.Common.{sym}
use Rattle.shop_defs.specs.Tables.{info_named}
use Rattle.shop_defs.specs.declared.table.TheConstants.{ENTITIES}
use Rattle.shop_defs.proofs.Found.{entity_in-named}
use Rattle.shop_defs.proofs.lookup.entity_named.Goals as goal

pub returns-in-Some-clause-named : goal.returns-in-Some-clause-named
unfolding info_named
returns-in-Some-clause-named c = entity_in-named ENTITIES c.args.name.now c.in-Some.info (sym c.in-Some.ensures)
