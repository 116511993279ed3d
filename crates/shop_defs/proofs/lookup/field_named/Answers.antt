use Rattle.std.proofs.Common.{sym}
use Rattle.shop_defs.specs.Tables.{fields_of}
use Rattle.shop_defs.proofs.Found.{number_in-of_name_in}
use Rattle.shop_defs.proofs.lookup.field_named.Goals as goal

pub returns-in-Some-clause-known : goal.returns-in-Some-clause-known
returns-in-Some-clause-known c = number_in-of_name_in (fields_of c.args.entity) c.args.name.now c.in-Some.field (sym c.in-Some.ensures)
