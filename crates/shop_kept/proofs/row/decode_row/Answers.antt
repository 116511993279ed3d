use Rattle.std.proofs.Common.{arith}
use Rattle.shop_kept.proofs.Rows.{is_found, is_read, is_exact}
use Rattle.shop_kept.proofs.row.decode_row.Goals as goal

pub returns-clause-found : goal.returns-clause-found
returns-clause-found c = is_found c.args.key.now c.args.bytes.now c.read_row.result (λ i. omega (arith, c.type_inv.bytes i)) c.read_row.ensures.parts c.read_row.ensures.key

pub returns-clause-only : goal.returns-clause-only
returns-clause-only c = is_read c.args.key.now c.args.bytes.now c.read_row.result c.read_row.ensures.parts c.read_row.ensures.key

pub returns-clause-exact : goal.returns-clause-exact
returns-clause-exact c = is_exact c.args.key.now c.args.bytes.now c.read_row.result c.read_row.ensures.parts c.read_row.ensures.key
