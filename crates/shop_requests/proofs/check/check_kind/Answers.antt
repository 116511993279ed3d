use Rattle.std.proofs.Common.{sym}
use Rattle.shop_requests.proofs.KeptFits.{kept_fits}
use Rattle.shop_requests.proofs.check.check_kind.Goals as goal

pub returns-in-None-clause-fits : goal.returns-in-None-clause-fits
returns-in-None-clause-fits c = rw c.keep.ensures (kept_fits c.args.kind c.args.value (sym c.in-None.ensures))
