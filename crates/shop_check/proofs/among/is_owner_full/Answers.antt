use Rattle.shop_check.proofs.Owners.{none_full}
use Rattle.shop_check.proofs.among.is_owner_full.Goals as goal

pub returns-then-known_within : goal.returns-then-known_within
returns-then-known_within g c = none_full (g.O.Others.rows c.args.others.now) c.args.row.now c.requires.live c.requires.reference (c.requires.within c.if-known_within.true)
