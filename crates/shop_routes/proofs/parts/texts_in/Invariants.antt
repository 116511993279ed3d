use Rattle.matchit.specs.Params.{AllText}
use Rattle.shop_routes.specs.Gathered.{AreFoundAmong}
use Rattle.shop_routes.specs.Seen.{parts_seen}
use Rattle.shop_routes.proofs.parts.texts_in.Given as goal

abbrev pub invariant-loop-name : goal.invariant-loop-name
invariant-loop-name l = AllText l.rest × AreFoundAmong l.texts l.rest (parts_seen l.params)
