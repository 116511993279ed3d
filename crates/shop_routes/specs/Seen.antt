-- What the code has found, as the definitions speak of it.
use Rattle.matchit.specs.Params.{walk}
use Rattle.matchit.specs.declared.params.Params.{Params}
use Rattle.shop_routes.specs.declared.router.Found.{Found as FoundLine}
use Rattle.shop_routes.specs.PathParts.{Parts}
use Rattle.shop_routes.specs.Paths.{Found}

-- each name of the path with the part of the target that it stands for
abbrev pub parts_seen : Params → Parts
parts_seen p = walk p.pattern.now p.text.now p.path.now p.names.now 0 0

abbrev pub seen : FoundLine → Found
seen f = record { asked = f.asked; parts = parts_seen f.params }
