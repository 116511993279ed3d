use Rattle.std.proofs.Common.{◌≡◌, ◌∷◌, length}
use Rattle.std.specs.Option.{option_to_list}
use Rattle.shop_chain.specs.Translations as spec
use Rattle.shop_chain.proofs.texts.translated.Given as goal

abbrev pub invariant-loop-rest : goal.invariant-loop-rest
invariant-loop-rest g l =
    let look = g.L.Look.shown l.rows in
    let ids = l.asked.id ∷ option_to_list l.asked.parent in
    spec.translated look l.asked.entity l.asked.version ids l.field l.rest ≡ spec.translated look l.asked.entity l.asked.version ids l.field l.languages

abbrev pub decreases-loop-rest : goal.decreases-loop-rest
decreases-loop-rest g l = length l.rest
