use Rattle.std.proofs.Common.{◌∙◌}
use Rattle.shop_write.proofs.PlaceLists.{rise_replaced, replaced_is}
use Rattle.shop_write.proofs.place.Gathered.put.Goals.{in-Ok, in-Err}
use Rattle.shop_write.proofs.place.Gathered.put.Goals as goal

pub invariant_of-self : goal.invariant_of-self
invariant_of-self c = rise_replaced _ _ _ c.replace.result c.self.invariant c.replace.ensures.keys c.replace.ensures.err

pub returns : goal.returns
returns c = elim c.match-replace.branch [
  | in-Ok w ↦
      let keys = rw w.in-Ok.is at c.replace.ensures.keys in
      rw (w.result-is, ← c.self.view_is) (keys ∙ replaced_is c.self.inside.places.keys c.args.place)
  | in-Err w ↦ rw w.result-is tt
]
