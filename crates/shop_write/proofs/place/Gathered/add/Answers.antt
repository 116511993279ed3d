use Rattle.shop_write.proofs.PlaceLists.{rise_inserted, is_added}
use Rattle.shop_write.proofs.place.Gathered.add.Goals.{in-Ok, in-Err}
use Rattle.shop_write.proofs.place.Gathered.add.Goals as goal

pub invariant_of-self : goal.invariant_of-self
invariant_of-self c = rise_inserted _ _ c.args.row.now c.insert.result c.self.invariant (rw c.of.ensures at c.insert.ensures.added) c.insert.ensures.unchanged (rw c.of.ensures at c.insert.ensures.keys) c.insert.ensures.err

pub returns : goal.returns
returns c = elim c.match-insert.branch [
  | in-Ok w ↦
      let added = rw (w.in-Ok.is, c.of.ensures) at c.insert.ensures.added in
      let same = rw w.in-Ok.is at c.insert.ensures.unchanged in
      let keys = rw (w.in-Ok.is, c.of.ensures) at c.insert.ensures.keys in
      rw (w.result-is, ← c.self.view_is) (is_added c.self.inside.places.keys _ c.args.row.now _ added same keys)
  | in-Err w ↦ rw w.result-is tt
]
