use Rattle.std.proofs.Common.{sym, ◌∙◌, ap}
use Rattle.std.specs.Prelude.{is_some}
use Rattle.shop_write.proofs.PlaceLists.{is_some_find, is_some_copied}
use Rattle.shop_write.proofs.place.Places.has.Goals as goal

pub returns : goal.returns
returns c = rw (← c.self.view_is) (c.is_some.ensures ∙ (sym (is_some_copied c.get.result) ∙ (ap is_some c.get.ensures ∙ rw c.of.ensures (is_some_find c.self.inside.places.list c.args.row.now))))
