use Rattle.std.proofs.Common.{◌≡◌, true, List, Ok, sym, subst, ◌∙◌}
use Rattle.shop_defs.specs.declared.table.TheConstants.{REFERENCES}
use Rattle.shop_defs.specs.Joined.{Change}
use Rattle.shop_operations.specs.Deletes.{deleted}
use Rattle.shop_rows.specs.Changing.{HasAscendingKeys}
use Rattle.shop_write.specs.declared.place.Place.{Place}
use Rattle.shop_write.specs.Places.{stands_among}
use Rattle.shop_write.specs.Deleting.{rest_of, AreChangesOf, Reaches}
use Rattle.shop_write.proofs.Touching.{reaches}
use Rattle.shop_write.proofs.delete.changes_of.Goals as goal

pub returns : goal.returns
returns g c = λ key t.
    let view = g.V.View.seen c.args.view.now in
    let first = c.in_ok-put_changes.ensures in
    let second = c.in_ok-put_changes-2.ensures in
    subst (λ (changes : List Change). Reaches view (Ok (deleted REFERENCES view.rows key)) changes) (sym (c.from_vec.ensures ∙ c.into_vec.ensures.items))
    (reaches REFERENCES view key c.args.search.now c.requires t c.put_changes-2.new.changes.list
    (subst HasAscendingKeys c.into_vec.ensures.items c.into_vec.ensures.ascends)
    (second.put.of_rows (first.put.of_rows (subst (AreChangesOf (rest_of REFERENCES c.args.search.now.lost) view.rows) (sym c.new-changes.ensures) (λ change i. absurd i))))
    (λ row i h. second.put.keeps row i (first.covered row i (subst (λ (places : List Place). stands_among places row ≡ true) (sym c.as_slice.ensures.places) h)))
    (λ row i h. second.covered row i (subst (λ (places : List Place). stands_among places row ≡ true) (sym c.as_slice-2.ensures.places) h)))
