use Rattle.std.proofs.Common.{ℕ, rules, ◌∙◌, subst, List}
use Rattle.std.specs.Prelude.{length}
use Rattle.std.specs.List.Sorted.{IsSearchInRange, IsBinarySearchResult}
use Rattle.std.proofs.lemmas.List.Sorted.{answers_always}
use Rattle.shop_defs.specs.Entities.{entity_number}
use Rattle.shop_write.specs.declared.place.Place.{Place}
use Rattle.shop_write.specs.Places.{order_by_id}
use Rattle.shop_write.proofs.PlaceLists.{is_ok_searched}
use Rattle.shop_write.proofs.place.Places.has_id.Goals as goal

id_key : Place → ℕ × ℕ
id_key place = (entity_number place.entity, place.id)

pub returns : goal.returns
unfolding id_key
returns c =
    let facts = c.binary_search_by_key.ensures in
    rw (← c.self.view_is) (c.is_ok.ensures.value ∙ is_ok_searched c.self.inside.places.list c.args.entity c.args.id c.binary_search_by_key.result c.self.invariant
    (subst (λ (places : List Place). IsSearchInRange c.binary_search_by_key.result (length places)) c.as_slice.ensures facts.bound)
    (subst (λ (places : List Place). IsBinarySearchResult (order_by_id c.args.entity c.args.id) places c.binary_search_by_key.result) c.as_slice.ensures (rw c.number.ensures at (facts.position id_key (answers_always _ _ _ (λ f a r h called. search rules))))))
