use Rattle.std.proofs.Common.{ℕ, refl, ap, ◌∙◌}
use Rattle.std.specs.Prelude.{map, filter}
use Rattle.shop_defs.specs.declared.table.TheConstants.{REFERENCES}
use Rattle.shop_write.specs.Places.{key_at}
use Rattle.shop_write.specs.Deleting.{is_losing_at}
use Rattle.shop_write.proofs.Reaches.{keys_gone_is, keys_emptied_is}
use Rattle.shop_write.proofs.effects.reach_of_removal.Goals as goal

pub returns : goal.returns
returns g c =
    let view = g.V.View.seen c.args.view.now in
    let search = c.in_ok-search.search in
    record {
      left = refl;
      gone =
          c.gone.view_is ∙ (c.in_ok-gone.ensures ∙ (ap (λ (version : ℕ). map (key_at version) c.as_slice.result.now) c.version.ensures
          ∙ (ap (map (key_at view.version)) c.as_slice.ensures.places ∙ keys_gone_is REFERENCES view c.args.key.now search c.in_ok-search.ensures)));
      emptied =
          c.in_ok-keys_at.ensures ∙ (ap (λ (version : ℕ). map (key_at version) c.as_slice-3.result.now) c.version-2.ensures
          ∙ (ap (map (key_at view.version)) (c.as_slice-3.ensures.value ∙ (c.in_ok-losing.ensures ∙ ap (filter (is_losing_at REFERENCES view.rows view.version search.lost)) c.as_slice-2.ensures.places))
          ∙ keys_emptied_is REFERENCES view c.args.key.now search c.requires.order c.in_ok-search.ensures));
    }
