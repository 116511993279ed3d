use Rattle.std.proofs.Common.{ap, ◌∙◌}
use Rattle.std.specs.Prelude.{map, filter}
use Rattle.shop_defs.specs.declared.key.Key.{Key}
use Rattle.shop_write.specs.Seen.{is_child_of}
use Rattle.shop_write.proofs.FirstKeys.{map_ids}
use Rattle.shop_write.proofs.view.View.children_of.Goals as goal

pub returns : goal.returns
returns g c =
    c.in_ok-ids.ensures
    ∙ (ap (map (λ (key : Key). key.id)) (c.as_slice.ensures ∙ c.in_ok-keys.ensures)
    ∙ map_ids (filter (is_child_of c.args.entity c.args.parent) (g.Self.View.seen c.args.self.now).rows))
