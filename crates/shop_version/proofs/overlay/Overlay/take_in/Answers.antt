use Rattle.std.proofs.Common.{◌≡◌, ap, ◌∙◌}
use Rattle.shop_defs.specs.declared.delta.Delta.{Delta}
use Rattle.shop_defs.specs.Rows.{change_rows}
use Rattle.shop_version.proofs.OwnChanges.{seen_is, seen_next}
use Rattle.shop_version.proofs.overlay.Overlay.take_in.Goals as goal

own_is : (c : goal.After-apply) → c.apply.new.self.list ≡ change_rows c.self.inside.own.list c.args.delta.now.changes
own_is c =
    c.apply.ensures.list
    ∙ (ap (λ rows. change_rows rows c.in_ok-changes.changes.changes) c.in_ok-reserve.ensures.list
    ∙ ap (λ (delta : Delta). change_rows c.self.inside.own.list delta.changes) c.in_ok-changes.ensures)

pub invariant_of-self-2 : goal.invariant_of-self-2
invariant_of-self-2 c = seen_is _ c.self.invariant _ c.self.view_is c.args.delta.now.changes c.requires c.apply.new.self.list (own_is c)

pub returns-clause-rows : goal.returns-clause-rows
returns-clause-rows c = seen_next _ c.self.invariant _ c.self.view_is c.args.delta.now.changes c.requires c.apply.new.self.list (own_is c)
