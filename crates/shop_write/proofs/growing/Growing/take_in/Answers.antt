use Rattle.std.proofs.Common.{◌≡◌, ap, ◌∙◌}
use Rattle.shop_defs.specs.Rows.{change_rows}
use Rattle.shop_operations.specs.Views.{change_places}
use Rattle.shop_write.specs.Growth.{Growth, grown, losses}
use Rattle.shop_write.proofs.Taking.{next_is, grown-next}
use Rattle.shop_write.proofs.growing.Growing.take_in.Goals as goal

-- what is lost afterwards
lost_is : (c : goal.After-apply-2) → c.apply.new.self.list ≡ change_rows c.self.inside.lost.list (losses c.self.inside.base.now.list c.args.delta.changes)
lost_is c =
    c.apply.ensures.list
    ∙ (ap (λ rows. change_rows rows c.in_ok-lost.lost.changes) c.in_ok-reserve.ensures.list
    ∙ ap (change_rows c.self.inside.lost.list) (c.in_ok-lost.ensures ∙ ap (losses c.self.inside.base.now.list) c.as_slice.ensures))

-- what is put afterwards
over_is : (c : goal.After-apply-2) → c.apply-2.new.self.list ≡ change_rows c.self.inside.over.list c.args.delta.changes
over_is c = c.apply-2.ensures.list ∙ ap (λ rows. change_rows rows c.args.delta.changes) c.in_ok-reserve-2.ensures.list

pub invariant_of-self-2 : goal.invariant_of-self-2
invariant_of-self-2 c = rw (lost_is c, over_is c) (next_is _ c.self.invariant c.args.delta.changes c.requires.ascend c.requires.stand c.requires.live)

pub returns-clause-rows : goal.returns-clause-rows
returns-clause-rows c =
    let base = c.self.inside.base.now.list in
    ap (λ lost. grown (record { base = base; lost = lost; over = c.apply-2.new.self.list })) (lost_is c)
    ∙ (ap (λ over. grown (record { base = base; lost = change_rows c.self.inside.lost.list (losses base c.args.delta.changes); over = over })) (over_is c)
    ∙ (grown-next _ c.self.invariant c.args.delta.changes c.requires.ascend c.requires.stand c.requires.live
    ∙ ap (λ (growth : Growth). change_places (grown growth) c.args.delta.changes) c.self.view_is))
