use Rattle.std.proofs.Common.{◌≡◌, sym, ◌∙◌, ap, [], arith}
use Rattle.atomic_table.specs.Table.{Me}
use Rattle.shop_shared.specs.declared.view.MasterView.{MasterView}
use Rattle.shop_shared.specs.declared.view.Start.{Start}
use Rattle.shop_shared.specs.declared.view.View.{View}
use Rattle.shop_shared.specs.Views.{fresh_master, with_door, master_of}
use Rattle.shop_shared.specs.Passes.{FreshTable}
use Rattle.shop_shared.proofs.Writing.{tied_first}
use Rattle.shop_shared.proofs.shop.share_shop.Goals as goal

pub invariant_of-new : goal.invariant_of-new
invariant_of-new g c =
    let f = c.fresh.inside in
    let start : (master_of f.master.me.0).start ≡ c.args.fresh.start = ap (λ (x : FreshTable). x.start) c.fresh.view_is in
    let faults : (master_of f.master.me.0).faults ≡ c.args.state.faults = ap (λ (x : FreshTable). x.faults) c.fresh.view_is ∙ c.requires.begins.faults in
    let is = c.open_door-door.ensures.0
    ∙ (ap (λ (x : Me _ View). with_door (master_of x.0)) c.fresh.invariant.3 ∙ λ i. with_door (fresh_master (start i) (faults i))) in
    tied_first c.open_door-door.new.self c.args.state c.args.fresh.start c.front-front.ensures.shop is c.requires.begins.rows c.requires.begins.number c.requires.none_pending
