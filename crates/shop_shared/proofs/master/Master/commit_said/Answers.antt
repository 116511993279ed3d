use Rattle.std.proofs.Common.{◌≡◌, sym, ◌∙◌, ap, arith, ℕ, []}
use Rattle.atomic_table.specs.Table.{Me}
use Rattle.shop_core.specs.declared.answers.Entry.{Entry}
use Rattle.shop_shared.specs.declared.view.View.{View}
use Rattle.shop_shared.specs.declared.view.View.TheVariants.{Keeps}
use Rattle.shop_shared.specs.declared.view.MasterView.{MasterView}
use Rattle.shop_shared.specs.Views.{held_of, commit_to, committed, master_of}
use Rattle.shop_shared.specs.Passes.{entry_of}
use Rattle.shop_shared.proofs.Asks.{commit_as}
use Rattle.shop_shared.proofs.master.Master.commit_said.Goals as goal

pub fetch_add-requires : goal.fetch_add-requires
fetch_add-requires g c =
    let i = c.self.invariant in
    let b = c.args.board.now in
    let now = c.args.self.now in
    let me : c.self.inside.seat.me ≡ (Keeps now, []) = i.2 ∙ ap (λ (m : MasterView). (Keeps m, [])) c.self.view_is in
    let h = c.requires.held in
    let e : Entry = entry_of c.args.number c.args.command.now c.args.moment.now in
    (i.0 ∙ sym b.named, omega arith, rw c.requires.said (commit_as _ _ _ now (held_of now) e i.1 me h.0 h.1 c.requires.accepts c.requires.room.0 c.requires.room.1))

pub invariant_of-self : goal.invariant_of-self
invariant_of-self g c =
    let i = c.self.invariant in
    let now = c.args.self.now in
    let me : c.self.inside.seat.me ≡ (Keeps now, []) = i.2 ∙ ap (λ (m : MasterView). (Keeps m, [])) c.self.view_is in
    let e : Entry = entry_of c.args.number c.args.command.now c.args.moment.now in
    let s = c.fetch_add.ensures in
    let new : c.fetch_add.new.seat.me ≡ (Keeps (committed now e), []) = s.2 e c.requires.said ∙ ap (λ (x : Me ℕ View). (commit_to x.0 e, x.1)) me in
    (s.0 ∙ i.0, s.1 ∙ i.1, new ∙ ap (λ (m : MasterView). (Keeps m, [])) (sym (ap (λ (x : Me ℕ View). master_of x.0) new)))

pub returns : goal.returns
returns g c =
    let i = c.self.invariant in
    let now = c.args.self.now in
    let me : c.self.inside.seat.me ≡ (Keeps now, []) = i.2 ∙ ap (λ (m : MasterView). (Keeps m, [])) c.self.view_is in
    let e : Entry = entry_of c.args.number c.args.command.now c.args.moment.now in
    let s = c.fetch_add.ensures in
    ap (λ (x : Me ℕ View). master_of x.0) (s.2 e c.requires.said ∙ ap (λ (x : Me ℕ View). (commit_to x.0 e, x.1)) me)
