use Rattle.std.proofs.Common.{◌≡◌, ℕ, ℤ, w64, to_z, of_z, ◌+◌, ◌-◌, ◌≤◌, ◌<◌, sym, ◌∙◌, ap, subst, arith}
use Rattle.std.proofs.lemmas.Int.{to_z-of_z}
use Rattle.std.specs.Prelude.{MatchResult}
use Rattle.shop_core.specs.declared.answers.Entry.{Entry}
use Rattle.shop_core.specs.declared.answers.Done.{Done}
use Rattle.shop_core.specs.declared.answers.CommitFault.{CommitFault}
use Rattle.shop_shared.specs.declared.view.MasterView.{MasterView}
use Rattle.shop_shared.specs.declared.view.CallerView.{CallerView}
use Rattle.shop_shared.specs.Views.{holding, faulted, raised, committed, released}
use Rattle.shop_shared.specs.Passes.{Writes, entry_of}
use Rattle.shop_shared.specs.Locks.{AreTied}
use Rattle.shop_shared.proofs.Committing.{count_grows, rises}
use Rattle.shop_shared.proofs.Writing.{written_to, written_is, tied_write, told_write, told_cause, told_moves, write_room, write_accepts, write_rises}
use Rattle.shop_shared.proofs.locked.Locked.write.Goals as goal

pub fault-requires : goal.fault-requires
fault-requires g c =
    let s = c.self.inside.state in
    let s' = c.commit-reply.new.self in
    let count : c.self.inside.master.faults ≡ s.faults = c.self.invariant.faults in
    let held : c.hold.new.self.faults ≡ c.self.inside.master.faults = ap (λ (x : MasterView). x.faults) c.hold.ensures in
    let grows : s.faults ≤ s'.faults = count_grows s.faults s'.faults c.commit-reply.result c.commit-reply.ensures.commits.cause in
    omega arith

pub overflow_sub-after : goal.overflow_sub-after
overflow_sub-after g c =
    let s = c.self.inside.state in
    let s' = c.commit-reply.new.self in
    let up = rises s s' c.commit-reply.result c.front-before.ensures.shop c.commit-reply.ensures.commits.publishes in
    let above : s.copy.front ≤ s'.copy.front = up.above in
    let before : c.front-before.result ≡ s.copy.front = c.front-before.ensures.front in
    let after : c.front-after.result ≡ s'.copy.front = c.front-after.ensures.front in
    omega arith

pub publish-requires : goal.publish-requires
publish-requires g c =
    let s = c.self.inside.state in
    let s' = c.commit-reply.new.self in
    let held : c.fault.new.self ≡ faulted (holding c.self.inside.master c.args.pass) s'.faults = c.fault.ensures ∙ ap (λ (x : MasterView). faulted x s'.faults) c.hold.ensures in
    let both = write_rises c.self.inside.master c.fault.new.self s s' c.self.inside.shut c.args.pass c.commit-reply.result c.self.invariant c.front-before.ensures.shop c.commit-reply.ensures.commits.publishes held in
    let first = both.0 in
    let second = both.1 in
    let before : c.front-before.result ≡ s.copy.front = c.front-before.ensures.front in
    let after : c.front-after.result ≡ s'.copy.front = c.front-after.ensures.front in
    (omega arith, omega arith)

pub add_if-requires-clause-accepts : goal.add_if-requires-clause-accepts
add_if-requires-clause-accepts g c =
    let v : ℤ = to_z w64 (of_z w64 c.args.moment) in
    let m = c.self.inside.master in
    let s = c.self.inside.state in
    let s' = c.commit-reply.new.self in
    let held : c.fault.new.self ≡ faulted (holding m c.args.pass) s'.faults = c.fault.ensures ∙ ap (λ (x : MasterView). faulted x s'.faults) c.hold.ensures in
    let is = written_is m c.fault.new.self c.publish.new.self c.args.pass s s' c.front-before.result c.front-after.result held c.publish.ensures c.front-before.ensures.front c.front-after.ensures.front in
    let e : Entry = entry_of c.number-number.result c.args.command.now v in
    write_accepts m c.publish.new.self s s' c.self.inside.shut c.args.pass e c.commit-reply.result c.self.invariant c.commit-reply.ensures.commits.answer is

pub add_if-requires-clause-room : goal.add_if-requires-clause-room
add_if-requires-clause-room g c =
    let m = c.self.inside.master in
    let s = c.self.inside.state in
    let s' = c.commit-reply.new.self in
    let held : c.fault.new.self ≡ faulted (holding m c.args.pass) s'.faults = c.fault.ensures ∙ ap (λ (x : MasterView). faulted x s'.faults) c.hold.ensures in
    let is = written_is m c.fault.new.self c.publish.new.self c.args.pass s s' c.front-before.result c.front-after.result held c.publish.ensures c.front-before.ensures.front c.front-after.ensures.front in
    write_room m c.publish.new.self s s' c.self.inside.shut c.args.pass c.commit-reply.result c.self.invariant c.front-before.ensures.shop c.commit-reply.ensures.commits.publishes is

pub invariant_of-self : goal.invariant_of-self
invariant_of-self g c =
    let v : ℤ = to_z w64 (of_z w64 c.args.moment) in
    let m = c.self.inside.master in
    let s = c.self.inside.state in
    let s' = c.commit-reply.new.self in
    let m2 = c.add_if.new.self in
    let held : c.fault.new.self ≡ faulted (holding m c.args.pass) s'.faults = c.fault.ensures ∙ ap (λ (x : MasterView). faulted x s'.faults) c.hold.ensures in
    let one = written_is m c.fault.new.self c.publish.new.self c.args.pass s s' c.front-before.result c.front-after.result held c.publish.ensures c.front-before.ensures.front c.front-after.ensures.front in
    let e : Entry = entry_of c.number-number.result c.args.command.now v in
    let is = subst (λ (x : MasterView). MatchResult c.commit-reply.result (λ _. m2 ≡ committed x e) (λ _. m2 ≡ x)) one c.add_if.ensures in
    subst (λ (x : MasterView). AreTied x s' c.self.inside.shut) (sym c.give_back-pass.ensures.given.0)
    (tied_write m m2 s s' c.self.inside.shut c.args.pass e c.commit-reply.result c.self.invariant c.front-before.ensures.shop c.commit-reply.ensures.commits is)

pub returns-clause-writes : goal.returns-clause-writes
returns-clause-writes g c =
    let v : ℤ = to_z w64 (of_z w64 c.args.moment) in
    let m = c.self.inside.master in
    let s = c.self.inside.state in
    let s' = c.commit-reply.new.self in
    let m2 = c.add_if.new.self in
    let held : c.fault.new.self ≡ faulted (holding m c.args.pass) s'.faults = c.fault.ensures ∙ ap (λ (x : MasterView). faulted x s'.faults) c.hold.ensures in
    let one = written_is m c.fault.new.self c.publish.new.self c.args.pass s s' c.front-before.result c.front-after.result held c.publish.ensures c.front-before.ensures.front c.front-after.ensures.front in
    let is = subst (λ (x : MasterView). MatchResult c.commit-reply.result (λ _. m2 ≡ committed x (entry_of c.number-number.result c.args.command.now v)) (λ _. m2 ≡ x)) one c.add_if.ensures in
    subst (λ (x : ℤ). Writes c.args.pass c.give_back-pass.result c.args.command.now x c.commit-reply.result) (to_z-of_z w64 c.args.moment c.ranges.moment)
    (told_write m m2 s s' c.self.inside.shut c.args.pass c.give_back-pass.result c.number-number.result c.args.command.now v c.commit-reply.result c.number-number.ensures.number c.self.invariant c.commit-reply.ensures.commits is c.give_back-pass.ensures.given.1 c.give_back-pass.ensures.own)

pub returns-clause-cause : goal.returns-clause-cause
returns-clause-cause g c =
    let v : ℤ = to_z w64 (of_z w64 c.args.moment) in
    let m = c.self.inside.master in
    let s = c.self.inside.state in
    let s' = c.commit-reply.new.self in
    let m2 = c.add_if.new.self in
    let held : c.fault.new.self ≡ faulted (holding m c.args.pass) s'.faults = c.fault.ensures ∙ ap (λ (x : MasterView). faulted x s'.faults) c.hold.ensures in
    let one = written_is m c.fault.new.self c.publish.new.self c.args.pass s s' c.front-before.result c.front-after.result held c.publish.ensures c.front-before.ensures.front c.front-after.ensures.front in
    let e : Entry = entry_of c.number-number.result c.args.command.now v in
    let is = subst (λ (x : MasterView). MatchResult c.commit-reply.result (λ _. m2 ≡ committed x e) (λ _. m2 ≡ x)) one c.add_if.ensures in
    told_cause m m2 s s' c.self.inside.shut c.args.pass c.give_back-pass.result e c.commit-reply.result c.self.invariant c.commit-reply.ensures.commits.cause is c.give_back-pass.ensures.given.1

pub returns-clause-moves : goal.returns-clause-moves
returns-clause-moves g c =
    let v : ℤ = to_z w64 (of_z w64 c.args.moment) in
    let m = c.self.inside.master in
    let s = c.self.inside.state in
    let s' = c.commit-reply.new.self in
    let m2 = c.add_if.new.self in
    let held : c.fault.new.self ≡ faulted (holding m c.args.pass) s'.faults = c.fault.ensures ∙ ap (λ (x : MasterView). faulted x s'.faults) c.hold.ensures in
    let one = written_is m c.fault.new.self c.publish.new.self c.args.pass s s' c.front-before.result c.front-after.result held c.publish.ensures c.front-before.ensures.front c.front-after.ensures.front in
    let e : Entry = entry_of c.number-number.result c.args.command.now v in
    let is = subst (λ (x : MasterView). MatchResult c.commit-reply.result (λ _. m2 ≡ committed x e) (λ _. m2 ≡ x)) one c.add_if.ensures in
    told_moves m m2 s s' c.args.pass c.give_back-pass.result e c.commit-reply.result is c.give_back-pass.ensures.moves
