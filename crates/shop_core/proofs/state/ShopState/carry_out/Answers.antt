use Rattle.std.proofs.Common.{◌≡◌, ℕ, ◌+◌, ◌++◌, ◌∷◌, [], ap, sym, ℤ, subst, refl, ◌∙◌, Ok, Err, is_some, to_z, of_z, w64, List, arith}
use Rattle.std.proofs.lemmas.Int.{to_z-of_z}
use Rattle.keyed.specs.Keyed.{Ascends}
use Rattle.shop_defs.specs.declared.row.Row.{Row}
use Rattle.shop_defs.specs.Keys.{key_cmp}
use Rattle.shop_defs.specs.Rows.{change_rows}
use Rattle.shop_outside.specs.Keeping.{kept_key}
use Rattle.shop_rows.specs.Changing.{StandUnderTheirKeys}
use Rattle.shop_check.specs.Soundness.{AreSound}
use Rattle.shop_core.specs.Plans.{encoded, AreKeptRows}
use Rattle.shop_core.specs.declared.answers.CommitFault.TheVariants as faults
use Rattle.shop_core.specs.Steps.{accepted, refused, IsAccepted, effect, step, history_full}
use Rattle.shop_core.specs.History.{State}
use Rattle.shop_core.specs.Shops.{ShopView, HoldsKept}
use Rattle.shop_core.specs.Commits.{CarriesOut}
use Rattle.shop_core.proofs.Bodies.{encoded_ascends, holds_next, still_told}
use Rattle.shop_core.proofs.Planning.{changed_spelled}
use Rattle.shop_core.proofs.Publishes.{grown_shop, push_front, push_sound}
use Rattle.shop_core.proofs.Sound.{effect_is_sound}
use Rattle.shop_core.proofs.Stepping.{effect_at, refused_at, step_accepts, step_is_full, step_refuses}
use Rattle.shop_core.proofs.state.ShopState.carry_out.Goals as goal

pub returns-then-self-ge-MOST_ENTRIES-clause-carries :
    goal.returns-then-self-ge-MOST_ENTRIES-clause-carries
returns-then-self-ge-MOST_ENTRIES-clause-carries g c =
    let plan = c.in-Ok.plan in
    let done = effect_at c.self.inside.rows.list (change_rows c.self.inside.rows.list c.in-Ok.plan.0.changes) c.args.command.now c.args.moment c.in-Ok.plan.1 c.ranges.moment c.in-Ok.ensures.0 in
    let full = step_is_full c.self.inside.rows.list (change_rows c.self.inside.rows.list plan.0.changes) c.self.inside.number c.args.command.now c.args.moment plan.1 c.if-self-ge-MOST_ENTRIES.true done in
    subst (λ (v : ShopView). CarriesOut v c.args.command.now c.args.moment (Err (faults.Refused history_full)) v) c.self.view_is (record { answer = (full, refl); cause = refl; content = refl; told = refl; adds = record { copy = refl; pending = refl } })

pub apply-requires-clause-keys : goal.apply-requires-clause-keys
apply-requires-clause-keys g c =
    let sent : c.as_slice-2.result.now ≡ encoded c.in-Ok.plan.0.changes = c.as_slice-2.ensures ∙ c.in_ok-bytes.ensures.bytes ∙ ap encoded c.as_slice.ensures in
    subst (Ascends key_cmp kept_key) (sym sent) (encoded_ascends c.in-Ok.plan.0.changes c.in-Ok.ensures.1.order)

pub invariant_of-self-in-Ok-apply : goal.invariant_of-self-in-Ok-apply
invariant_of-self-in-Ok-apply g c =
    let rows = c.self.inside.rows.list in
    let number = c.self.inside.number in
    let changes = c.in-Ok.plan.0.changes in
    let done = effect_at rows (change_rows rows changes) c.args.command.now c.args.moment c.in-Ok.plan.1 c.ranges.moment c.in-Ok.ensures.0 in
    let sent : c.as_slice-2.result.now ≡ encoded changes = c.as_slice-2.ensures ∙ c.in_ok-bytes.ensures.bytes ∙ ap encoded c.as_slice.ensures in
    let next : c.apply-in-Ok-apply.new.self.list ≡ change_rows rows changes = c.apply-in-Ok-apply.ensures.list ∙ ap (λ (l : List Row). change_rows l changes) c.make_ready.ensures.list in
    let applied = rw sent at c.in-Ok-apply.ensures.ok in
    let kept : AreKeptRows changes = rw c.as_slice.ensures at c.in_ok-bytes.ensures.kept in
    let view : ShopView = record { rows = rows; number = number; content = g.P.Keeper.content c.self.inside.keeper; faults = g.P.Keeper.keep_faults c.self.inside.keeper; copy = c.self.inside.queue.copy; pending = c.self.inside.queue.pending } in
    let pushed = c.push.ensures.pending ∙ (λ i. c.make_ready.ensures.queue.pending i ++ c.in_ok-shared.ensures.delta i ∷ []) in
    grown_shop view c.apply-in-Ok-apply.new.self.list (g.P.Keeper.content c.apply.new.self) (g.P.Keeper.keep_faults c.apply.new.self) c.push.new.self.copy c.push.new.self.pending changes c.self.invariant
    next (c.push.ensures.copy ∙ c.make_ready.ensures.queue.copy) pushed c.in-Ok.ensures.1.keys
    (effect_is_sound rows (change_rows rows changes) c.args.command.now c.args.moment c.in-Ok.plan.1 c.self.invariant.sound c.requires.built done (changed_spelled rows changes c.self.invariant.sound kept))
    c.if-self-ge-MOST_ENTRIES.false
    (holds_next (g.P.Keeper.content c.self.inside.keeper) (g.P.Keeper.content c.apply.new.self) rows changes number c.self.invariant.kept c.self.invariant.sound.order c.in-Ok.ensures.1.keys applied)

pub returns-in-Ok-apply-clause-carries : goal.returns-in-Ok-apply-clause-carries
returns-in-Ok-apply-clause-carries g c =
    let rows = c.self.inside.rows.list in
    let number = c.self.inside.number in
    let changes = c.in-Ok.plan.0.changes in
    let done = effect_at rows (change_rows rows changes) c.args.command.now c.args.moment c.in-Ok.plan.1 c.ranges.moment c.in-Ok.ensures.0 in
    let value = c.in-Ok.plan.1 in
    let list : List Row = c.apply-in-Ok-apply.new.self.list in
    let next : list ≡ change_rows rows changes = c.apply-in-Ok-apply.ensures.list ∙ ap (λ (l : List Row). change_rows l changes) c.make_ready.ensures.list in
    let given : to_z w64 (of_z w64 value) ≡ value = to_z-of_z w64 value c.in-Ok.ensures.2 in
    let accepts : step rows number c.args.command.now c.args.moment ≡ accepted list (to_z w64 (of_z w64 value)) = step_accepts rows (change_rows rows changes) number c.args.command.now c.args.moment value c.if-self-ge-MOST_ENTRIES.false done ∙ ap (λ (l : List Row). accepted l value) (sym next) ∙ ap (λ (v : ℤ). accepted list v) (sym given) in
    let now : ShopView = record { rows = list; number = number + 1; content = g.P.Keeper.content c.apply.new.self; faults = g.P.Keeper.keep_faults c.apply.new.self; copy = c.push.new.self.copy; pending = c.push.new.self.pending } in
    subst (λ (v : ShopView). CarriesOut v c.args.command.now c.args.moment (Ok (record { front = number + 1; value = to_z w64 (of_z w64 value) })) now) c.self.view_is (record {
      answer = (accepts, refl, refl);
      cause = c.in-Ok-apply.ensures.cause;
      content = tt;
      told = still_told (g.P.Keeper.content c.self.inside.keeper) (g.P.Keeper.content c.apply.new.self) c.as_slice-2.result.now (number + 1) c.in-Ok-apply.ensures.ok;
      adds = record { delta = changes; leads = next; copy = c.push.ensures.copy ∙ c.make_ready.ensures.queue.copy; pending = c.push.ensures.pending ∙ (λ i. c.make_ready.ensures.queue.pending i ++ c.in_ok-shared.ensures.delta i ∷ []) };
    })

pub returns-in-Ok-apply-clause-shop : goal.returns-in-Ok-apply-clause-shop
returns-in-Ok-apply-clause-shop g c = invariant_of-self-in-Ok-apply g c

pub returns-in-Err-Failed-clause-carries : goal.returns-in-Err-Failed-clause-carries
returns-in-Err-Failed-clause-carries g c =
    let rows = c.self.inside.rows.list in
    let number = c.self.inside.number in
    let changes = c.in-Ok.plan.0.changes in
    let done = effect_at rows (change_rows rows changes) c.args.command.now c.args.moment c.in-Ok.plan.1 c.ranges.moment c.in-Ok.ensures.0 in
    let accepts = step_accepts rows (change_rows rows changes) number c.args.command.now c.args.moment c.in-Ok.plan.1 c.if-self-ge-MOST_ENTRIES.false done in
    let now : ShopView = record { rows = c.make_ready.new.rows.list; number = number; content = g.P.Keeper.content c.apply.new.self; faults = g.P.Keeper.keep_faults c.apply.new.self; copy = c.make_ready.new.queue.copy; pending = c.make_ready.new.queue.pending } in
    subst (λ (v : ShopView). CarriesOut v c.args.command.now c.args.moment (Err faults.StoreFailed) now) c.self.view_is (record {
      answer = (subst IsAccepted (sym accepts) tt, ap (λ (l : List Row). state_at l number) c.make_ready.ensures.list);
      cause = rw c.in-Err-Failed.field-0-is at c.in-Err-Failed.ensures.cause;
      content = c.in-Err-Failed.ensures.err;
      told = ap is_some c.in-Err-Failed.ensures.err;
      adds = record { copy = c.make_ready.ensures.queue.copy; pending = c.make_ready.ensures.queue.pending };
    })
  where
    state_at : List Row → ℕ → State
    state_at l n = record { rows = l; number = n }

pub returns-in-Err-Refused-clause-carries : goal.returns-in-Err-Refused-clause-carries
returns-in-Err-Refused-clause-carries g c =
    let rows = c.self.inside.rows.list in
    let rule = c.in-Err-Refused.refused in
    let told : effect rows c.args.command.now (to_z w64 (of_z w64 c.args.moment)) ≡ refused rule = rw c.in-Err-Refused.field-0-is at c.in-Err-Refused.ensures in
    let refuses = step_refuses rows c.self.inside.number c.args.command.now c.args.moment rule (refused_at rows c.args.command.now c.args.moment rule c.ranges.moment told) in
    rw c.in-Err-Refused.refused-is (subst (λ (v : ShopView). CarriesOut v c.args.command.now c.args.moment (Err (faults.Refused rule)) v) c.self.view_is (record { answer = (refuses, refl); cause = refl; content = refl; told = refl; adds = record { copy = refl; pending = refl } }))

pub push-requires-clause-keys : goal.push-requires-clause-keys
push-requires-clause-keys g c = subst StandUnderTheirKeys (sym c.in_ok-shared.ensures.delta) c.in-Ok.ensures.1.keys

pub push-requires-clause-front : goal.push-requires-clause-front
push-requires-clause-front g c =
    let view : ShopView = record { rows = c.self.inside.rows.list; number = c.self.inside.number; content = g.P.Keeper.content c.self.inside.keeper; faults = g.P.Keeper.keep_faults c.self.inside.keeper; copy = c.self.inside.queue.copy; pending = c.self.inside.queue.pending } in
    push_front view c.make_ready.new.queue.copy c.make_ready.new.queue.pending c.self.invariant c.make_ready.ensures.queue.copy c.make_ready.ensures.queue.pending c.if-self-ge-MOST_ENTRIES.false

pub push-requires-clause-sound : goal.push-requires-clause-sound
push-requires-clause-sound g c =
    let rows = c.self.inside.rows.list in
    let changes = c.in-Ok.plan.0.changes in
    let view : ShopView = record { rows = rows; number = c.self.inside.number; content = g.P.Keeper.content c.self.inside.keeper; faults = g.P.Keeper.keep_faults c.self.inside.keeper; copy = c.self.inside.queue.copy; pending = c.self.inside.queue.pending } in
    let done = effect_at rows (change_rows rows changes) c.args.command.now c.args.moment c.in-Ok.plan.1 c.ranges.moment c.in-Ok.ensures.0 in
    let kept : AreKeptRows changes = rw c.as_slice.ensures at c.in_ok-bytes.ensures.kept in
    push_sound view c.make_ready.new.queue.copy c.make_ready.new.queue.pending changes _ c.self.invariant c.make_ready.ensures.queue.copy c.make_ready.ensures.queue.pending c.in_ok-shared.ensures.delta
    (effect_is_sound rows (change_rows rows changes) c.args.command.now c.args.moment c.in-Ok.plan.1 c.self.invariant.sound c.requires.built done (changed_spelled rows changes c.self.invariant.sound kept))
