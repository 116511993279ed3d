use Rattle.std.proofs.Common.{◌≡◌, sym, ap, subst, ◌∙◌}
use Rattle.shop_defs.specs.declared.delta.Delta.{Delta}
use Rattle.shop_defs.specs.Rows.{change_rows}
use Rattle.shop_rows.specs.Changing.{StandUnderTheirKeys, HasAscendingKeys}
use Rattle.shop_check.specs.Soundness.{AreSound}
use Rattle.idx_copy.specs.declared.tables.Tables.{Tables}
use Rattle.idx_copy.specs.Answers.{AreTablesOf}
use Rattle.idx_copy.specs.Copies.{CopyView}
use Rattle.idx_copy.specs.Fronts.{rows_after, changes_in}
use Rattle.idx_copy.proofs.Joining.{all_deltas, left_rows}
use Rattle.idx_copy.proofs.copy.IndexCopy.next.Goals as goal

pub after-requires-clause-keys : goal.after-requires-clause-keys
after-requires-clause-keys c = subst StandUnderTheirKeys (sym c.in_ok-delta.ensures) (all_deltas c.self.inside.rows.list c.args.deltas.now c.self.invariant.sound.order c.requires.keys).own

pub after-requires-clause-once : goal.after-requires-clause-once
after-requires-clause-once c = subst HasAscendingKeys (sym c.in_ok-delta.ensures) (all_deltas c.self.inside.rows.list c.args.deltas.now c.self.invariant.sound.order c.requires.keys).once

pub after-requires-clause-sound : goal.after-requires-clause-sound
after-requires-clause-sound c =
    let rows = c.reserve.ensures.list ∙ c.in_ok-rows.ensures in
    let changes = ap (λ (d : Delta). d.changes) c.in_ok-copy.ensures in
    let led : change_rows c.reserve.new.self.list c.in_ok-copy.field-0.changes ≡ change_rows c.self.inside.rows.list c.in_ok-delta.delta.changes = λ i. change_rows (rows i) (changes i) in
    let left = left_rows c.self.inside.rows.list c.apply.new.self.list c.in_ok-delta.delta.changes c.args.deltas.now c.self.invariant.sound.order c.requires.keys c.in_ok-delta.ensures (c.apply.ensures.list ∙ led) in
    let seen : c.apply.new.self.list ≡ rows_after c.args.self.now.rows (changes_in c.args.deltas.now) = left ∙ ap (λ (v : CopyView). rows_after v.rows (changes_in c.args.deltas.now)) c.self.view_is in
    subst AreSound (sym seen) c.requires.sound

pub invariant_of-result : goal.invariant_of-result
invariant_of-result c =
    let rows = c.reserve.ensures.list ∙ c.in_ok-rows.ensures in
    let changes = ap (λ (d : Delta). d.changes) c.in_ok-copy.ensures in
    let led : change_rows c.reserve.new.self.list c.in_ok-copy.field-0.changes ≡ change_rows c.self.inside.rows.list c.in_ok-delta.delta.changes = λ i. change_rows (rows i) (changes i) in
    let left = left_rows c.self.inside.rows.list c.apply.new.self.list c.in_ok-delta.delta.changes c.args.deltas.now c.self.invariant.sound.order c.requires.keys c.in_ok-delta.ensures (c.apply.ensures.list ∙ led) in
    let seen : c.apply.new.self.list ≡ rows_after c.args.self.now.rows (changes_in c.args.deltas.now) = left ∙ ap (λ (v : CopyView). rows_after v.rows (changes_in c.args.deltas.now)) c.self.view_is in
    record {
      sound = subst AreSound (sym seen) c.requires.sound;
      tables = subst (λ (t : Tables). AreTablesOf c.apply.new.self.list t) (sym c.in_ok-tables-2.ensures.ok) c.in_ok-tables.ensures;
    }

pub returns-clause-rows : goal.returns-clause-rows
returns-clause-rows c =
    let rows = c.reserve.ensures.list ∙ c.in_ok-rows.ensures in
    let changes = ap (λ (d : Delta). d.changes) c.in_ok-copy.ensures in
    let led : change_rows c.reserve.new.self.list c.in_ok-copy.field-0.changes ≡ change_rows c.self.inside.rows.list c.in_ok-delta.delta.changes = λ i. change_rows (rows i) (changes i) in
    let left = left_rows c.self.inside.rows.list c.apply.new.self.list c.in_ok-delta.delta.changes c.args.deltas.now c.self.invariant.sound.order c.requires.keys c.in_ok-delta.ensures (c.apply.ensures.list ∙ led) in
    left ∙ ap (λ (v : CopyView). rows_after v.rows (changes_in c.args.deltas.now)) c.self.view_is

pub returns-clause-copy : goal.returns-clause-copy
returns-clause-copy c =
    let rows = c.reserve.ensures.list ∙ c.in_ok-rows.ensures in
    let changes = ap (λ (d : Delta). d.changes) c.in_ok-copy.ensures in
    let led : change_rows c.reserve.new.self.list c.in_ok-copy.field-0.changes ≡ change_rows c.self.inside.rows.list c.in_ok-delta.delta.changes = λ i. change_rows (rows i) (changes i) in
    let left = left_rows c.self.inside.rows.list c.apply.new.self.list c.in_ok-delta.delta.changes c.args.deltas.now c.self.invariant.sound.order c.requires.keys c.in_ok-delta.ensures (c.apply.ensures.list ∙ led) in
    let seen : c.apply.new.self.list ≡ rows_after c.args.self.now.rows (changes_in c.args.deltas.now) = left ∙ ap (λ (v : CopyView). rows_after v.rows (changes_in c.args.deltas.now)) c.self.view_is in
    record {
      sound = subst AreSound (sym seen) c.requires.sound;
      tables = subst (λ (t : Tables). AreTablesOf c.apply.new.self.list t) (sym c.in_ok-tables-2.ensures.ok) c.in_ok-tables.ensures;
    }
