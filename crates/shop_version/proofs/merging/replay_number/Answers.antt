use Rattle.std.proofs.Common.{ap, sym, subst, ◌∙◌}
use Rattle.shop_defs.specs.declared.row.Row.{Row}
use Rattle.shop_defs.specs.Rows.{row_at}
use Rattle.shop_version.specs.Replaying.{IsReplayable}
use Rattle.shop_version.proofs.Rounds.{found_same}
use Rattle.shop_version.proofs.merging.replay_number.Goals as goal

pub replay_commit-requires-clause-replayable : goal.replay_commit-requires-clause-replayable
replay_commit-requires-clause-replayable c =
    let rows = c.args.rows.now.list in
    let found = ap (row_at rows) (sym c.commit_key.ensures) ∙ sym c.in-Some.ensures in
    subst IsReplayable (sym (found_same rows c.args.version c.args.number c.in-Some.commit.now c.requires.there.commit found c.requires.there.found)) c.requires.there.replayable

pub replay_commit-requires-clause-numbered : goal.replay_commit-requires-clause-numbered
replay_commit-requires-clause-numbered c =
    let rows = c.args.rows.now.list in
    let found = ap (row_at rows) (sym c.commit_key.ensures) ∙ sym c.in-Some.ensures in
    ap (λ (row : Row). row.key.second) (found_same rows c.args.version c.args.number c.in-Some.commit.now c.requires.there.commit found c.requires.there.found) ∙ c.requires.there.numbered
