use Rattle.std.proofs.Common.{◌<◌, ◌≤◌, ◌∙◌, ℕ, refl, subst, arith}
use Rattle.std.proofs.lemmas.List.{drop_all}
use Rattle.shop_drafts.specs.Drafts.{commits}
use Rattle.shop_drafts.specs.Merging.{log, replayed}
use Rattle.shop_write.specs.Growth.{grown_view}
use Rattle.shop_version.specs.Plans.{IsFaultOf}
use Rattle.shop_version.proofs.Commits.{commit_at}
use Rattle.shop_version.proofs.Rounds.{commit_step, commit_count_step, commit_fault, err_on, none_yet, sum_step, few_step, replay_done, count_done, replay_fault}
use Rattle.shop_version.proofs.merging.replay.Goals as goal

pub loop-number-init : goal.loop-number-init
loop-number-init c = record { so_far = refl; base = refl; coherent = c.requires.coherent; counted = none_yet _; few = omega arith; most = omega arith }

pub replay_number-requires-clause-there : goal.replay_number-requires-clause-there
replay_number-requires-clause-there c =
    (commit_at c.args.rows.now.list c.args.version c.requires.drafted c.requires.numbered c.loop-number.number (subst (λ (n : ℕ). c.loop-number.number < n) c.requires.count c.loop-number-test.true)).of

pub loop-number-preserved : goal.loop-number-preserved
loop-number-preserved c =
    let rows = c.args.rows.now.list in
    let i = c.loop-number.number in
    let at = commit_at rows c.args.version c.requires.drafted c.requires.numbered i (subst (λ (n : ℕ). i < n) c.requires.count c.loop-number-test.true) in
    let done = c.in_ok-replayed.ensures in
    let next = c.replay_number.new.growing in
    record {
      so_far = commit_step rows c.args.version c.requires.drafted c.loop-number.growing next i _ done.base at done.done ∙ c.loop-number.invariant.so_far;
      base = done.base ∙ c.loop-number.invariant.base;
      coherent = done.coherent;
      counted = sum_step c.loop-number.replayed _ _ _ _ (commit_count_step rows c.args.version c.requires.drafted c.loop-number.growing next i _ at done.done) c.loop-number.invariant.counted;
      few = few_step c.loop-number.replayed _ i done.done.few c.loop-number.invariant.few;
      most = omega (arith, c.loop-number-test.true);
    }

pub returns-in_err-replayed-clause-err : goal.returns-in_err-replayed-clause-err
returns-in_err-replayed-clause-err c =
    let rows = c.args.rows.now.list in
    let i = c.loop-number.number in
    let at = commit_at rows c.args.version c.requires.drafted c.requires.numbered i (subst (λ (n : ℕ). i < n) c.requires.count c.loop-number-test.true) in
    let fault = c.in_err-replayed.field-0.0 in
    err_on (IsFaultOf (replayed (grown_view c.args.growing.now) (log rows c.args.version))) c.from_residual.result fault c.from_residual.ensures.1
    (replay_fault rows c.args.version c.args.growing.now c.loop-number.growing i fault c.loop-number.invariant.so_far
    (commit_fault rows c.args.version c.requires.drafted (grown_view c.loop-number.growing) i fault at c.in_err-replayed.ensures.err))

pub returns-clause-ok : goal.returns-clause-ok
returns-clause-ok c =
    let rows = c.args.rows.now.list in
    let i = c.loop-number.number in
    replay_done rows c.args.version c.args.growing.now c.loop-number.growing i (drop_all i (commits rows c.args.version) (subst (λ (n : ℕ). n ≤ i) c.requires.count c.loop-number-test.false)) c.loop-number.invariant.so_far

pub returns-clause-count : goal.returns-clause-count
returns-clause-count c =
    let rows = c.args.rows.now.list in
    let i = c.loop-number.number in
    count_done rows c.args.version c.loop-number.replayed i (drop_all i (commits rows c.args.version) (subst (λ (n : ℕ). n ≤ i) c.requires.count c.loop-number-test.false)) c.loop-number.invariant.counted
