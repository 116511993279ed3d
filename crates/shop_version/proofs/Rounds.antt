-- The rounds of the loops of a merge.
use Rattle.std.proofs.Common.{◌≡◌, ◌<◌, ◌≤◌, ◌+◌, ◌*◌, ◌^◌, ℕ, suc, true, List, [], length, get_or, drop, add-one, flat_map, arith, refl, sym, ap, subst, ◌∙◌, Some, Result, Ok, Err}
use Rattle.std.specs.Prelude.{IfErr, IsErrAnd}
use Rattle.shop_defs.specs.declared.broken.Broken.{Broken}
use Rattle.shop_defs.specs.declared.op.Op.{Op}
use Rattle.shop_defs.specs.declared.refused.PlanFault.{PlanFault}
use Rattle.shop_defs.specs.declared.refused.PlanFault.TheVariants as F
use Rattle.shop_defs.specs.declared.row.Row.{Row}
use Rattle.shop_defs.specs.Joined.{Change}
use Rattle.shop_defs.specs.Rows.{row_at, change_rows}
use Rattle.shop_operations.specs.Operations.{operated}
use Rattle.shop_operations.specs.References.{live}
use Rattle.shop_operations.specs.Views.{View}
use Rattle.shop_drafts.specs.Drafts.{commits, commit_key}
use Rattle.shop_drafts.specs.Merging.{Logged, logged, logged_from, log, replayed}
use Rattle.shop_drafts.specs.Soundness.{AreDrafted}
use Rattle.shop_write.specs.Growth.{Growth, changes_so_far, grown, grown_view}
use Rattle.shop_version.specs.Plans.{IsFaultOf}
use Rattle.shop_version.specs.Replaying.{IsFaultAt, IsMergeFault, IsReplayFault, IsReplayed}
use Rattle.shop_version.proofs.Assembled.{log_is}
use Rattle.shop_version.proofs.Commits.{IsCommitAt}
use Rattle.shop_version.proofs.Merges.{left_at, step_replay, fault_replay, step_commit, fault_commit, counted}

-- the refusal of an operation, named by its commit
pub named_fault : (view : View) (entry : Logged) (broken : Broken) (fault : PlanFault) → operated view entry.op true ≡ Err broken → IsMergeFault entry.commit entry.number broken fault → IsReplayFault view entry fault
named_fault view entry broken F.NoMemory e is = tt
named_fault view entry broken (F.Refused refused) e is = (is.0, record { broken = broken; breaks = e; is = is.1 })

-- the same outcome has the same faults
pub same_fault : (outcome other : Result (List Row) Broken) (fault : PlanFault) → outcome ≡ other → IsFaultOf outcome fault → IsFaultOf other fault
same_fault outcome other fault e is = subst (λ (r : Result (List Row) Broken). IsFaultOf r fault) e is

-- what a `?` hands on
pub err_on : {A E : Type 0} (Q : E → Type 0) (answer : Result A E) (fault : E) → IsErrAnd answer (λ e. e ≡ fault) → Q fault → IfErr answer Q
err_on Q (Ok a) fault is h = absurd is
err_on Q (Err e) fault is h = subst Q (sym is) h

-- sums of how many there are
pub none_yet : (n : ℕ) → 0 + n ≡ n
none_yet n = omega arith

pub sum_step : (so_far one left rest all : ℕ) → left ≡ one + rest → so_far + left ≡ all → (so_far + one) + rest ≡ all
sum_step so_far one left rest all e f = omega arith

pub few_step : (so_far one i : ℕ) → one ≤ 1000 → so_far ≤ 1000 * i → so_far + one ≤ 1000 * (i + 1)
few_step so_far one i e f = omega arith

pub sum_fits : (so_far one i count : ℕ) → one ≤ 1000 → so_far ≤ 1000 * i → i < count → count < 2 ^ 32 → so_far + one < 2 ^ 64
sum_fits so_far one i count e f low fits = omega arith

-- ---- the operations of one commit

pub op_step : (growth next : Growth) (commit : ℕ) (ops : List Op) (i : ℕ) (op : Op) → i < length ops → op ≡ get_or ops i op → next.base ≡ growth.base → operated (grown_view growth) op true ≡ Ok (grown next)
    → replayed (grown_view next) (logged_from commit (i + 1 + 1) (drop (i + 1) ops)) ≡ replayed (grown_view growth) (logged_from commit (i + 1) (drop i ops))
op_step growth next commit ops i op low at b e =
    let entry : Logged = record { commit = commit; number = i + 1; op = op } in
    let rest : List Logged = logged_from commit (suc (i + 1)) (drop (i + 1) ops) in
    ap (λ n. replayed (grown_view next) (logged_from commit n (drop (i + 1) ops))) (add-one (i + 1))
    ∙ (sym (step_replay growth next entry rest b e) ∙ ap (replayed (grown_view growth)) (sym (left_at commit (i + 1) ops i op low at)))

pub op_fault : (growth : Growth) (commit : ℕ) (ops : List Op) (i : ℕ) (op : Op) (fault : PlanFault) → i < length ops → op ≡ get_or ops i op
    → IsReplayFault (grown_view growth) (record { commit = commit; number = i + 1; op = op }) fault → IsFaultOf (replayed (grown_view growth) (logged_from commit (i + 1) (drop i ops))) fault
op_fault growth commit ops i op F.NoMemory low at is = tt
op_fault growth commit ops i op (F.Refused refused) low at is =
    let entry : Logged = record { commit = commit; number = i + 1; op = op } in
    let rest : List Logged = logged_from commit (suc (i + 1)) (drop (i + 1) ops) in
    (is.0, ap (replayed (grown_view growth)) (left_at commit (i + 1) ops i op low at) ∙ (fault_replay (grown_view growth) entry rest is.1.broken is.1.breaks ∙ ap err (sym is.1.is)))
  where
    err : Broken → Result (List Row) Broken
    err broken = Err broken

pub ops_done : (growth : Growth) (commit n : ℕ) (left : List Op) → left ≡ [] → replayed (grown_view growth) (logged_from commit n left) ≡ Ok (grown growth)
ops_done growth commit n left none = ap (λ ops. replayed (grown_view growth) (logged_from commit n ops)) none

pub logged_is : (commit : Row) (number : ℕ) (ops : List Op) → commit.key.second ≡ number → ops ≡ commit.ops → logged_from number 1 ops ≡ logged commit
logged_is commit number ops s o = ap (λ n. logged_from n 1 ops) (sym s) ∙ ap (logged_from commit.key.second 1) o

-- ---- the commits, one after the other

pub found_same : (rows : List Row) (version number : ℕ) (commit other : Row) → row_at rows (commit_key version number) ≡ Some commit → row_at rows (commit_key version number) ≡ Some other → commit ≡ other
found_same rows version number commit other e f = some_is (sym e ∙ f)
  where
    some_is : Some commit ≡ Some other → commit ≡ other
    some_is e = cc

module _ (rows : List Row) (version : ℕ) (drafted : AreDrafted rows) where
  pub commit_step : (growth next : Growth) (i count : ℕ) → next.base ≡ growth.base → IsCommitAt rows version drafted i → IsReplayed rows version (i + 1) growth next count
      → replayed (grown_view next) (flat_map logged (drop (i + 1) (commits rows version))) ≡ replayed (grown_view growth) (flat_map logged (drop i (commits rows version)))
  commit_step growth next i count b at is =
      let same : is.commit ≡ at.of.commit = found_same rows version (i + 1) is.commit at.of.commit is.found at.of.found in
      let done : replayed (grown_view growth) (logged at.of.commit) ≡ Ok (grown next) = subst (λ (commit : Row). replayed (grown_view growth) (logged commit) ≡ Ok (grown next)) same is.done in
      sym (ap (λ (left : List Row). replayed (grown_view growth) (flat_map logged left)) at.next ∙ step_commit growth next at.of.commit (drop (i + 1) (commits rows version)) b done)

  pub commit_count_step : (growth next : Growth) (i count : ℕ) → IsCommitAt rows version drafted i → IsReplayed rows version (i + 1) growth next count
      → length (flat_map logged (drop i (commits rows version))) ≡ count + length (flat_map logged (drop (i + 1) (commits rows version)))
  commit_count_step growth next i count at is =
      let same : is.commit ≡ at.of.commit = found_same rows version (i + 1) is.commit at.of.commit is.found at.of.found in
      let number : count ≡ length at.of.commit.ops = is.is_count ∙ ap (λ (commit : Row). length commit.ops) same in
      ap (λ (left : List Row). length (flat_map logged left)) at.next
      ∙ (counted at.of.commit (drop (i + 1) (commits rows version)) ∙ ap (λ n. n + length (flat_map logged (drop (i + 1) (commits rows version)))) (sym number))

  pub commit_fault : (view : View) (i : ℕ) (fault : PlanFault) → IsCommitAt rows version drafted i → IsFaultAt rows version (i + 1) view fault → IsFaultOf (replayed view (flat_map logged (drop i (commits rows version)))) fault
  commit_fault view i F.NoMemory at is = tt
  commit_fault view i (F.Refused refused) at is =
      let same : is.commit ≡ at.of.commit = found_same rows version (i + 1) is.commit at.of.commit is.found at.of.found in
      let broken : replayed view (logged at.of.commit) ≡ Err refused.broken = subst (λ (commit : Row). replayed view (logged commit) ≡ Err refused.broken) same is.is.1 in
      (is.is.0, ap (λ (left : List Row). replayed view (flat_map logged left)) at.next ∙ fault_commit view at.of.commit (drop (i + 1) (commits rows version)) refused.broken broken)

pub commits_done : (growth : Growth) (left : List Row) → left ≡ [] → replayed (grown_view growth) (flat_map logged left) ≡ Ok (grown growth)
commits_done growth left none = ap (λ rows. replayed (grown_view growth) (flat_map logged rows)) none

module _ (rows : List Row) (version : ℕ) where
  -- all are done
  pub replay_done : (first growth : Growth) (i : ℕ) → drop i (commits rows version) ≡ [] → replayed (grown_view growth) (flat_map logged (drop i (commits rows version))) ≡ replayed (grown_view first) (flat_map logged (commits rows version))
      → replayed (grown_view first) (log rows version) ≡ Ok (grown growth)
  replay_done first growth i none so_far = ap (replayed (grown_view first)) (log_is rows version) ∙ (sym so_far ∙ commits_done growth (drop i (commits rows version)) none)

  pub count_done : (count i : ℕ) → drop i (commits rows version) ≡ [] → count + length (flat_map logged (drop i (commits rows version))) ≡ length (flat_map logged (commits rows version)) → count ≡ length (log rows version)
  count_done count i none so_far =
      let left : length (flat_map logged (drop i (commits rows version))) ≡ 0 = ap (λ (rows : List Row). length (flat_map logged rows)) none in
      let all : length (log rows version) ≡ length (flat_map logged (commits rows version)) = ap length (log_is rows version) in
      omega arith

  -- one is refused
  pub replay_fault : (first growth : Growth) (i : ℕ) (fault : PlanFault) → replayed (grown_view growth) (flat_map logged (drop i (commits rows version))) ≡ replayed (grown_view first) (flat_map logged (commits rows version))
      → IsFaultOf (replayed (grown_view growth) (flat_map logged (drop i (commits rows version)))) fault → IsFaultOf (replayed (grown_view first) (log rows version)) fault
  replay_fault first growth i fault so_far is = subst (λ (r : Result (List Row) Broken). IsFaultOf r fault) (so_far ∙ ap (replayed (grown_view first)) (sym (log_is rows version))) is

-- what the changes so far leave of the live rows
pub left_is : (growth : Growth) (rows : List Row) (changes : List Change) → growth.base ≡ rows → changes ≡ changes_so_far growth → live (change_rows rows changes) ≡ grown growth
unfolding grown
left_is growth rows changes b is = rw (is, ← b) refl
