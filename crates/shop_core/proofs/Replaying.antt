-- Many commits are the replay of the accepted ones.
use Rattle.std.proofs.Common.{◌≡◌, ℕ, ◌+◌, ◌-◌, ◌^◌, ◌≤◌, ◌<◌, List, [], ◌∷◌, length, filter, Result, Ok, Err, sym, ap, subst, ◌∙◌, arith}
use Rattle.shop_core.specs.declared.answers.Done.{Done}
use Rattle.shop_core.specs.declared.answers.CommitFault.{CommitFault}
use Rattle.shop_core.specs.declared.answers.CommitFault.TheVariants as faults
use Rattle.shop_core.specs.Steps.{IsAccepted}
use Rattle.shop_core.specs.declared.answers.Entry.{Entry}
use Rattle.shop_core.specs.History.{State, after_step, after_entry, replay, IsLegal}
use Rattle.shop_core.specs.Shops.{ShopView, state_of}
use Rattle.shop_core.specs.Commits.{Commits, Answered, AreCommitted, accepted_of, is_store_failed, CommitsAreTheReplay}

-- an accepted commit leaves what its entry leaves
done_leaves : (old next : ShopView) (entry : Entry) (done : Done) → Commits old entry.command entry.moment (Ok done) next → state_of next ≡ after_entry (state_of old) entry
done_leaves old next entry done commits =
    let counted : ℕ → State = λ n. record { rows = next.rows; number = n } in
    ap counted commits.answer.1 ∙ sym (ap (after_step (state_of old)) commits.answer.0)

-- a commit before a legal history
legal_before : (old next : ShopView) (entry : Entry) (result : Result Done CommitFault) (more : List Answered) → Commits old entry.command entry.moment result next → IsLegal (state_of next) (accepted_of more) → IsLegal (state_of old) (accepted_of (record { entry = entry; result = result } ∷ more))
unfolding IsLegal
legal_before old next entry (Ok done) more commits rest = (subst IsAccepted (sym commits.answer.0) tt, subst (λ (s : State). IsLegal s (accepted_of more)) (done_leaves old next entry done commits) rest)
legal_before old next entry (Err (faults.Refused rule)) more commits rest = subst (λ (s : State). IsLegal s (accepted_of more)) commits.answer.1 rest
legal_before old next entry (Err faults.StoreFailed) more commits rest = subst (λ (s : State). IsLegal s (accepted_of more)) commits.answer.1 rest
legal_before old next entry (Err faults.NoMemory) more commits rest = subst (λ (s : State). IsLegal s (accepted_of more)) commits.answer rest

are_legal : (old now : ShopView) (answered : List Answered) → AreCommitted old answered now → IsLegal (state_of old) (accepted_of answered)
unfolding IsLegal
are_legal old now [] committed = tt
are_legal old now (one ∷ more) committed = legal_before old committed.0 one.entry one.result more committed.1 (are_legal committed.0 now more committed.2)

-- a commit before a replay
replay_before : (old next now : ShopView) (entry : Entry) (result : Result Done CommitFault) (more : List Answered) → Commits old entry.command entry.moment result next → state_of now ≡ replay (state_of next) (accepted_of more) → state_of now ≡ replay (state_of old) (accepted_of (record { entry = entry; result = result } ∷ more))
unfolding replay
replay_before old next now entry (Ok done) more commits rest = rest ∙ ap (λ (s : State). replay s (accepted_of more)) (done_leaves old next entry done commits)
replay_before old next now entry (Err (faults.Refused rule)) more commits rest = rest ∙ ap (λ (s : State). replay s (accepted_of more)) commits.answer.1
replay_before old next now entry (Err faults.StoreFailed) more commits rest = rest ∙ ap (λ (s : State). replay s (accepted_of more)) commits.answer.1
replay_before old next now entry (Err faults.NoMemory) more commits rest = rest ∙ ap (λ (s : State). replay s (accepted_of more)) commits.answer

are_replayed : (old now : ShopView) (answered : List Answered) → AreCommitted old answered now → state_of now ≡ replay (state_of old) (accepted_of answered)
unfolding replay
are_replayed old now [] committed = ap state_of committed
are_replayed old now (one ∷ more) committed = replay_before old committed.0 now one.entry one.result more committed.1 (are_replayed committed.0 now more committed.2)

-- a commit before failures that are counted
failures_before : (old next : ShopView) (entry : Entry) (result : Result Done CommitFault) (more : List Answered) (last : ℕ) → Commits old entry.command entry.moment result next → last < 2 ^ 64 - 1 → next.faults + length (filter is_store_failed more) ≤ last → old.faults + length (filter is_store_failed (record { entry = entry; result = result } ∷ more)) ≤ last
failures_before old next entry (Ok done) more last commits below rest = omega (arith, commits.cause)
failures_before old next entry (Err (faults.Refused rule)) more last commits below rest = omega (arith, commits.cause)
failures_before old next entry (Err faults.StoreFailed) more last commits below rest = omega (arith, commits.cause.0, commits.cause.1)
failures_before old next entry (Err faults.NoMemory) more last commits below rest = omega (arith, commits.cause)

failures : (old now : ShopView) (answered : List Answered) → AreCommitted old answered now → now.faults < 2 ^ 64 - 1 → old.faults + length (filter is_store_failed answered) ≤ now.faults
failures old now [] committed below = let same : now.faults ≡ old.faults = ap (λ (v : ShopView). v.faults) committed in omega arith
failures old now (one ∷ more) committed below = failures_before old committed.0 one.entry one.result more now.faults committed.1 below (failures committed.0 now more committed.2 below)

pub commits_are_the_replay : CommitsAreTheReplay
commits_are_the_replay = record { are_legal = are_legal; are_replayed = are_replayed; failures = failures }
