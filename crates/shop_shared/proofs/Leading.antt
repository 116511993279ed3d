-- The pending deltas lead from the published copy to the rows, one front at a time.
use Rattle.std.proofs.Common.{◌≡◌, ◌⊎◌, ℕ, zero, suc, ◌+◌, ◌≤◌, ◌<◌, List, [], ◌∷◌, ◌++◌, length, take, refl, sym, ap, ◌∙◌, subst, ⊎_elim, inl, inr, arith, length-append}
use Rattle.std.proofs.lemmas.Bool.{cases_lt}
use Rattle.std.proofs.lemmas.List.{take_all, take-append-le}
use Rattle.std.proofs.lemmas.List.Sums.{fold-append}
use Rattle.shop_defs.specs.declared.row.Row.{Row}
use Rattle.shop_defs.specs.Joined.{Change}
use Rattle.shop_defs.specs.Rows.{change_rows}
use Rattle.idx_copy.specs.Copies.{CopyView}
use Rattle.idx_copy.specs.Fronts.{rows_after}
use Rattle.shop_core.specs.declared.answers.Entry.{Entry}
use Rattle.shop_core.specs.History.{State, replay, at}
use Rattle.shop_core.proofs.Histories.{prefixes_stay}
use Rattle.shop_shared.specs.Locks.{LeadOn}

-- where nothing is pending
pub leads_none : (start : State) (history : List Entry) (copy : CopyView) (pending : List (List Change)) → pending ≡ [] → copy.front ≡ start.number + length history → copy.rows ≡ (replay start history).rows → LeadOn start history copy pending
leads_none start history copy pending none front rows = subst (LeadOn start history copy) (sym none) at_none
  where
    at_none : (count : ℕ) → count ≤ length {A = List Change} [] → rows_after copy.rows (take count []) ≡ at start history (copy.front + count)
    at_none zero most =
        let here : start.number + length history ≡ copy.front + zero = omega arith in
        rows ∙ (sym (prefixes_stay.last_rows start history) ∙ ap (at start history) here)
    at_none (suc n) most = absurd (omega arith)

-- all of them lead to the rows after the history
pub leads_all : (start : State) (history : List Entry) (copy : CopyView) (pending : List (List Change)) → LeadOn start history copy pending → copy.front + length pending ≡ start.number + length history → rows_after copy.rows pending ≡ (replay start history).rows
leads_all start history copy pending leads counts =
    ap (rows_after copy.rows) (sym (take_all (length pending) pending (omega arith))) ∙ (leads (length pending) (omega arith) ∙ (ap (at start history) counts ∙ prefixes_stay.last_rows start history))

-- where copy and deltas are the same
pub leads_same : (start : State) (history : List Entry) (copy copy' : CopyView) (pending pending' : List (List Change)) → copy' ≡ copy → pending' ≡ pending → LeadOn start history copy pending → LeadOn start history copy' pending'
leads_same start history copy copy' pending pending' c p leads = subst (λ (k : CopyView). LeadOn start history k pending') (sym c) (subst (LeadOn start history copy) (sym p) leads)

-- an accepted entry puts one more behind them
pub leads_more : (start : State) (history : List Entry) (copy : CopyView) (pending : List (List Change)) (e : Entry) (delta : List Change) → LeadOn start history copy pending → copy.front + length pending ≡ start.number + length history
    → (replay start (history ++ e ∷ [])).rows ≡ change_rows (replay start history).rows delta → LeadOn start (history ++ e ∷ []) copy (pending ++ delta ∷ [])
leads_more start history copy pending e delta leads counts rows count most =
    let longer : length (pending ++ delta ∷ []) ≡ length pending + 1 = length-append pending (delta ∷ []) in
    ⊎_elim (λ (less : count < length pending + 1). earlier (omega arith)) (λ (more : length pending + 1 ≤ count). last (omega arith)) (cases_lt count (length pending + 1))
  where
    earlier : count ≤ length pending → rows_after copy.rows (take count (pending ++ delta ∷ [])) ≡ at start (history ++ e ∷ []) (copy.front + count)
    earlier le =
        ap (rows_after copy.rows) (take-append-le count pending (delta ∷ []) le) ∙ (leads count le ∙ sym (prefixes_stay.same_rows start history (e ∷ []) (copy.front + count) (omega arith)))

    last : count ≡ length pending + 1 → rows_after copy.rows (take count (pending ++ delta ∷ [])) ≡ at start (history ++ e ∷ []) (copy.front + count)
    last is =
        let longer : length (pending ++ delta ∷ []) ≡ length pending + 1 = length-append pending (delta ∷ []) in
        let one : length (history ++ e ∷ []) ≡ length history + 1 = length-append history (e ∷ []) in
        let here : start.number + length (history ++ e ∷ []) ≡ copy.front + count = omega arith in
        ap (rows_after copy.rows) (take_all count (pending ++ delta ∷ []) (omega arith))
        ∙ (fold-append change_rows copy.rows pending (delta ∷ [])
        ∙ (ap (λ (r : List Row). change_rows r delta) (leads_all start history copy pending leads counts)
        ∙ (sym rows ∙ (sym (prefixes_stay.last_rows start (history ++ e ∷ [])) ∙ ap (at start (history ++ e ∷ [])) here))))
