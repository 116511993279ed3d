-- The laws of histories.
use Rattle.std.proofs.Common.{◌≡◌, ℕ, ◌+◌, ◌-◌, ◌≤◌, ◌==◌, Bool, cond, List, [], ◌∷◌, ◌++◌, length, filter, refl, ap, ◌∙◌, arith, eq-eqb}
use Rattle.std.proofs.lemmas.Bool.{ne_eqb}
use Rattle.std.proofs.lemmas.List.{append-nil, take-append-le, take_all}
use Rattle.std.proofs.lemmas.List.Elements.{filter-append}
use Rattle.std.proofs.lemmas.List.Sums.{fold-append}
use Rattle.shop_core.specs.Steps.{Stepped, accepted, refused, unbuilt, IsAccepted}
use Rattle.shop_core.specs.declared.answers.Entry.{Entry}
use Rattle.shop_core.specs.History.{State, step_at, after_step, after_entry, replay, IsLegal, own, at, OneEntryMore, PrefixesStay, EachIsCounted}

last_step : (start : State) (entries : List Entry) (entry : Entry) → replay start (entries ++ entry ∷ []) ≡ after_entry (replay start entries) entry
unfolding replay
last_step start entries entry = fold-append after_entry start entries (entry ∷ [])

-- of two histories, one after the other, each is legal at its place
legal_parts : (start : State) (entries more : List Entry) → IsLegal start (entries ++ more) → IsLegal start entries × IsLegal (replay start entries) more
unfolding IsLegal replay
legal_parts start [] more legal = (tt, legal)
legal_parts start (entry ∷ entries) more legal = let parts = legal_parts (after_entry start entry) entries more legal.1 in ((legal.0, parts.0), parts.1)

legal_whole : (start : State) (entries more : List Entry) → IsLegal start entries → IsLegal (replay start entries) more → IsLegal start (entries ++ more)
unfolding IsLegal replay
legal_whole start [] more first last = last
legal_whole start (entry ∷ entries) more first last = (first.0, legal_whole (after_entry start entry) entries more first.1 last)

one_legal : (state : State) (entry : Entry) → IsLegal state (entry ∷ []) → IsAccepted (step_at state entry)
unfolding IsLegal
one_legal state entry legal = legal.0

legal_one : (state : State) (entry : Entry) → IsAccepted (step_at state entry) → IsLegal state (entry ∷ [])
unfolding IsLegal
legal_one state entry accepts = (accepts, tt)

its_own : (caller : ℕ) (entries : List Entry) (entry : Entry) → entry.caller ≡ caller → own caller (entries ++ entry ∷ []) ≡ own caller entries ++ entry ∷ []
unfolding own
its_own caller entries entry e =
    filter-append (λ (x : Entry). x.caller == caller) entries (entry ∷ []) ∙ ap (λ (b : Bool). filter (λ (x : Entry). x.caller == caller) entries ++ cond b (entry ∷ []) []) (eq-eqb entry.caller caller e)

others : (caller : ℕ) (entries : List Entry) (entry : Entry) → (entry.caller ≡ caller → ⊥) → own caller (entries ++ entry ∷ []) ≡ own caller entries
unfolding own
others caller entries entry apart =
    filter-append (λ (x : Entry). x.caller == caller) entries (entry ∷ []) ∙ ap (λ (b : Bool). filter (λ (x : Entry). x.caller == caller) entries ++ cond b (entry ∷ []) []) (ne_eqb entry.caller caller apart) ∙ append-nil (filter (λ (x : Entry). x.caller == caller) entries)

pub one_entry_more : OneEntryMore
one_entry_more = record {
  last_step = last_step;
  stays_legal = λ start entries entry. ((λ legal. let parts = legal_parts start entries (entry ∷ []) legal in (parts.0, one_legal (replay start entries) entry parts.1)), (λ both. legal_whole start entries (entry ∷ []) both.0 (legal_one (replay start entries) entry both.1)));
  its_own = its_own;
  others = others;
}

same_rows : (start : State) (entries more : List Entry) (front : ℕ) → front ≤ start.number + length entries → at start (entries ++ more) front ≡ at start entries front
unfolding at
same_rows start entries more front most =
    let within : front - start.number ≤ length entries = omega arith in
    ap (λ (l : List Entry). (replay start l).rows) (take-append-le (front - start.number) entries more within)

last_rows : (start : State) (entries : List Entry) → at start entries (start.number + length entries) ≡ (replay start entries).rows
unfolding at
last_rows start entries =
    let all : length entries ≤ (start.number + length entries) - start.number = omega arith in
    ap (λ (l : List Entry). (replay start l).rows) (take_all ((start.number + length entries) - start.number) entries all)

pub prefixes_stay : PrefixesStay
prefixes_stay = record {
  stay_legal = λ start entries more legal. (legal_parts start entries more legal).0;
  same_rows = same_rows;
  last_rows = last_rows;
}

accepted_counts : (state : State) (s : Stepped) → IsAccepted s → (after_step state s).number ≡ state.number + 1
accepted_counts state (accepted rows value) accepts = refl
accepted_counts state (refused rule) accepts = absurd accepts
accepted_counts state unbuilt accepts = absurd accepts

pub each_is_counted : EachIsCounted
unfolding IsLegal replay
each_is_counted start [] legal = omega arith
each_is_counted start (entry ∷ entries) legal = omega (arith, each_is_counted (after_entry start entry) entries legal.1, accepted_counts start (step_at start entry) legal.0)
