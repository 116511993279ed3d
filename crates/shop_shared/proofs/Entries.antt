-- Histories without entries, and with one entry more.
use Rattle.std.proofs.Common.{◌≡◌, ℕ, ◌<◌, ◌≤◌, Bool, cond, List, [], ◌∷◌, ◌++◌, refl, ap, ◌∙◌, arith}
use Rattle.std.proofs.lemmas.Bool.{ne_eqb}
use Rattle.shop_core.specs.declared.answers.Entry.{Entry}
use Rattle.shop_core.specs.Steps.{IsAccepted}
use Rattle.shop_core.specs.History.{State, step_at, after_entry, replay, IsLegal, own}
use Rattle.shop_core.proofs.Histories.{one_entry_more}
use Rattle.shop_shared.specs.Rule.{AreBelow}

pub replay_none : (start : State) → replay start [] ≡ start
unfolding replay
replay_none start = refl

pub legal_none : (start : State) → IsLegal start []
unfolding IsLegal
legal_none start = tt

pub own_none : (caller : ℕ) → own caller [] ≡ []
unfolding own
own_none caller = refl

pub replay_more : (start : State) (entries : List Entry) (e : Entry) → replay start (entries ++ e ∷ []) ≡ after_entry (replay start entries) e
replay_more = one_entry_more.last_step

pub legal_more : (start : State) (entries : List Entry) (e : Entry) → IsLegal start entries → IsAccepted (step_at (replay start entries) e) → IsLegal start (entries ++ e ∷ [])
legal_more start entries e legal accepts = (one_entry_more.stays_legal start entries e).1 (legal, accepts)

pub own_mine : (caller : ℕ) (entries : List Entry) (e : Entry) → e.caller ≡ caller → own caller (entries ++ e ∷ []) ≡ own caller entries ++ e ∷ []
own_mine = one_entry_more.its_own

pub own_other : (caller : ℕ) (entries : List Entry) (e : Entry) → (e.caller ≡ caller → ⊥) → own caller (entries ++ e ∷ []) ≡ own caller entries
own_other = one_entry_more.others

-- a number that no entry's caller reaches has no entries
pub own_below : (made : ℕ) (entries : List Entry) → AreBelow made entries → own made entries ≡ []
unfolding own
own_below made [] below = refl
own_below made (x ∷ xs) below =
    let less : x.caller < made = below.0 in
    ap (λ (b : Bool). cond b (x ∷ own made xs) (own made xs)) (ne_eqb x.caller made (λ e. omega arith)) ∙ own_below made xs below.1

pub below_none : (made : ℕ) → AreBelow made []
below_none made = tt

pub below_more : (made more : ℕ) (entries : List Entry) → made ≤ more → AreBelow made entries → AreBelow more entries
below_more made more [] le below = tt
below_more made more (x ∷ xs) le below = (let less : x.caller < made = below.0 in omega arith, below_more made more xs le below.1)

pub below_one_more : (made : ℕ) (entries : List Entry) (e : Entry) → AreBelow made entries → e.caller < made → AreBelow made (entries ++ e ∷ [])
below_one_more made [] e below less = (less, tt)
below_one_more made (x ∷ xs) e below less = (below.0, below_one_more made xs e below.1 less)
