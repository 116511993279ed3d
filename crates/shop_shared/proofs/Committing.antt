-- What a commit leaves published and pending.
use Rattle.std.proofs.Common.{◌≡◌, ◌⊎◌, ℕ, ◌+◌, ◌-◌, ◌≤◌, ◌<◌, ◌^◌, ℤ, List, [], ◌∷◌, ◌++◌, length, refl, sym, ap, ◌∙◌, subst, ⊎_elim, arith, Result, Ok, Err}
use Rattle.std.proofs.lemmas.Bool.{cases_lt}
use Rattle.shop_defs.specs.declared.row.Row.{Row}
use Rattle.shop_defs.specs.Joined.{Change}
use Rattle.shop_defs.specs.Rows.{change_rows}
use Rattle.shop_requests.specs.declared.command.Command.{Command}
use Rattle.idx_copy.specs.Copies.{CopyView}
use Rattle.shop_core.specs.declared.answers.Entry.{Entry}
use Rattle.shop_core.specs.declared.answers.Done.{Done}
use Rattle.shop_core.specs.declared.answers.CommitFault.{CommitFault}
use Rattle.shop_core.specs.declared.answers.CommitFault.TheVariants as faults
use Rattle.shop_core.specs.History.{State, replay}
use Rattle.shop_core.specs.Shops.{ShopView, IsShop, state_of}
use Rattle.shop_core.specs.Publishing.{StaysPublished, IsCaughtUp, MakesRoom, AddsOne}
use Rattle.shop_core.specs.Commits.{Commits, HasStoreCause, Publishes}
use Rattle.shop_shared.specs.Locks.{LeadOn}
use Rattle.shop_shared.proofs.Leading.{leads_none, leads_same, leads_more}

-- the count of faults never falls
pub count_grows : (before now : ℕ) (r : Result Done CommitFault) → HasStoreCause before now r → before ≤ now
count_grows before now (Ok done) cause = omega (arith, cause)
count_grows before now (Err (faults.Refused rule)) cause = omega (arith, cause)
count_grows before now (Err faults.StoreFailed) cause = cause.0
count_grows before now (Err faults.NoMemory) cause = omega (arith, cause)

-- ---- the fronts

-- where the front is after room was made
pub record HasRoom (s r : ShopView) : Type 0 where
  pub above : s.copy.front ≤ r.copy.front
  pub counts : r.copy.front + length r.pending ≡ s.number
  pub few : length r.pending < 1024

pub makes_room : (s r : ShopView) → IsShop s → MakesRoom s r → HasRoom s r
makes_room s r shop makes = ⊎_elim (λ (few : length s.pending < 1024). stays few (makes.few few)) (λ (full : 1024 ≤ length s.pending). caught (makes.full full)) (cases_lt (length s.pending) 1024)
  where
    stays : length s.pending < 1024 → StaysPublished s r → HasRoom s r
    stays few same =
        let front : r.copy.front ≡ s.copy.front = ap (λ (k : CopyView). k.front) same.copy in
        let long : length r.pending ≡ length s.pending = ap length same.pending in
        let counts : s.copy.front + length s.pending ≡ s.number = shop.counts in
        record { above = omega arith; counts = omega arith; few = omega arith }

    caught : IsCaughtUp r → HasRoom s r
    caught all =
        let front : r.copy.front ≡ r.number = all.front in
        let number : r.number ≡ s.number = makes.only.number in
        let long : length r.pending ≡ 0 = ap length all.pending in
        let counts : s.copy.front + length s.pending ≡ s.number = shop.counts in
        record { above = omega arith; counts = omega arith; few = omega arith }

-- the front rises, and no further than the entries that were accepted before
pub record HasRisen (s s' : ShopView) : Type 0 where
  pub above : s.copy.front ≤ s'.copy.front
  pub within : s'.copy.front ≤ s.number

risen_by : (s r s' : ShopView) → HasRoom s r → s'.copy ≡ r.copy → HasRisen s s'
risen_by s r s' room same =
    let front : s'.copy.front ≡ r.copy.front = ap (λ (k : CopyView). k.front) same in
    let above : s.copy.front ≤ r.copy.front = room.above in
    let counts : r.copy.front + length r.pending ≡ s.number = room.counts in
    record { above = omega arith; within = omega arith }

risen_not : (s s' : ShopView) → IsShop s → s'.copy ≡ s.copy → HasRisen s s'
risen_not s s' shop same =
    let front : s'.copy.front ≡ s.copy.front = ap (λ (k : CopyView). k.front) same in
    let counts : s.copy.front + length s.pending ≡ s.number = shop.counts in
    record { above = omega arith; within = omega arith }

pub rises : (s s' : ShopView) (r : Result Done CommitFault) → IsShop s → Publishes s r s' → HasRisen s s'
rises s s' (Ok done) shop p = risen_by s p.0 s' (makes_room s p.0 shop p.1) p.2.copy
rises s s' (Err (faults.Refused rule)) shop p = risen_by s p.0 s' (makes_room s p.0 shop p.1) p.2.copy
rises s s' (Err faults.StoreFailed) shop p = risen_by s p.0 s' (makes_room s p.0 shop p.1) p.2.copy
rises s s' (Err faults.NoMemory) shop p =
    ⊎_elim
    (λ (stays : StaysPublished s s'). risen_not s s' shop stays.copy)
    (λ (made : (r : ShopView) × MakesRoom s r × StaysPublished r s'). risen_by s made.0 s' (makes_room s made.0 shop made.1) made.2.copy)
    p

-- before an accepted entry fewer than 1,024 are pending
pub room_before : (s s' : ShopView) (done : Done) → IsShop s → Publishes s (Ok done) s' → s.number < s'.copy.front + 1024
room_before s s' done shop p =
    let room = makes_room s p.0 shop p.1 in
    let few : length p.0.pending < 1024 = room.few in
    let counts : p.0.copy.front + length p.0.pending ≡ s.number = room.counts in
    let front : s'.copy.front ≡ p.0.copy.front = ap (λ (k : CopyView). k.front) p.2.copy in
    omega arith

-- ---- the deltas

-- after room was made, the deltas lead on as before
room_leads : (start : State) (history : List Entry) (s r : ShopView) → state_of s ≡ replay start history → s.number ≡ start.number + length history → LeadOn start history s.copy s.pending → MakesRoom s r → LeadOn start history r.copy r.pending
room_leads start history s r state number leads makes = ⊎_elim (λ (few : length s.pending < 1024). stays (makes.few few)) (λ (full : 1024 ≤ length s.pending). caught (makes.full full)) (cases_lt (length s.pending) 1024)
  where
    stays : StaysPublished s r → LeadOn start history r.copy r.pending
    stays same = leads_same start history s.copy r.copy s.pending r.pending same.copy same.pending leads

    caught : IsCaughtUp r → LeadOn start history r.copy r.pending
    caught all = leads_none start history r.copy r.pending all.pending (all.front ∙ (makes.only.number ∙ number)) (all.rows ∙ (makes.only.rows ∙ ap (λ (z : State). z.rows) state))

-- an accepted entry
pub done_leads : (start : State) (history : List Entry) (e : Entry) (s s' : ShopView) (done : Done) → IsShop s → state_of s ≡ replay start history → s.number ≡ start.number + length history → LeadOn start history s.copy s.pending
    → state_of s' ≡ replay start (history ++ e ∷ []) → Publishes s (Ok done) s' → LeadOn start (history ++ e ∷ []) s'.copy s'.pending
done_leads start history e s s' done shop state number leads state' p =
    let r = p.0 in
    let room = makes_room s r shop p.1 in
    let before : r.rows ≡ (replay start history).rows = p.1.only.rows ∙ ap (λ (z : State). z.rows) state in
    let after : (replay start (history ++ e ∷ [])).rows ≡ change_rows (replay start history).rows p.2.delta = sym (ap (λ (z : State). z.rows) state') ∙ (p.2.leads ∙ ap (λ (rows : List Row). change_rows rows p.2.delta) before) in
    leads_same start (history ++ e ∷ []) r.copy s'.copy (r.pending ++ p.2.delta ∷ []) s'.pending p.2.copy p.2.pending
    (leads_more start history r.copy r.pending e p.2.delta (room_leads start history s r state number leads p.1) (room.counts ∙ number) after)

-- any other answer
made_leads : (start : State) (history : List Entry) (s s' : ShopView) → state_of s ≡ replay start history → s.number ≡ start.number + length history → LeadOn start history s.copy s.pending
    → (r : ShopView) × MakesRoom s r × StaysPublished r s' → LeadOn start history s'.copy s'.pending
made_leads start history s s' state number leads p = leads_same start history p.0.copy s'.copy p.0.pending s'.pending p.2.copy p.2.pending (room_leads start history s p.0 state number leads p.1)

pub fault_leads : (start : State) (history : List Entry) (s s' : ShopView) (fault : CommitFault) → state_of s ≡ replay start history → s.number ≡ start.number + length history → LeadOn start history s.copy s.pending
    → Publishes s (Err fault) s' → LeadOn start history s'.copy s'.pending
fault_leads start history s s' (faults.Refused rule) state number leads p = made_leads start history s s' state number leads p
fault_leads start history s s' faults.StoreFailed state number leads p = made_leads start history s s' state number leads p
fault_leads start history s s' faults.NoMemory state number leads p =
    ⊎_elim
    (λ (same : StaysPublished s s'). leads_same start history s.copy s'.copy s.pending s'.pending same.copy same.pending leads)
    (made_leads start history s s' state number leads)
    p
