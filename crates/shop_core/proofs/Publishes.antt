-- The published copy and the pending deltas of a shop, through the calls that change them.
use Rattle.std.proofs.Common.{◌≡◌, ℕ, zero, suc, ℤ, ◌+◌, ◌-◌, ◌≤◌, ◌<◌, ◌^◌, ◌⊎◌, inl, inr, List, [], ◌∷◌, ◌++◌, length, take, drop, Option, is_some, Result, Ok, Err, refl, sym, ap, subst, ◌∙◌, arith}
use Rattle.std.specs.Prelude.{OnErr, OnOk}
use Rattle.std.proofs.lemmas.List.{length-append, length-drop}
use Rattle.std.proofs.lemmas.List.Sums.{fold-append}
use Rattle.shop_defs.specs.declared.row.Row.{Row}
use Rattle.shop_defs.specs.Joined.{Change}
use Rattle.shop_defs.specs.Rows.{change_rows}
use Rattle.shop_requests.specs.declared.command.Command.{Command}
use Rattle.shop_outside.specs.declared.keeper.Kept.{Kept}
use Rattle.shop_rows.specs.Changing.{StandUnderTheirKeys}
use Rattle.shop_check.specs.Soundness.{AreSound}
use Rattle.idx_copy.specs.Copies.{CopyView}
use Rattle.idx_copy.specs.Fronts.{rows_after}
use Rattle.publishing.specs.Queues.{QueueView, IsQueue}
use Rattle.publishing.specs.Queues as queues
use Rattle.publishing.specs.declared.queue.Older.{Older}
use Rattle.publishing.proofs.Installing.{queue_more}
use Rattle.shop_core.specs.declared.answers.Done.{Done}
use Rattle.shop_core.specs.declared.answers.CommitFault.{CommitFault}
use Rattle.shop_core.specs.declared.answers.CommitFault.TheVariants as faults
use Rattle.shop_core.specs.History.{State}
use Rattle.shop_core.specs.Shops.{ShopView, IsShop, HoldsKept, state_of}
use Rattle.shop_core.specs.Publishing.{OnlyPublishes, StaysPublished, IsCaughtUp, CatchesUp, MakesRoom, AddsOne, IsInstalled, IsOlder, Installs}
use Rattle.shop_core.specs.Commits.{Steps, HasStoreCause, Adds, CarriesOut, Publishes, Commits}

-- ---- a commit

-- what is published after a command was looked at
published_by : (old ready now : ShopView) (result : Result Done CommitFault) → MakesRoom old ready → Adds ready result now → Publishes old result now
published_by old ready now (Ok done) room adds = (ready, room, adds)
published_by old ready now (Err (faults.Refused rule)) room adds = (ready, room, adds)
published_by old ready now (Err faults.StoreFailed) room adds = (ready, room, adds)
published_by old ready now (Err faults.NoMemory) room adds = inr (ready, room, adds)

-- room is made, and then a command is looked at
pub commits_ready : (old ready now : ShopView) (command : Command) (moment : ℤ) (result : Result Done CommitFault) → MakesRoom old ready → CarriesOut ready command moment result now → Commits old command moment result now
commits_ready old ready now command moment result room carried =
    let only = room.only in
    let state : state_of ready ≡ state_of old = λ i. record { rows = only.rows i; number = only.number i } in
    record {
      answer = subst (λ (s : State). Steps s command moment result (state_of now)) state carried.answer;
      cause = subst (λ (n : ℕ). HasStoreCause n now.faults result) only.faults carried.cause;
      content = subst (λ (c : Option Kept). OnErr result (now.content ≡ c)) only.content carried.content;
      told = carried.told ∙ ap is_some only.content;
      publishes = published_by old ready now result room carried.adds;
    }

-- no room is made for want of memory
pub commits_short : (old now : ShopView) (command : Command) (moment : ℤ) → now ≡ old → Commits old command moment (Err faults.NoMemory) now
commits_short old now command moment same = record {
  answer = ap state_of same;
  cause = ap (λ (v : ShopView). v.faults) same;
  content = ap (λ (v : ShopView). v.content) same;
  told = ap (λ (v : ShopView). is_some v.content) same;
  publishes = inl (record { copy = ap (λ (v : ShopView). v.copy) same; pending = ap (λ (v : ShopView). v.pending) same });
}

-- ---- one delta more

-- the same shop, with what its keeper tells now
pub stays_shop : (view : ShopView) (rows : List Row) (content : Option Kept) (faults : ℕ) (copy : CopyView) (pending : List (List Change)) → IsShop view
    → rows ≡ view.rows → copy ≡ view.copy → pending ≡ view.pending → HoldsKept content view.rows view.number
    → IsShop (record { rows = rows; number = view.number; content = content; faults = faults; copy = copy; pending = pending })
stays_shop view rows content faults copy pending is e f h holds =
    let same : ShopView = record { rows = view.rows; number = view.number; content = content; faults = faults; copy = view.copy; pending = view.pending } in
    let now : ShopView = record { rows = rows; number = view.number; content = content; faults = faults; copy = copy; pending = pending } in
    let back : same ≡ now = λ i. record { rows = sym e i; number = view.number; content = content; faults = faults; copy = sym f i; pending = sym h i } in
    subst IsShop back (record { sound = is.sound; kept = holds; number = is.number; queue = is.queue; leads = is.leads; counts = is.counts })

-- the front stays in its range
pub push_front : (view : ShopView) (copy : CopyView) (pending : List (List Change)) → IsShop view → copy ≡ view.copy → pending ≡ view.pending → view.number < 2 ^ 62 → copy.front + length pending + 1 < 2 ^ 63
push_front view copy pending is e f below =
    subst (λ (c : CopyView). c.front + length pending + 1 < 2 ^ 63) (sym e) (subst (λ (p : List (List Change)). view.copy.front + length p + 1 < 2 ^ 63) (sym f) (omega (arith, is.counts, below)))

-- the rows are sound after the delta
pub push_sound : (view : ShopView) (copy : CopyView) (pending : List (List Change)) (changes given : List Change) → IsShop view → copy ≡ view.copy → pending ≡ view.pending → given ≡ changes
    → AreSound (change_rows view.rows changes) → AreSound (change_rows (rows_after copy.rows pending) given)
push_sound view copy pending changes given is e f h sound =
    let at_end : rows_after copy.rows pending ≡ view.rows = ap (λ (c : CopyView). rows_after c.rows pending) e ∙ (ap (rows_after view.copy.rows) f ∙ is.leads) in
    let same : change_rows view.rows changes ≡ change_rows (rows_after copy.rows pending) given = λ i. change_rows (sym at_end i) (sym h i) in
    subst AreSound same sound

grown_at : (view : ShopView) (changes : List Change) (content : Option Kept) (faults : ℕ) → IsShop view → StandUnderTheirKeys changes → AreSound (change_rows view.rows changes) → view.number < 2 ^ 62
    → HoldsKept content (change_rows view.rows changes) (view.number + 1)
    → IsShop (record { rows = change_rows view.rows changes; number = view.number + 1; content = content; faults = faults; copy = view.copy; pending = view.pending ++ changes ∷ [] })
grown_at view changes content faults is keys sound below holds =
    let queue : QueueView = record { copy = view.copy; pending = view.pending; room = 0 } in
    let last = push_sound view view.copy view.pending changes changes is refl refl refl sound in
    let front = push_front view view.copy view.pending is refl refl below in
    record {
      sound = sound;
      kept = holds;
      number = omega (arith, below);
      queue = queue_more queue queue changes (view.pending ++ changes ∷ []) refl is.queue keys last front refl;
      leads = fold-append change_rows view.copy.rows view.pending (changes ∷ []) ∙ ap (λ (r : List Row). change_rows r changes) is.leads;
      counts = omega (arith, is.counts, length-append view.pending (changes ∷ []));
    }

-- the shop after an accepted command
pub grown_shop : (view : ShopView) (rows : List Row) (content : Option Kept) (faults : ℕ) (copy : CopyView) (pending : List (List Change)) (changes : List Change) → IsShop view
    → rows ≡ change_rows view.rows changes → copy ≡ view.copy → pending ≡ view.pending ++ changes ∷ []
    → StandUnderTheirKeys changes → AreSound (change_rows view.rows changes) → view.number < 2 ^ 62 → HoldsKept content (change_rows view.rows changes) (view.number + 1)
    → IsShop (record { rows = rows; number = view.number + 1; content = content; faults = faults; copy = copy; pending = pending })
grown_shop view rows content faults copy pending changes is e f h keys sound below holds =
    let grown : ShopView = record { rows = change_rows view.rows changes; number = view.number + 1; content = content; faults = faults; copy = view.copy; pending = view.pending ++ changes ∷ [] } in
    let now : ShopView = record { rows = rows; number = view.number + 1; content = content; faults = faults; copy = copy; pending = pending } in
    let back : grown ≡ now = λ i. record { rows = sym e i; number = view.number + 1; content = content; faults = faults; copy = sym f i; pending = sym h i } in
    subst IsShop back (grown_at view changes content faults is keys sound below holds)

-- ---- catching up

no_items : {X : Type 0} (xs : List X) → length xs ≡ 0 → xs ≡ []
no_items [] e = refl
no_items (x ∷ xs) e = absurd (omega (arith, e))

-- where nothing is pending, the copy is that after all entries
pub already_caught : (view : ShopView) → IsShop view → length view.pending ≡ 0 → CatchesUp view view
already_caught view is none =
    let empty = no_items view.pending none in
    record {
      only = record { rows = refl; number = refl; content = refl; faults = refl };
      caught = record {
        front = omega (arith, is.counts, none);
        rows = sym (ap (rows_after view.copy.rows) empty) ∙ is.leads;
        pending = empty;
      };
    }

-- all pending deltas are taken in
pub caught_up : (view : ShopView) (copy : CopyView) (pending : List (List Change)) → IsShop view → copy.front ≡ view.copy.front + length view.pending → copy.rows ≡ rows_after view.copy.rows view.pending → pending ≡ []
    → CatchesUp view (record { rows = view.rows; number = view.number; content = view.content; faults = view.faults; copy = copy; pending = pending })
caught_up view copy pending is front rows none = record {
  only = record { rows = refl; number = refl; content = refl; faults = refl };
  caught = record { front = front ∙ is.counts; rows = rows ∙ is.leads; pending = none };
}

-- a shop again
pub caught_shop : (view : ShopView) (copy : CopyView) (pending : List (List Change)) → IsShop view → IsQueue copy pending → copy.front ≡ view.copy.front + length view.pending
    → copy.rows ≡ rows_after view.copy.rows view.pending → pending ≡ []
    → IsShop (record { rows = view.rows; number = view.number; content = view.content; faults = view.faults; copy = copy; pending = pending })
caught_shop view copy pending is queue front rows none = record {
  sound = is.sound;
  kept = is.kept;
  number = is.number;
  queue = queue;
  leads = ap (rows_after copy.rows) none ∙ (rows ∙ is.leads);
  counts = omega (arith, front, is.counts, ap length none);
}

-- ---- installing

-- what an install leaves of the queue is what it leaves of the shop
pub installs_so : (view : ShopView) (old new : QueueView) (built : CopyView) (result : Result ℕ Older) → old.copy ≡ view.copy → old.pending ≡ view.pending → queues.Installs old built result new
    → Installs view built result (record { rows = view.rows; number = view.number; content = view.content; faults = view.faults; copy = new.copy; pending = new.pending })
installs_so view old new built (Ok front) e f h = (
  h.0,
  record {
    above = subst (λ (c : CopyView). c.front < built.front) e h.1.above;
    copy = h.1.copy;
    pending = h.1.pending ∙ (λ i. drop (built.front - (e i).front) (f i));
    only = record { rows = refl; number = refl; content = refl; faults = refl };
  },
)
installs_so view old new built (Err older) e f h = record {
  below = subst (λ (c : CopyView). built.front ≤ c.front) e h.below;
  mine = h.mine;
  published = h.published ∙ ap (λ (c : CopyView). c.front) e;
  stays = λ i. record { rows = view.rows; number = view.number; content = view.content; faults = view.faults; copy = (ap (λ (q : QueueView). q.copy) h.stays ∙ e) i; pending = (ap (λ (q : QueueView). q.pending) h.stays ∙ f) i };
}

-- the same rows stand at its end, and it has as many entries
ends_so : (old new : QueueView) (built : CopyView) (result : Result ℕ Older) → built.front ≤ old.copy.front + length old.pending → queues.Installs old built result new
    → (rows_after new.copy.rows new.pending ≡ rows_after old.copy.rows old.pending) × (new.copy.front + length new.pending ≡ old.copy.front + length old.pending)
ends_so old new built (Ok front) within h =
    let left : length new.pending ≡ length old.pending - (built.front - old.copy.front) = ap length h.1.pending ∙ length-drop (built.front - old.copy.front) old.pending in
    let mine : new.copy.front ≡ built.front = ap (λ (c : CopyView). c.front) h.1.copy in
    (h.1.leads, omega (arith, left, mine, within, h.1.above))
ends_so old new built (Err older) within h = (ap (λ (q : QueueView). rows_after q.copy.rows q.pending) h.stays, ap (λ (q : QueueView). q.copy.front + length q.pending) h.stays)

pub installed_shop : (view : ShopView) (old new : QueueView) (built : CopyView) (result : Result ℕ Older) → IsShop view → old.copy ≡ view.copy → old.pending ≡ view.pending → built.front ≤ view.number
    → IsQueue new.copy new.pending → queues.Installs old built result new
    → IsShop (record { rows = view.rows; number = view.number; content = view.content; faults = view.faults; copy = new.copy; pending = new.pending })
installed_shop view old new built result is e f within queue h =
    let led : rows_after old.copy.rows old.pending ≡ view.rows = (λ i. rows_after (e i).rows (f i)) ∙ is.leads in
    let counted : old.copy.front + length old.pending ≡ view.number = (λ i. (e i).front + length (f i)) ∙ is.counts in
    let ends = ends_so old new built result (omega (arith, within, counted)) h in
    record {
      sound = is.sound;
      kept = is.kept;
      number = is.number;
      queue = queue;
      leads = ends.0 ∙ led;
      counts = ends.1 ∙ counted;
    }

-- ---- after a write

-- the shop has caught up, or memory ran out for it and nothing changed
pub caught_or_not : {X E : Type 0} (old now : ShopView) (r : Result X E) → OnOk r (CatchesUp old now) → OnErr r (now ≡ old) → CatchesUp old now ⊎ (now ≡ old)
caught_or_not old now (Ok x) caught same = inl caught
caught_or_not old now (Err e) caught same = inr same
