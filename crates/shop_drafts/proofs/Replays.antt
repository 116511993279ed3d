-- A merge is a replay.
use Rattle.std.proofs.Common.{◌≡◌, ℕ, suc, Bool, true, false, not, List, [], ◌∷◌, ◌++◌, refl, sym, ap, ◌∙◌, Option, Some, None}
use Rattle.std.specs.Prelude.{filter, is_some, if◌then◌else◌, Result, Ok, Err}
use Rattle.shop_defs.specs.declared.broken.Broken.{Broken}
use Rattle.shop_defs.specs.declared.broken.Broken.TheVariants as B
use Rattle.shop_defs.specs.Rows.{row_at}
use Rattle.shop_drafts.specs.Drafts.{draft_key}
use Rattle.shop_defs.specs.declared.op.Op.{Op}
use Rattle.shop_defs.specs.declared.op.OpKind.{OpKind}
use Rattle.shop_defs.specs.declared.op.OpKind.TheVariants.{Upsert, Delete}
use Rattle.shop_requests.specs.declared.raw.RawOp.{RawOp}
use Rattle.shop_defs.specs.declared.row.Row.{Row}
use Rattle.shop_requests.specs.Operations.{reading}
use Rattle.shop_soundness.specs.Batches.{batch, done, if_read, numbered}
use Rattle.shop_operations.specs.Operations.{operated, by_kind, removed, place}
use Rattle.shop_operations.specs.Upserts.{row_in}
use Rattle.shop_operations.specs.Views.{View, live_view}
use Rattle.shop_drafts.specs.Laws.{and_then}
use Rattle.shop_drafts.specs.Making.{is_of_draft, dropped}
use Rattle.shop_drafts.specs.Merging.{Logged, logged_from, log, replayed, named_by, merge, merged_with, with_live}
use Rattle.shop_drafts.specs.Writing.{read_all}

pub in_turn : (view : View) (before after : List Logged) → replayed view (before ++ after) ≡ and_then (replayed view before) (λ rows. replayed (record view { rows = rows }) after)
in_turn view [] after = refl
in_turn view (entry ∷ before) after = by (λ rows. in_turn (record view { rows = rows }) before after) (operated view entry.op true)
  where
    by : ((rows : List Row) → replayed (record view { rows = rows }) (before ++ after) ≡ and_then (replayed (record view { rows = rows }) before) (λ rows. replayed (record view { rows = rows }) after)) → (done : Result (List Row) Broken) → named_by entry done (λ rows. replayed (record view { rows = rows }) (before ++ after)) ≡ and_then (named_by entry done (λ rows. replayed (record view { rows = rows }) before)) (λ rows. replayed (record view { rows = rows }) after)
    by more (Err broken) = refl
    by more (Ok rows) = more rows

-- what is accepted is accepted in a replay
as_replayed : (view : View) (op : Op) (rows : List Row) → operated view op false ≡ Ok rows → operated view op true ≡ Ok rows
unfolding operated
as_replayed view op rows e = kind op.kind e
  where
    there : (found : Option Row) → removed view op false found ≡ Ok rows → removed view op true found ≡ Ok rows
    there None f = cc
    there (Some row) f = f

    kind : (k : OpKind) → by_kind view op false k ≡ Ok rows → by_kind view op true k ≡ Ok rows
    kind Upsert f = f
    kind Delete f = there (row_in view.rows (place view op)) f

pub as_batches : (view : View) (number commit : ℕ) (ops : List RawOp) (now : List Row) → batch view number ops ≡ Ok now → (from : ℕ) → replayed view (logged_from commit from (read_all ops)) ≡ Ok now
as_batches view number commit [] now e from = let same : view.rows ≡ now = cc in ap Ok same
as_batches view number commit (op ∷ rest) now e from = read (λ rows. as_batches (record view { rows = rows }) (suc number) commit rest now) (reading op) refl
  where
    left : (result : Result (List Row) Broken) → done view op ≡ result → numbered number result (λ rows. batch (record view { rows = rows }) (suc number) rest) ≡ Ok now
    left result d = sym (ap (λ (r : Result (List Row) Broken). numbered number r (λ rows. batch (record view { rows = rows }) (suc number) rest)) d) ∙ e

    done_is : ((rows : List Row) → batch (record view { rows = rows }) (suc number) rest ≡ Ok now → (from : ℕ) → replayed (record view { rows = rows }) (logged_from commit from (read_all rest)) ≡ Ok now) → (one : Op) → reading op ≡ Ok one → (result : Result (List Row) Broken) → operated view one false ≡ result → replayed view (logged_from commit from (one ∷ read_all rest)) ≡ Ok now
    done_is more one f (Ok rows) g =
        ap (λ (r : Result (List Row) Broken). named_by (record { commit = commit; number = from; op = one }) r (λ rows. replayed (record view { rows = rows }) (logged_from commit (suc from) (read_all rest)))) (as_replayed view one rows g)
        ∙ more rows (left (Ok rows) (ap (if_read view) f ∙ g)) (suc from)
    done_is more one f (Err broken) g = let refused : Err (record { op = number; broken = broken }) ≡ Ok now = left (Err broken) (ap (if_read view) f ∙ g) in cc

    read : ((rows : List Row) → batch (record view { rows = rows }) (suc number) rest ≡ Ok now → (from : ℕ) → replayed (record view { rows = rows }) (logged_from commit from (read_all rest)) ≡ Ok now) → (r : Result Op Broken) → reading op ≡ r → replayed view (logged_from commit from (read_all (op ∷ rest))) ≡ Ok now
    read more (Ok one) f =
        let same : read_all (op ∷ rest) ≡ one ∷ read_all rest = rw f refl in
        ap (λ ops. replayed view (logged_from commit from ops)) same ∙ done_is more one f (operated view one false) refl
    read more (Err broken) f = let refused : Err (record { op = number; broken = broken }) ≡ Ok now = left (Err broken) (ap (if_read view) f) in cc

-- what fails a test isn't among those that pass it
pub none_left : {X : Type 0} (p : X → Bool) (xs : List X) → filter p (filter (λ x. not (p x)) xs) ≡ []
none_left p [] = refl
none_left {X} p (x ∷ xs) = by (none_left p xs) (p x) refl
  where
    by : filter p (filter (λ y. not (p y)) xs) ≡ [] → (b : Bool) → p x ≡ b → filter p (filter (λ y. not (p y)) (x ∷ xs)) ≡ []
    by more true e = rw e more
    by more false e = rw (e, e) more

pub gone : (rows after : List Row) (version : ℕ) → merge rows version ≡ Ok after → filter (is_of_draft version) after ≡ []
unfolding merge dropped
gone rows after version e = there (is_some (row_at rows (draft_key version))) e
  where
    by : (result : Result (List Row) Broken) → merged_with rows version result ≡ Ok after → filter (is_of_draft version) after ≡ []
    by (Ok now) f =
        let same : filter (λ row. not (is_of_draft version row)) (with_live rows now) ≡ after = cc in
        ap (filter (is_of_draft version)) (sym same) ∙ none_left (is_of_draft version) (with_live rows now)
    by (Err broken) f = cc

    there : (b : Bool) → (if b then merged_with rows version (replayed (live_view rows) (log rows version)) else Err (B.NoSuchVersion version)) ≡ Ok after → filter (is_of_draft version) after ≡ []
    there true f = by (replayed (live_view rows) (log rows version)) f
    there false f = cc
