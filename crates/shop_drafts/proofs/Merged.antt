-- What a merge leaves in live, and a merge right after making.
use Rattle.std.proofs.Common.{◌≡◌, ℕ, Bool, true, false, not, List, [], ◌∷◌, refl, sym, ap, subst, ◌∙◌, Option, Some, None, if◌then◌else◌}
use Rattle.std.specs.Prelude.{filter, is_some, Result, Ok, Err}
use Rattle.std.specs.List.{fold, AllByRecursion}
use Rattle.std.proofs.lemmas.Bool.{eq-eqb}
use Rattle.keyed.specs.Keyed.{put}
use Rattle.shop_defs.specs.declared.broken.Broken.{Broken}
use Rattle.shop_defs.specs.declared.broken.Broken.TheVariants as B
use Rattle.shop_defs.specs.declared.op.Op.{Op}
use Rattle.shop_defs.specs.declared.op.OpKind.{OpKind}
use Rattle.shop_defs.specs.declared.op.OpKind.TheVariants.{Upsert, Delete}
use Rattle.shop_defs.specs.declared.row.Row.{Row}
use Rattle.shop_defs.specs.declared.table.TheConstants.{REFERENCES}
use Rattle.shop_defs.specs.Keys.{key_cmp}
use Rattle.shop_defs.specs.Rows.{row_key, row_at, IsInKeyOrder}
use Rattle.shop_defs.proofs.Keys.{key_cmp_total}
use Rattle.shop_operations.specs.Deletes.{deleted, in_use}
use Rattle.shop_operations.specs.Operations.{operated, by_kind, removed, place, in_use_by}
use Rattle.shop_operations.specs.References.{is_live, live}
use Rattle.shop_operations.specs.Upserts.{row_in, left}
use Rattle.shop_operations.specs.Views.{View, live_view, drafted, IsInPlaceOrder}
use Rattle.shop_soundness.proofs.Accepted.{same_rows, accepted}
use Rattle.shop_soundness.proofs.InOrder.{ascends_filter, upsert_in_order, delete_in_order}
use Rattle.shop_drafts.specs.Drafts.{draft_key}
use Rattle.shop_drafts.specs.Making.{is_of_draft, dropped}
use Rattle.shop_drafts.specs.Merging.{Logged, log, replayed, named_by, merge, merged_with, with_live}
use Rattle.shop_drafts.specs.Laws.{IsReplay, MergesAreReplays}
use Rattle.shop_drafts.proofs.Replays.{in_turn, as_batches, gone}
use Rattle.shop_drafts.proofs.AtOnce.{at_once}
use Rattle.shop_drafts.proofs.Logs.{logs}
use Rattle.shop_drafts.proofs.Orders.{filter_puts_pass, puts_of_all}
use Rattle.shop_drafts.proofs.Apart.{AllLive, live_is, filter_swap, replayed_live}
use Rattle.shop_drafts.proofs.Shown.{live_in_order, as_key_order}

-- ---- the order of what a replay leaves

op_in_order : (view : View) (op : Op) (rows : List Row) → IsInPlaceOrder view.rows → operated view op true ≡ Ok rows → IsInPlaceOrder rows
unfolding operated
op_in_order view op rows up e = by op.kind e
  where
    found : (row : Option Row) → removed view op true row ≡ Ok rows → IsInPlaceOrder rows
    found None f = let same : view.rows ≡ rows = cc in subst IsInPlaceOrder same up
    found (Some row) f =
        let same = same_rows (deleted REFERENCES view.rows (place view op)) rows (in_use_by (in_use REFERENCES view.rows (place view op))) f in
        subst IsInPlaceOrder same.1 (delete_in_order view.rows (place view op) up)

    by : (kind : OpKind) → by_kind view op true kind ≡ Ok rows → IsInPlaceOrder rows
    by Upsert f = subst IsInPlaceOrder (accepted view op rows f).rows_are (upsert_in_order view.rows (left view.rows (place view op) op) up)
    by Delete f = found (row_in view.rows (place view op)) f

pub replayed_in_order : (view : View) (entries : List Logged) (now : List Row) → IsInPlaceOrder view.rows → replayed view entries ≡ Ok now → IsInPlaceOrder now
replayed_in_order view [] now up e = let same : view.rows ≡ now = cc in subst IsInPlaceOrder same up
replayed_in_order view (entry ∷ rest) now up e = by (λ rows. replayed_in_order (record view { rows = rows }) rest now) (operated view entry.op true) refl e
  where
    by : ((rows : List Row) → IsInPlaceOrder rows → replayed (record view { rows = rows }) rest ≡ Ok now → IsInPlaceOrder now) → (result : Result (List Row) Broken) → operated view entry.op true ≡ result
        → named_by entry result (λ rows. replayed (record view { rows = rows }) rest) ≡ Ok now → IsInPlaceOrder now
    by more (Err broken) f g = cc
    by more (Ok rows) f g = more rows (op_in_order view entry.op rows up f) g

-- ---- what a merge leaves in live

are_live : (rows : List Row) → AllLive rows → AllByRecursion (λ row. is_live row ≡ true) rows
are_live [] all = tt
are_live (row ∷ rows) all = (eq-eqb row.key.version 0 all.0, are_live rows all.1)

none_live : (rows : List Row) → live (drafted rows) ≡ []
none_live [] = refl
none_live (row ∷ rows) = by (none_live rows) (is_live row) refl
  where
    by : live (drafted rows) ≡ [] → (b : Bool) → is_live row ≡ b → live (drafted (row ∷ rows)) ≡ []
    by more true e = rw e more
    by more false e = rw (e, e) more

pub live_of_parts : (rows now : List Row) → IsInKeyOrder rows → AllLive now → IsInPlaceOrder now → live (with_live rows now) ≡ now
live_of_parts rows now up all on =
    filter_puts_pass key_cmp row_key key_cmp_total is_live now (drafted rows) (ascends_filter key_cmp row_key (λ row. not (is_live row)) rows up) (are_live now all)
    ∙ (ap (λ (first : List Row). fold (put key_cmp row_key) first now) (none_live rows)
    ∙ puts_of_all key_cmp row_key key_cmp_total now (as_key_order now all on))

pub live_rows : (rows after : List Row) (version : ℕ) → IsInKeyOrder rows → merge rows version ≡ Ok after → IsReplay rows version (live after)
unfolding merge dropped
live_rows rows after version up e = there (is_some (row_at rows (draft_key version))) e
  where
    by : (result : Result (List Row) Broken) → replayed (live_view rows) (log rows version) ≡ result → merged_with rows version result ≡ Ok after → IsReplay rows version (live after)
    by (Ok now) g f =
        let same : dropped (with_live rows now) version ≡ after = cc in
        let left : live after ≡ dropped now version =
        ap live (sym same)
        ∙ (filter_swap is_live (λ row. not (is_of_draft version row)) (with_live rows now)
        ∙ ap (filter (λ row. not (is_of_draft version row))) (live_of_parts rows now up (replayed_live (live_view rows) (log rows version) now refl (live_is rows) g) (replayed_in_order (live_view rows) (log rows version) now (live_in_order rows up) g))) in
        record { now = now; replay = g; left = left }
    by (Err broken) g f = cc

    there : (b : Bool) → (if b then merged_with rows version (replayed (live_view rows) (log rows version)) else Err (B.NoSuchVersion version)) ≡ Ok after → IsReplay rows version (live after)
    there true f = by (replayed (live_view rows) (log rows version)) refl f
    there false f = cc

pub merges_are_replays : MergesAreReplays
merges_are_replays = record { in_turn = in_turn; as_batches = as_batches; logs = logs; live_rows = live_rows; at_once = at_once; gone = gone }
