-- What a draft shows is a view that operations may be done on.
use Rattle.std.proofs.Common.{◌≡◌, ℕ, suc, true, false, Bool, inl, inr, List, [], ◌∷◌, refl, ap, ◌∙◌, Option, Some, None}
use Rattle.std.specs.Prelude.{filter, ◌==◌, Result, Ok, Err}
use Rattle.std.specs.List.{fold}
use Rattle.closure.specs.Closure.{IsIn}
use Rattle.closure.proofs.Members.{all_at, all_from, of_filter}
use Rattle.shop_defs.specs.declared.broken.Broken.{Broken}
use Rattle.shop_defs.specs.declared.key.Key.{Key}
use Rattle.shop_defs.specs.declared.op.Op.{Op}
use Rattle.shop_defs.specs.declared.row.Row.{Row}
use Rattle.shop_defs.specs.Fitting.{row_key_fits}
use Rattle.shop_defs.specs.Rows.{row_key, IsInKeyOrder}
use Rattle.shop_requests.specs.declared.raw.RawOp.{RawOp}
use Rattle.shop_requests.specs.Operations.{reading}
use Rattle.shop_operations.specs.Operations.{operated}
use Rattle.shop_operations.specs.References.{is_live, live, of_version}
use Rattle.shop_operations.specs.Upserts.{place_cmp, with_row}
use Rattle.shop_operations.specs.Views.{View, IsInPlaceOrder}
use Rattle.shop_soundness.specs.Batches.{batch, done, if_read, numbered}
use Rattle.shop_soundness.proofs.InOrder.{ascends_filter, upsert_formed}
use Rattle.shop_soundness.proofs.Places.{AreFormed, place_cmp_total}
use Rattle.shop_drafts.specs.Drafts.{is_open, over}
use Rattle.shop_drafts.specs.Writing.{batch_in, done_in, if_read_in, not_versioned, unless_not_versioned, unless_outside, outside}
use Rattle.shop_drafts.specs.Laws.{DraftsAreViews}
use Rattle.shop_drafts.specs.declared.aggregate.Root.{Root}
use Rattle.shop_drafts.proofs.Orders.{ascends_puts}
use Rattle.shop_drafts.proofs.Shown.{live_in_order}

in_order : (rows : List Row) (version : ℕ) (root : Root) → IsInKeyOrder rows → IsInPlaceOrder (over rows version root)
unfolding over
in_order rows version root up =
    let own = of_version version rows in
    ascends_puts place_cmp row_key place_cmp_total own (filter (is_open root own) (live rows))
    (ascends_filter place_cmp row_key (is_open root own) (live rows) (live_in_order rows up))

formed_filter : (p : Row → Bool) (rows : List Row) → AreFormed rows → AreFormed (filter p rows)
formed_filter p rows keys = all_from (λ row. row_key_fits row.key) (filter p rows) (λ row i. all_at (λ r. row_key_fits r.key) rows row keys (of_filter p rows row i).is_in)

formed_with : (own rows : List Row) → ((row : Row) → IsIn row own → row_key_fits row.key ≡ true) → AreFormed rows → AreFormed (fold with_row rows own)
formed_with [] rows fits keys = keys
formed_with (row ∷ own) rows fits keys = formed_with own (with_row rows row) (λ r i. fits r (inr i)) (upsert_formed rows row keys (fits row (inl refl)))

formed : (rows : List Row) (version : ℕ) (root : Root) → AreFormed rows → AreFormed (over rows version root)
unfolding over
formed rows version root keys =
    let own = of_version version rows in
    formed_with own (filter (is_open root own) (live rows)) (λ row i. all_at (λ r. row_key_fits r.key) own row (formed_filter (λ r. r.key.version == version) rows keys) i)
    (formed_filter (is_open root own) (live rows) (formed_filter is_live rows keys))

-- an operation that is accepted in a draft is accepted in the view
as_done : (root : Root) (view : View) (op : RawOp) (now : List Row) → done_in root view op ≡ Ok now → done view op ≡ Ok now
as_done root view op now e = by (reading op) e
  where
    last : (one : Op) (key : Option Key) → unless_outside view one key ≡ Ok now → operated view one false ≡ Ok now
    last one None f = f
    last one (Some key) f = cc

    versioned : (one : Op) (broken : Option Broken) → unless_not_versioned root view one broken ≡ Ok now → operated view one false ≡ Ok now
    versioned one None f = last one (outside root view one one.kind) f
    versioned one (Some broken) f = cc

    by : (r : Result Op Broken) → if_read_in root view r ≡ Ok now → if_read view r ≡ Ok now
    by (Ok one) f = versioned one (not_versioned one) f
    by (Err broken) f = cc

as_batches : (root : Root) (view : View) (number : ℕ) (ops : List RawOp) (now : List Row) → batch_in root view number ops ≡ Ok now → batch view number ops ≡ Ok now
as_batches root view number [] now e = e
as_batches root view number (op ∷ rest) now e = by (λ rows. as_batches root (record view { rows = rows }) (suc number) rest now) (done_in root view op) refl e
  where
    by : ((rows : List Row) → batch_in root (record view { rows = rows }) (suc number) rest ≡ Ok now → batch (record view { rows = rows }) (suc number) rest ≡ Ok now)
        → (r : Result (List Row) Broken) → done_in root view op ≡ r → numbered number r (λ rows. batch_in root (record view { rows = rows }) (suc number) rest) ≡ Ok now → batch view number (op ∷ rest) ≡ Ok now
    by more (Err broken) f g = cc
    by more (Ok rows) f g = ap (λ (r : Result (List Row) Broken). numbered number r (λ rows. batch (record view { rows = rows }) (suc number) rest)) (as_done root view op rows f) ∙ more rows g

pub drafts_are_views : DraftsAreViews
drafts_are_views = record { in_order = in_order; formed = formed; as_batches = as_batches }
