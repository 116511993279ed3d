use Rattle.std.proofs.Common.{◌≡◌, ℕ, take}
use Rattle.paged.specs.Paged.{all_pairs}
use Rattle.renewed.specs.Showing.{InTableOrder, value_at, refreshed}
use Rattle.renewed.proofs.table.renew_all.Given as goal

abbrev pub invariant-loop-key : goal.invariant-loop-key
invariant-loop-key g l = record {
  order : InTableOrder (all_pairs l.pages);
  values : (at : ℕ) → value_at (all_pairs l.pages) at ≡ refreshed (g.M.Meaning.of l.after) (value_at (all_pairs l.initial.pages)) (take l.key-index (g.M.Meaning.keys_of l.touched)) at;
}
