use Rattle.std.proofs.Common.{◌≡◌, ◌++◌, map, filter}
use Rattle.shop_defs.specs.Rows.{row_at}
use Rattle.shop_rows.specs.Paging.{rows_in}
use Rattle.shop_rows.specs.Searches.{passes, is_version_twin}
use Rattle.shop_rows.proofs.finding.keys_of_twins.Given as goal

abbrev pub invariant-loop-pair : goal.invariant-loop-pair
invariant-loop-pair l =
    l.keys.items ++ map (λ pair. pair.0.key) (filter (λ pair. passes (is_version_twin l.version l.row) (row_at (rows_in l.pages.rows) pair.0.key)) l.found)
    ≡ map (λ pair. pair.0.key) (filter (λ pair. passes (is_version_twin l.version l.row) (row_at (rows_in l.pages.rows) pair.0.key)) l.initial.found)
