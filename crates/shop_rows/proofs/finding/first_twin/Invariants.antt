use Rattle.std.proofs.Common.{◌≡◌, map, find}
use Rattle.paged.specs.Pairs.{key_of}
use Rattle.shop_rows.specs.Mentions.{rows_of}
use Rattle.shop_rows.specs.Paging.{rows_in}
use Rattle.shop_rows.specs.Searches.{is_version_twin}
use Rattle.shop_rows.proofs.finding.first_twin.Given as goal

abbrev pub invariant-loop-pair : goal.invariant-loop-pair
invariant-loop-pair l = find (is_version_twin l.version l.row) (rows_of (rows_in l.pages.rows) (map key_of l.found)) ≡ find (is_version_twin l.version l.row) (rows_of (rows_in l.pages.rows) (map key_of l.initial.found))
