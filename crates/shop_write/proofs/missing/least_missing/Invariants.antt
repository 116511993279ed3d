use Rattle.std.proofs.Common.{◌≡◌, true, filter, length}
use Rattle.std.specs.List.{fold}
use Rattle.std.specs.Option.{option_copied}
use Rattle.shop_operations.specs.Upserts.{is_missing, least, lesser, reference_name, with_row}
use Rattle.shop_write.specs.Writes.{name_one_part}
use Rattle.shop_write.proofs.missing.least_missing.Given as goal

abbrev pub invariant-loop-rest : goal.invariant-loop-rest
invariant-loop-rest g l = record {
  one : name_one_part l.rest ≡ true;
  least : fold (lesser reference_name) (option_copied l.best) (filter (is_missing (with_row (g.V.View.seen l.view).rows l.row) l.op l.row) l.rest) ≡ least reference_name (filter (is_missing (with_row (g.V.View.seen l.view).rows l.row) l.op l.row) l.table);
}

abbrev pub decreases-loop-rest : goal.decreases-loop-rest
decreases-loop-rest g l = length l.rest
