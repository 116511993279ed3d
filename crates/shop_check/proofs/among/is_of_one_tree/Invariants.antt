use Rattle.std.proofs.Common.{◌≡◌, true, length}
use Rattle.std.specs.List.{list_all}
use Rattle.shop_operations.specs.References.{live}
use Rattle.shop_operations.specs.Upserts.{is_of_tree}
use Rattle.shop_check.specs.Found.{name_one_part}
use Rattle.shop_check.proofs.among.is_of_one_tree.Given as goal

abbrev pub invariant-loop-rest : goal.invariant-loop-rest
invariant-loop-rest g l = record {
  one : name_one_part l.rest ≡ true;
  all : list_all (λ reference. is_of_tree reference (live (g.O.Others.rows l.others)) l.row) l.rest ≡ list_all (λ reference. is_of_tree reference (live (g.O.Others.rows l.others)) l.row) l.table;
}

abbrev pub decreases-loop-rest : goal.decreases-loop-rest
decreases-loop-rest g l = length l.rest
