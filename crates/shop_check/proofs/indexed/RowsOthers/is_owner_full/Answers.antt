use Rattle.std.proofs.Common.{◌≡◌, ◌≤◌, ℕ, Bool, true, false, refl, sym, ◌∙◌, arith}
use Rattle.std.specs.Prelude.{not, nat_lt}
use Rattle.std.proofs.lemmas.Bool.Decides.{nat_tests}
use Rattle.shop_operations.specs.References.{live}
use Rattle.shop_rows.specs.Owners.{count_owned}
use Rattle.shop_check.proofs.Counted.{full_up, owner_not_full, no_owner_full}
use Rattle.shop_check.proofs.indexed.RowsOthers.is_owner_full.Goals as goal

same_entity : (b : Bool) → false ≡ not b → b ≡ true
same_entity true e = refl
same_entity false e = cc

not_above : (most n : ℕ) → n ≤ most → nat_lt most n ≡ false
not_above most n few = grind (arith, nat_tests)

pub returns-then-count_owned-limit : goal.returns-then-count_owned-limit
returns-then-count_owned-limit c =
    full_up c.args.self.now.list c.iter.result c.args.row.now c.args.limit.now c.count_owned_up_to.result (same_entity _ c.if-ne.ensures) c.iter.ensures.rows c.count_owned_up_to.ensures

pub returns-else-count_owned-limit : goal.returns-else-count_owned-limit
returns-else-count_owned-limit c =
    let few : count_owned c.args.limit.now (live c.args.self.now.list) c.in-Some.owner ≤ c.args.limit.now.most = omega (arith, c.count_owned.ensures, c.if-count_owned-limit.false) in
    not_above c.args.limit.now.most c.count_owned.result c.if-count_owned-limit.false ∙ owner_not_full c.args.self.now.list c.args.row.now c.args.limit.now c.in-Some.owner (sym c.in-Some.ensures) few

pub returns-in-None : goal.returns-in-None
returns-in-None c = no_owner_full c.args.self.now.list c.args.row.now c.args.limit.now (sym c.in-None.ensures)
