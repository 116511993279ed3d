use Rattle.std.proofs.Common.{◌≡◌, true, List, sym, subst}
use Rattle.shop_defs.specs.declared.row.Row.{Row}
use Rattle.shop_check.specs.Found.{are_formed}
use Rattle.shop_check.proofs.Entries.{seen_formed}
use Rattle.shop_check.proofs.check.earlier_damage.Goals as goal

pub first_among_ordered-requires-clause-formed : goal.first_among_ordered-requires-clause-formed
first_among_ordered-requires-clause-formed c = subst (λ (rows : List Row). are_formed rows ≡ true) (sym c.in_ok-rows.ensures) (seen_formed c.args.kept.now)

pub first_broken-earlier-requires-clause-formed : goal.first_broken-earlier-requires-clause-formed
first_broken-earlier-requires-clause-formed c = subst (λ (rows : List Row). are_formed rows ≡ true) (sym c.in_ok-rows.ensures) (seen_formed c.args.kept.now)
