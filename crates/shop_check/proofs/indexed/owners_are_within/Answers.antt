use Rattle.std.proofs.Common.{List, ap, ◌∙◌}
use Rattle.std.specs.List.{list_all}
use Rattle.shop_defs.specs.declared.row.Row.{Row}
use Rattle.shop_defs.specs.declared.table.TheConstants.{OWNER_LIMITS}
use Rattle.shop_check.specs.Found.{is_within, owners_are_within}
use Rattle.shop_check.proofs.indexed.owners_are_within.Goals as goal

pub returns : goal.returns
unfolding owners_are_within
returns c = c.are_all_within.ensures ∙ ap (λ (owners : List Row). list_all (λ owner. list_all (is_within c.args.rows.now.list owner) OWNER_LIMITS) owners) c.iter.ensures.rows
