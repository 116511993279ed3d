use Rattle.paged.specs.Paged.{all_pairs}
use Rattle.renewed.proofs.Refreshing.{set_order, set_values}
use Rattle.renewed.proofs.table.set.Goals as goal

pub returns-clause-order : goal.returns-clause-order
returns-clause-order g c = set_order (all_pairs c.args.pages.now) (all_pairs c.change.new.self) c.args.key c.args.value _ c.in_ok-leaf.ensures c.in_ok-change.ensures.ok c.requires.order

pub returns-clause-values : goal.returns-clause-values
returns-clause-values g c = set_values (all_pairs c.args.pages.now) (all_pairs c.change.new.self) c.args.key c.args.value _ c.in_ok-leaf.ensures c.in_ok-change.ensures.ok c.requires.order
