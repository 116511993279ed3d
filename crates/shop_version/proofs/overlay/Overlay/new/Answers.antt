use Rattle.std.proofs.Common.{refl}
use Rattle.shop_version.proofs.Layers.{layer_found, view_found}
use Rattle.shop_version.proofs.overlay.Overlay.new.Goals as goal

pub invariant_of-result : goal.invariant_of-result
invariant_of-result c = rw (c.in_ok-own.ensures, c.in_ok-before.ensures) (layer_found c.args.rows.now.list c.args.version c.args.root c.requires.drafted.in_order c.requires.not_live)

pub returns-clause-layer : goal.returns-clause-layer
returns-clause-layer c = rw (c.in_ok-own.ensures, c.in_ok-before.ensures) refl

pub returns-clause-view : goal.returns-clause-view
returns-clause-view c = rw (c.in_ok-own.ensures, c.in_ok-before.ensures) (view_found c.args.rows.now.list c.args.version c.args.root)
