use Rattle.std.proofs.Common.{sym, ◌∙◌}
use Rattle.shop_outside.proofs.Ascending.{ascends_from_test, test_from_ascends}
use Rattle.shop_outside.proofs.keeper.keys_ascend.Goals as goal

pub returns : goal.returns
returns c = let test = c.has_ascending_keys.ensures in (λ e. ascends_from_test c.args.changes.now (sym test ∙ e), λ up. test ∙ test_from_ascends c.args.changes.now up)
