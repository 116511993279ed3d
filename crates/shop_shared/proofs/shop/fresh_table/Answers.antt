use Rattle.shop_shared.specs.declared.view.Opening.{Opening}
use Rattle.shop_shared.specs.Views.{new_master}
use Rattle.shop_shared.proofs.Beginning.{begins}
use Rattle.shop_shared.proofs.shop.fresh_table.Goals as goal

pub of_words-requires : goal.of_words-requires
of_words-requires g c =
    let k : Opening = record { rows = c.of.result; number = c.accepted-number.result } in
    (new_master k, begins k)
