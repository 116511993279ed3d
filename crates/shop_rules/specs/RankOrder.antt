-- The order in which rules count is a total order, in which a rule ties with itself alone.
use Rattle.std.specs.Cmp.{IsTotalOrder}
use Rattle.std.proofs.lemmas.Cmp.{nat_cmp_total, int_cmp_total, on_total, then_total, back_total}
use Rattle.shop_rules.specs.declared.ranked.Ranked.{Ranked}
use Rattle.shop_rules.specs.Ranking.{rank_cmp}

pub rank_cmp_total : IsTotalOrder rank_cmp
rank_cmp_total = then_total (on_total (λ (r : Ranked). r.priority) (back_total int_cmp_total)) (on_total (λ (r : Ranked). r.id) nat_cmp_total)
