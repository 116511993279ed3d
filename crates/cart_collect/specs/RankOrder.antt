-- The order of ranks is a total order.
use Rattle.std.specs.Cmp.{IsTotalOrder}
use Rattle.std.proofs.lemmas.Cmp.{int_cmp_total, on_total, then_total, back_total}
use Rattle.shop_defs.proofs.Keys.{key_cmp_total}
use Rattle.cart_collect.specs.declared.ranks.Rank.{Rank}
use Rattle.cart_collect.specs.Ranks.{rank_cmp}

pub rank_cmp_total : IsTotalOrder rank_cmp
rank_cmp_total = then_total (on_total (λ (r : Rank). r.position) int_cmp_total) (then_total (on_total (λ (r : Rank). r.priority) (back_total int_cmp_total)) (on_total (λ (r : Rank). r.key) key_cmp_total))
