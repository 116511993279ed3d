-- The laws of the order of keys.
use Rattle.std.specs.Cmp.{IsTotalOrder}
use Rattle.std.proofs.lemmas.Cmp.{on_total, then_total, nat_cmp_total}
use Rattle.shop_defs.specs.declared.key.Key.{Key}
use Rattle.shop_defs.specs.Keys.{key_cmp}
use Rattle.shop_defs.specs.Entities.{entity_number}

pub key_cmp_total : IsTotalOrder key_cmp
key_cmp_total =
    then_total (on_total (λ (k : Key). entity_number k.entity) nat_cmp_total)
    (then_total (on_total (λ (k : Key). k.version) nat_cmp_total)
    (then_total (on_total (λ (k : Key). k.id) nat_cmp_total) (on_total (λ (k : Key). k.second) nat_cmp_total)))
