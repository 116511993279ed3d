-- The order of keys.
use Rattle.std.specs.declared.cmp.Ordering.{Ordering}
use Rattle.std.specs.Ordering.{nat_cmp, ordering_then}
use Rattle.shop_defs.specs.declared.key.Key.{Key}
use Rattle.shop_defs.specs.Entities.{entity_number}

-- by entity number, version, id and second part
abbrev pub key_cmp : Key → Key → Ordering
key_cmp a b =
    ordering_then (nat_cmp (entity_number a.entity) (entity_number b.entity))
    (ordering_then (nat_cmp a.version b.version)
    (ordering_then (nat_cmp a.id b.id) (nat_cmp a.second b.second)))
