-- The order of topics is a total order.
use Rattle.std.specs.Prelude.{◌≡◌, ℕ, refl}
use Rattle.std.proofs.Common.{ap, true≢false}
use Rattle.std.specs.declared.cmp.Ordering.TheVariants.{Less, Equal}
use Rattle.std.specs.Cmp.{IsTotalOrder}
use Rattle.std.specs.Ordering.{is_gt, is_lt, nat_cmp, ordering_then, ordering_reverse}
use Rattle.std.proofs.lemmas.Cmp.{nat_cmp_total, on_total, then_total}
use Rattle.shop_defs.specs.declared.entity.Entity.{Entity}
use Rattle.shop_defs.specs.Entities.{entity_number}
use Rattle.shop_rows.specs.declared.topic.Topic.{Topic}
use Rattle.shop_rows.specs.declared.topic.Topic.TheVariants as T
use Rattle.shop_rows.specs.Topics.{topic_cmp}

-- what a row refers to, as a record
pub record Referred : Type 0 where
  pub version : ℕ
  pub of : Entity
  pub id : ℕ

abbrev referred : ℕ → Entity → ℕ → Referred
referred version of id = record { version = version; of = of; id = id }

referred_total : IsTotalOrder (λ (a b : Referred). ordering_then (nat_cmp a.version b.version) (ordering_then (nat_cmp (entity_number a.of) (entity_number b.of)) (nat_cmp a.id b.id)))
referred_total =
    then_total (on_total (λ (r : Referred). r.version) nat_cmp_total)
    (then_total (on_total (λ (r : Referred). entity_number r.of) nat_cmp_total) (on_total (λ (r : Referred). r.id) nat_cmp_total))

topic_antisymm : (a b : Topic) → topic_cmp a b ≡ ordering_reverse (topic_cmp b a)
topic_antisymm (T.RefersTo v o n) (T.RefersTo w p m) = referred_total.antisymm (referred v o n) (referred w p m)
topic_antisymm (T.RefersTo v o n) (T.HasPrint q) = refl
topic_antisymm (T.HasPrint p) (T.RefersTo w o m) = refl
topic_antisymm (T.HasPrint p) (T.HasPrint q) = nat_cmp_total.antisymm p q

topic_trans : (a b c : Topic) → topic_cmp a b ≡ Less → topic_cmp b c ≡ Less → topic_cmp a c ≡ Less
topic_trans (T.RefersTo v o n) (T.RefersTo w p m) (T.RefersTo x q k) e f = referred_total.trans (referred v o n) (referred w p m) (referred x q k) e f
topic_trans (T.RefersTo v o n) (T.RefersTo w p m) (T.HasPrint r) e f = refl
topic_trans (T.RefersTo v o n) (T.HasPrint q) (T.RefersTo x p k) e f = absurd (true≢false (ap is_gt f))
topic_trans (T.RefersTo v o n) (T.HasPrint q) (T.HasPrint r) e f = refl
topic_trans (T.HasPrint p) (T.RefersTo w o m) c e f = absurd (true≢false (ap is_gt e))
topic_trans (T.HasPrint p) (T.HasPrint q) (T.RefersTo x o k) e f = absurd (true≢false (ap is_gt f))
topic_trans (T.HasPrint p) (T.HasPrint q) (T.HasPrint r) e f = nat_cmp_total.trans p q r e f

topic_congr : (a b c : Topic) → topic_cmp a b ≡ Equal → topic_cmp a c ≡ topic_cmp b c
topic_congr (T.RefersTo v o n) (T.RefersTo w p m) (T.RefersTo x q k) e = referred_total.congr (referred v o n) (referred w p m) (referred x q k) e
topic_congr (T.RefersTo v o n) (T.RefersTo w p m) (T.HasPrint r) e = refl
topic_congr (T.RefersTo v o n) (T.HasPrint q) c e = absurd (true≢false (ap is_lt e))
topic_congr (T.HasPrint p) (T.RefersTo w o m) c e = absurd (true≢false (ap is_gt e))
topic_congr (T.HasPrint p) (T.HasPrint q) (T.RefersTo x o k) e = refl
topic_congr (T.HasPrint p) (T.HasPrint q) (T.HasPrint r) e = nat_cmp_total.congr p q r e

pub topic_cmp_total : IsTotalOrder topic_cmp
topic_cmp_total = record { antisymm = topic_antisymm; trans = topic_trans; congr = topic_congr }
