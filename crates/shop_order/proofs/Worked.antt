-- The day of a shop, computed.
use Rattle.std.proofs.Common.{refl}
use Rattle.shop_operations.specs.References.{refers_at}
use Rattle.shop_order.specs.Adjusting.{adjust, adjusting_breaks}
use Rattle.shop_order.specs.Held.{held}
use Rattle.shop_order.specs.Placing.{breaks_before, breaks, place}
use Rattle.shop_order.specs.Steps.{step}
use Rattle.shop_order.specs.WorkedRows.{TheDay}

pub the_day : TheDay
unfolding refers_at adjust adjusting_breaks held breaks_before breaks place step
the_day = record {
  come = refl;
  are_there = refl;
  unknown = refl;
  too_many = refl;
  is_free = refl;
  is_placed = refl;
  again = refl;
  other = refl;
  short = refl;
  blocked = refl;
  left = refl;
  holds = refl;
  came = refl;
  early = refl;
  is_cancelled = refl;
  cancelled_is = refl;
  holds_none = refl;
  is_reopened = refl;
  reopened_is = refl;
  reopened_short = refl;
  taken = refl;
}
