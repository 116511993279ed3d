-- Which price rows count.
use Rattle.std.proofs.Common.{◌≡◌, ◌≢◌, List, [], ◌∷◌, Option, Some, None, refl, sym, ap, ◌∙◌}
use denote.Ref.{Bor}
use Rattle.shop_defs.specs.declared.row.Row.{Row}
use Rattle.cart_price.specs.Lent.{lent_rows}
use Rattle.cart_collect.specs.Collected.{or_parents}

pub own_count : (rows : List Row) (parent : Option Row) (own : List (Bor Row)) → own ≢ [] → lent_rows own ≡ or_parents rows parent (lent_rows own)
own_count rows parent [] some = absurd (some refl)
own_count rows parent (price ∷ prices) some = refl
