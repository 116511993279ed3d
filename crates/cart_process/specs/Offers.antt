-- What promotions offer to take off.
use Rattle.std.specs.Prelude.{ℕ, ℤ, Bool, true, ◌&&◌, List, [], ◌∷◌, if◌then◌else◌, Option, codes}
use Rattle.std.specs.List.{flat_map, list_any}
use Rattle.std.specs.Option.{option_map_or}
use lib.Signed.{le_z, lt_z}
use Rattle.shop_defs.specs.declared.entity.Entity.TheVariants as E
use Rattle.shop_defs.specs.declared.row.Row.{Row}
use Rattle.shop_defs.specs.declared.words.FieldName.TheVariants as N
use Rattle.row_fields.specs.Fields.{number_of, int_at, text_at, id_at, is_set, is_text_at}
use Rattle.cart_price.specs.Lent.{PromotionRows}
use Rattle.cart_sums.specs.declared.discounts.Offer.{Offer}
use Rattle.cart_sums.specs.declared.discounts.Reduction.{Reduction}
use Rattle.cart_sums.specs.declared.discounts.Reduction.TheVariants as R
use Rattle.cart_process.specs.Words.{count_at, meets_rule, or_nothing}

-- a code is among those that were given
abbrev pub has_code : List ℕ → Row → Bool
has_code text row = is_text_at row (number_of E.CartCode N.Code) text

abbrev pub is_given_text : List Row → List ℕ → Bool
is_given_text given text = list_any (has_code text) given

abbrev pub is_given : List Row → Option (List ℕ) → Bool
is_given given code = option_map_or (is_given_text given) code true

-- the moment isn't before the first that a promotion is for, and it is before the one that it ends at
abbrev pub has_begun : ℤ → Row → Bool
has_begun moment promotion = option_map_or (λ from. le_z from moment) (int_at promotion (number_of E.Promotion N.FromMoment)) true

abbrev pub goes_on : ℤ → Row → Bool
goes_on moment promotion = option_map_or (λ until. lt_z moment until) (int_at promotion (number_of E.Promotion N.UntilMoment)) true

-- a promotion counts: it is active, its code, if it has one, is given, the moment is one of its moments, and its rule, if it has
-- one, holds
abbrev pub counts : ℤ → List Row → List ℕ → Row → Bool
counts moment given rules promotion =
    is_set promotion (number_of E.Promotion N.Active)
    && is_given given (text_at promotion (number_of E.Promotion N.Code))
    && has_begun moment promotion
    && goes_on moment promotion
    && meets_rule rules (id_at promotion (number_of E.Promotion N.Rule))

-- what a discount lowers an amount by
abbrev pub reduction_of : Row → Reduction
reduction_of discount =
    let value = or_nothing (count_at discount (number_of E.PromotionDiscount N.Value)) in
    if is_text_at discount (number_of E.PromotionDiscount N.Kind) (codes "percent") then R.Percent value else R.Amount value

-- what a discount of a promotion offers, if it is of that scope
abbrev pub offers_in : List ℕ → Row → Row → List Offer
offers_in scope promotion discount =
    if is_text_at discount (number_of E.PromotionDiscount N.Scope) scope
    then record { promotion = promotion.key.id; discount = discount.key.id; reduction = reduction_of discount } ∷ []
    else []

abbrev pub all_in : List ℕ → Row → List Row → List Offer
all_in scope promotion discounts = flat_map (offers_in scope promotion) discounts

-- what a promotion offers of that scope, if it counts
abbrev pub offers_of : ℤ → List Row → List ℕ → List ℕ → PromotionRows → List Offer
offers_of moment given rules scope rows =
    if counts moment given rules rows.promotion then all_in scope rows.promotion rows.discounts else []

-- what the promotions that count offer of that scope, in their order
abbrev pub offers : ℤ → List Row → List ℕ → List ℕ → List PromotionRows → List Offer
offers moment given rules scope promotions = flat_map (offers_of moment given rules scope) promotions
