-- The definitions, computed on carts that are worked by hand.
use Rattle.std.specs.Prelude.{◌≡◌, ℕ, ℤ, pos, negsuc, List, [], ◌∷◌, refl}
use Rattle.cart_price.specs.declared.priced.Discount.{Discount}
use Rattle.cart_price.specs.declared.priced.TaxMode.TheVariants.{Horizontal, Vertical}
use Rattle.cart_price.specs.declared.priced.TaxState.TheVariants.{Gross, Net}
use Rattle.cart_price.specs.declared.priced.TaxSum.{TaxSum}
use Rattle.cart_sums.specs.declared.discounts.Offer.{Offer}
use Rattle.cart_sums.specs.declared.discounts.Reduction.{Reduction}
use Rattle.cart_sums.specs.declared.discounts.Reduction.TheVariants.{Amount, Percent}
use Rattle.cart_sums.specs.declared.discounts.Taken.{Taken}
use Rattle.cart_sums.specs.Discounts.{take_all, take_off}
use Rattle.cart_sums.specs.Positions.{Positions, goods_less, tax_sums, taken_at}

offer : Reduction → Offer
offer reduction = record { promotion = 7; discount = 8; reduction = reduction }

discount : ℕ → Discount
discount amount = record { amount = pos amount; discount = 8; promotion = 7 }

tax : ℕ → ℕ → ℕ → TaxSum
tax rate amount of = record { amount = pos amount; rate = rate; tax = pos of }

-- three pieces at 333 with 19 % and one at 500 with 7 %, net: a tenth off is 150
a_tenth : take_all 1499 (offer (Percent 1000) ∷ []) ≡ record { left = 1349; discounts = discount 150 ∷ [] }
unfolding take_off offer discount
a_tenth = refl

-- of which 100 come off the 999 and 50 off the 500
a_tenth_shared : goods_less ((1900, pos 999) ∷ (700, pos 500) ∷ []) (discount 150 ∷ []) ≡ (1900, pos 999) ∷ (700, pos 500) ∷ (700, negsuc 49) ∷ (1900, negsuc 99) ∷ []
unfolding discount
a_tenth_shared = refl

net_vertical : tax_sums Net Vertical ((1900, pos 999) ∷ (700, pos 500) ∷ (700, negsuc 49) ∷ (1900, negsuc 99) ∷ []) ≡ tax 700 450 32 ∷ tax 1900 899 171 ∷ []
unfolding tax
net_vertical = refl

net_horizontal : tax_sums Net Horizontal ((1900, pos 999) ∷ (700, pos 500) ∷ (700, negsuc 49) ∷ (1900, negsuc 99) ∷ []) ≡ tax 700 450 31 ∷ tax 1900 899 171 ∷ []
unfolding tax
net_horizontal = refl

-- two pieces at 11900 and a delivery of 595, gross, both with 19 %
gross_delivered : tax_sums Gross Horizontal ((1900, pos 23800) ∷ (1900, pos 595) ∷ []) ≡ tax 1900 24395 3895 ∷ []
unfolding tax
gross_delivered = refl

-- more is offered than there is: first all but 100 of 1000, then twice half of what is left, then all of it, then nothing
all_taken : take_all 1000 (offer (Amount 900) ∷ offer (Percent 5000) ∷ offer (Percent 5000) ∷ offer (Percent 20000) ∷ offer (Amount 10) ∷ [])
    ≡ record { left = 0; discounts = discount 900 ∷ discount 50 ∷ discount 25 ∷ discount 25 ∷ [] }
unfolding take_off offer discount
all_taken = refl

-- a delivery with two discounts at its rate
delivery_less : tax_sums Net Horizontal ((1900, pos 500) ∷ taken_at 1900 (discount 50 ∷ discount 450 ∷ [])) ≡ tax 1900 0 0 ∷ []
unfolding discount tax
delivery_less = refl

-- rounded one by one the taxes of what is taken off come to more than those of what is added: none is left
none_below : tax_sums Net Horizontal ((1000, pos 14) ∷ (1000, negsuc 4) ∷ (1000, negsuc 4) ∷ []) ≡ tax 1000 4 0 ∷ []
unfolding tax
none_below = refl
