-- The definitions, computed on carts that are worked by hand, from the rows of a shop to the settled cart. Ids are decimal.
use Rattle.std.proofs.Common.{◌≡◌, ℕ, zero, suc, ◌+◌, ◌*◌, ℤ, pos, true, List, [], ◌∷◌, ◌++◌, Option, Some, None, refl}
use Rattle.std.specs.Prelude.{codes}
use Rattle.std.specs.Option.{option_map}
use Rattle.shop_defs.specs.declared.entity.Entity.{Entity}
use Rattle.shop_defs.specs.declared.entity.Entity.TheVariants as E
use Rattle.shop_defs.specs.declared.row.Row.{Row}
use Rattle.shop_defs.specs.declared.value.Value.{Value}
use Rattle.shop_defs.specs.declared.value.Value.TheVariants as V
use Rattle.shop_defs.specs.Tables.{fields_of}
use Rattle.row_fields.specs.Fields.{number_of}
use Rattle.shop_rules.specs.Leaves.{leaf_named}
use Rattle.trees.specs.Holding.{holds}
use Rattle.cart_price.specs.declared.priced.Block.{Block}
use Rattle.cart_price.specs.declared.priced.TaxSum.{TaxSum}
use Rattle.cart_sums.specs.Discounts.{take_off}
use Rattle.cart_process.specs.LinePrices.{line_price}
use Rattle.cart_process.specs.Priced.{priced}
use Rattle.cart_collect.specs.Collected.{collected}
use Rattle.cart_loop.specs.declared.state.State.{State}
use Rattle.cart_loop.specs.Settling.{state}
use Rattle.cart_loop.specs.Settled.{round_in}

abbrev row_of : Entity → ℕ → List (ℕ × Value) → Row
row_of entity id fields = record { key = record { entity = entity; version = 0; id = id; second = 0 }; fields = fields; ops = [] }

abbrev int : ℕ → Value
int n = V.Int (pos n)

-- what a round of cart 64 gives: the first, and so many rounds after it
abbrev after : List Row → ℕ → Option State
after rows k = option_map (λ lent. state (round_in rows lent (pos 0)) k) (collected rows 64)

abbrev goods_and_rules : Option State → Option (ℤ × List ℕ)
goods_and_rules given = option_map (λ s. (s.cart.goods, s.rules)) given

-- raw and total
abbrev to_pay : Option State → Option (ℤ × ℤ)
to_pay given = option_map (λ s. (s.cart.raw, s.cart.total)) given

abbrev taxes : Option State → Option (List TaxSum)
taxes given = option_map (λ s. s.cart.taxes) given

abbrev tax : ℕ → ℕ → ℕ → TaxSum
tax rate amount of = record { amount = pos amount; rate = rate; tax = pos of }

-- ---- two small shirts at 11900 with 19 %, and a parcel at 595

abbrev shirts : List Row
shirts =
    row_of E.Language 1 ((1, V.Text (codes "English")) ∷ [])
    ∷ row_of E.Tax 3 ((1, V.Text (codes "Standard")) ∷ (2, int 1900) ∷ [])
    ∷ row_of E.Product 32 ((2, V.Text (codes "SHIRT")) ∷ (3, V.Flag true) ∷ (4, V.Ident 3) ∷ (5, int 11900) ∷ (6, int 10000) ∷ (7, int 250) ∷ [])
    ∷ row_of E.Product 33 ((1, V.Ident 32) ∷ (2, V.Text (codes "SHIRT-S")) ∷ (3, V.Flag true) ∷ [])
    ∷ row_of E.Product 34 ((1, V.Ident 32) ∷ (2, V.Text (codes "SHIRT-L")) ∷ (3, V.Flag true) ∷ (5, int 13090) ∷ (6, int 11000) ∷ [])
    ∷ record { key = record { entity = E.ProductTranslation; version = 0; id = 32; second = 1 }; fields = (1, V.Text (codes "Shirt")) ∷ []; ops = [] }
    ∷ row_of E.ShippingMethod 48 ((1, V.Text (codes "Parcel")) ∷ (2, V.Flag true) ∷ (3, V.Ident 3) ∷ [])
    ∷ row_of E.ShippingPrice 49 ((1, V.Ident 48) ∷ (3, V.Text (codes "count")) ∷ (6, int 595) ∷ (7, int 500) ∷ [])
    ∷ row_of E.Cart 64 ((2, V.Text (codes "gross")) ∷ (3, V.Text (codes "horizontal")) ∷ (4, int 1) ∷ (7, V.Ident 48) ∷ [])
    ∷ row_of E.CartLine 65 ((1, V.Ident 64) ∷ (2, V.Ident 33) ∷ (3, int 2) ∷ (4, int 0) ∷ [])
    ∷ []

shirts_cost : goods_and_rules (after shirts 0) ≡ Some (pos 23800, [])
unfolding state priced line_price number_of fields_of take_off
shirts_cost = refl

shirts_paid : to_pay (after shirts 0) ≡ Some (pos 24395, pos 24395)
unfolding state priced line_price number_of fields_of take_off
shirts_paid = refl

shirts_taxed : taxes (after shirts 0) ≡ Some (tax 1900 24395 3895 ∷ [])
unfolding state priced line_price number_of fields_of take_off
shirts_taxed = refl

-- a second round changes nothing
shirts_settle : after shirts 1 ≡ after shirts 0
unfolding state priced line_price number_of fields_of take_off
shirts_settle = refl

-- ---- a piece at 10000 that a rule from 10000 on makes one at 9000

-- a rule that holds from that amount on, and the price of product 32 where it does
abbrev rule_of : ℕ → Row
rule_of i = row_of E.Rule (200 + i) ((1, V.Text (codes "rule")) ∷ (2, int i) ∷ [])

abbrev condition_of : ℕ → ℕ → Row
condition_of amount i = row_of E.RuleCondition (300 + i) ((1, V.Ident (200 + i)) ∷ (3, V.Text (codes "amount")) ∷ (4, int amount) ∷ [])

abbrev price_of : ℕ → ℕ → Row
price_of amount i = row_of E.ProductPrice (100 + i) ((1, V.Ident 32) ∷ (2, V.Ident (200 + i)) ∷ (3, int 1) ∷ (5, int amount) ∷ (6, int amount) ∷ [])

abbrev up_to : (ℕ → Row) → ℕ → List Row
up_to row zero = []
up_to row (suc n) = up_to row n ++ row (suc n) ∷ []

-- one piece of a product with that price, with so many rules
abbrev ruled : ℕ → (ℕ → Row) → (ℕ → Row) → ℕ → List Row
ruled price prices conditions n =
    row_of E.Tax 3 ((2, int 1900) ∷ [])
    ∷ row_of E.Product 32 ((3, V.Flag true) ∷ (4, V.Ident 3) ∷ (5, int price) ∷ (6, int price) ∷ [])
    ∷ (up_to prices n ++ (up_to rule_of n ++ (up_to conditions n
    ++ (row_of E.Cart 64 ((2, V.Text (codes "gross")) ∷ []) ∷ row_of E.CartLine 65 ((1, V.Ident 64) ∷ (2, V.Ident 32) ∷ (3, int 1) ∷ (4, int 0) ∷ []) ∷ []))))

abbrev swinging : List Row
swinging = ruled 10000 (price_of 9000) (condition_of 10000) 1

swings : goods_and_rules (after swinging 0) ≡ Some (pos 10000, 201 ∷ [])
unfolding state priced line_price number_of fields_of take_off leaf_named holds
swings = refl

swings_back : goods_and_rules (after swinging 1) ≡ Some (pos 9000, [])
unfolding state priced line_price number_of fields_of take_off leaf_named holds
swings_back = refl

swings_on : after swinging 2 ≡ after swinging 0
unfolding state priced line_price number_of fields_of take_off leaf_named holds
swings_on = refl

-- ---- rules that each raise the price to where the next one holds

abbrev rising : ℕ → List Row
rising n = ruled 1000 (λ i. price_of (1000 * (i + 1)) i) (λ i. condition_of (1000 * i) i) n

-- with five of them the sixth round's cart is the seventh's
five_rise : goods_and_rules (after (rising 5) 5) ≡ Some (pos 6000, 205 ∷ 204 ∷ 203 ∷ 202 ∷ 201 ∷ [])
unfolding state priced line_price number_of fields_of take_off leaf_named holds
five_rise = refl

five_not_before : goods_and_rules (after (rising 5) 4) ≡ Some (pos 5000, 205 ∷ 204 ∷ 203 ∷ 202 ∷ 201 ∷ [])
unfolding state priced line_price number_of fields_of take_off leaf_named holds
five_not_before = refl

five_settle : after (rising 5) 6 ≡ after (rising 5) 5
unfolding state priced line_price number_of fields_of take_off leaf_named holds
five_settle = refl

-- with six of them it isn't
six_rise : goods_and_rules (after (rising 6) 5) ≡ Some (pos 6000, 206 ∷ 205 ∷ 204 ∷ 203 ∷ 202 ∷ 201 ∷ [])
unfolding state priced line_price number_of fields_of take_off leaf_named holds
six_rise = refl

six_rise_on : goods_and_rules (after (rising 6) 6) ≡ Some (pos 7000, 206 ∷ 205 ∷ 204 ∷ 203 ∷ 202 ∷ 201 ∷ [])
unfolding state priced line_price number_of fields_of take_off leaf_named holds
six_rise_on = refl

-- ---- net: three pieces at 333 with 19 %, one at 500 with 7 %, a tenth off, rounded to 5

abbrev net_cart : List ℕ → List Row
net_cart mode =
    row_of E.Tax 3 ((2, int 1900) ∷ [])
    ∷ row_of E.Tax 4 ((2, int 700) ∷ [])
    ∷ row_of E.Product 32 ((3, V.Flag true) ∷ (4, V.Ident 3) ∷ (5, int 396) ∷ (6, int 333) ∷ [])
    ∷ row_of E.Product 33 ((3, V.Flag true) ∷ (4, V.Ident 4) ∷ (5, int 535) ∷ (6, int 500) ∷ [])
    ∷ row_of E.Promotion 144 ((1, V.Text (codes "Tenth")) ∷ (2, V.Flag true) ∷ (6, int 0) ∷ [])
    ∷ row_of E.PromotionDiscount 145 ((1, V.Ident 144) ∷ (2, V.Text (codes "cart")) ∷ (3, V.Text (codes "percent")) ∷ (4, int 1000) ∷ [])
    ∷ row_of E.Cart 64 ((2, V.Text (codes "net")) ∷ (3, V.Text mode) ∷ (4, int 5) ∷ [])
    ∷ row_of E.CartLine 65 ((1, V.Ident 64) ∷ (2, V.Ident 32) ∷ (3, int 3) ∷ (4, int 0) ∷ [])
    ∷ row_of E.CartLine 66 ((1, V.Ident 64) ∷ (2, V.Ident 33) ∷ (3, int 1) ∷ (4, int 1) ∷ [])
    ∷ []

vertical_taxed : taxes (after (net_cart (codes "vertical")) 0) ≡ Some (tax 700 450 32 ∷ tax 1900 899 171 ∷ [])
unfolding state priced line_price number_of fields_of take_off
vertical_taxed = refl

vertical_paid : to_pay (after (net_cart (codes "vertical")) 0) ≡ Some (pos 1552, pos 1550)
unfolding state priced line_price number_of fields_of take_off
vertical_paid = refl

horizontal_taxed : taxes (after (net_cart (codes "horizontal")) 0) ≡ Some (tax 700 450 31 ∷ tax 1900 899 171 ∷ [])
unfolding state priced line_price number_of fields_of take_off
horizontal_taxed = refl

horizontal_paid : to_pay (after (net_cart (codes "horizontal")) 0) ≡ Some (pos 1551, pos 1550)
unfolding state priced line_price number_of fields_of take_off
horizontal_paid = refl

abbrev blocks : Option State → Option (List Block)
blocks given = option_map (λ s. s.cart.blocks) given

-- no delivery is named, and that stands in the way of an order
no_method_blocks : blocks (after (net_cart (codes "horizontal")) 1) ≡ Some (record { cause = codes "no_method"; line = 64 } ∷ [])
unfolding state priced line_price number_of fields_of take_off
no_method_blocks = refl
