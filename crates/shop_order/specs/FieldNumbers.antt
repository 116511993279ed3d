-- The numbers of fields and the words that this crate has are those of the tables.
use Rattle.std.specs.Prelude.{◌≡◌, List, [], ◌∷◌, map}
use Rattle.shop_defs.specs.declared.entity.Entity.TheVariants as E
use Rattle.shop_defs.specs.declared.words.FieldName.TheVariants as N
use Rattle.shop_defs.specs.declared.words.Choice.TheVariants as C
use Rattle.shop_defs.specs.Texts.{choice_texts}
use Rattle.row_fields.specs.Fields.{number_of}
use Rattle.shop_order.specs.declared.numbers.TheConstants.{STOCK_AVAILABLE, STOCK_ADJUSTED, CART_TAX_STATE, ORDER_STATE, ORDER_PLACED, ORDER_TAX_STATE, ORDER_TOTAL, ORDER_TAX, ORDER_ROUNDING, LINE_KIND, LINE_PRODUCT, LINE_LABEL, LINE_QUANTITY, LINE_UNIT, LINE_TOTAL, LINE_RATE, TAX_AMOUNT, TAX_TAX}
use Rattle.shop_order.specs.declared.parts.LineKind.TheVariants as K
use Rattle.shop_order.specs.declared.states.OrderState.TheVariants as S
use Rattle.shop_order.specs.Parts.{kind_text}
use Rattle.shop_order.specs.States.{state_text}

pub record AreOfTheTables : Type 0 where
  pub available : number_of E.Stock N.Available ≡ STOCK_AVAILABLE
  pub adjusted : number_of E.Stock N.Adjusted ≡ STOCK_ADJUSTED
  pub cart_tax_state : number_of E.Cart N.TaxState ≡ CART_TAX_STATE
  pub state : number_of E.Order N.State ≡ ORDER_STATE
  pub placed : number_of E.Order N.Placed ≡ ORDER_PLACED
  pub tax_state : number_of E.Order N.TaxState ≡ ORDER_TAX_STATE
  pub total : number_of E.Order N.Total ≡ ORDER_TOTAL
  pub tax : number_of E.Order N.Tax ≡ ORDER_TAX
  pub rounding : number_of E.Order N.Rounding ≡ ORDER_ROUNDING
  pub line_kind : number_of E.OrderLine N.Kind ≡ LINE_KIND
  pub line_product : number_of E.OrderLine N.Product ≡ LINE_PRODUCT
  pub line_label : number_of E.OrderLine N.Label ≡ LINE_LABEL
  pub line_quantity : number_of E.OrderLine N.Quantity ≡ LINE_QUANTITY
  pub line_unit : number_of E.OrderLine N.Unit ≡ LINE_UNIT
  pub line_total : number_of E.OrderLine N.Total ≡ LINE_TOTAL
  pub line_rate : number_of E.OrderLine N.Rate ≡ LINE_RATE
  pub tax_amount : number_of E.OrderTax N.Amount ≡ TAX_AMOUNT
  pub tax_tax : number_of E.OrderTax N.Tax ≡ TAX_TAX
  pub states : map state_text (S.Open ∷ S.InProgress ∷ S.Completed ∷ S.Cancelled ∷ []) ≡ choice_texts C.OrderState
  pub kinds : map kind_text (K.Product ∷ K.Discount ∷ K.Delivery ∷ K.DeliveryDiscount ∷ []) ≡ choice_texts C.LineKind
