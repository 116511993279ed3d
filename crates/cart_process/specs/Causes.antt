-- What keeps a line, or the delivery, from being ordered, as it is shown.
use Rattle.std.specs.Prelude.{ℕ, List, codes}
use Rattle.cart_process.specs.declared.line_price.Cause.{Cause}
use Rattle.cart_process.specs.declared.line_price.Cause.TheVariants as C

abbrev pub cause_text : Cause → List ℕ
cause_text C.Absent = codes "absent"
cause_text C.Inactive = codes "inactive"
cause_text C.HasVariants = codes "has_variants"
cause_text C.NoPrice = codes "no_price"
cause_text C.NoTax = codes "no_tax"
cause_text C.BelowMin = codes "below_min"
cause_text C.AboveMax = codes "above_max"
cause_text C.NoMethod = codes "no_method"
cause_text C.MethodInactive = codes "method_inactive"
cause_text C.MethodRefused = codes "method_refused"
cause_text C.NoShippingPrice = codes "no_shipping_price"
