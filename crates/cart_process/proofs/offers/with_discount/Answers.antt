use Rattle.std.proofs.Common.{◌≡◌, false, sym, append-nil, arith}
use Rattle.shop_defs.specs.declared.entity.Entity.TheVariants as E
use Rattle.shop_defs.specs.declared.words.FieldName.TheVariants as N
use Rattle.row_fields.specs.Fields.{is_text_at, number_of}
use Rattle.cart_process.proofs.FieldNumbers.{discount_scope}
use Rattle.cart_process.proofs.offers.with_discount.Goals as goal

pub returns-then-not-is_text_at : goal.returns-then-not-is_text_at
returns-then-not-is_text_at c =
    let no : is_text_at c.args.discount.now (number_of E.PromotionDiscount N.Scope) c.args.scope.now ≡ false = rw discount_scope (grind (arith, c.is_text_at.ensures, c.if-not-is_text_at.true)) in
    rw no (sym (append-nil c.args.found.items))
