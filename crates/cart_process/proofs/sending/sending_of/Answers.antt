use Rattle.std.proofs.Common.{IfSome}
use Rattle.std.specs.Option.{option_copied}
use Rattle.shop_defs.specs.declared.entity.Entity.TheVariants as E
use Rattle.row_fields.specs.Checked.{IsRowOf}
use Rattle.cart_price.specs.Lent.{lent_rows}
use Rattle.cart_process.proofs.Bounds.{shipping-kept}
use Rattle.cart_process.proofs.Ranges.{shipped_of-fits}
use Rattle.cart_process.proofs.sending.sending_of.Goals as goal

pub cost_of-requires : goal.cost_of-requires
cost_of-requires c =
    let price : IfSome (option_copied c.shipping_price-price.result) (IsRowOf E.ShippingPrice) =
    rw (c.shipping_price-price.ensures, c.as_slice.ensures) (shipping-kept (IsRowOf E.ShippingPrice) c.args.rules.now c.args.measures.now (lent_rows c.args.lent.now.shipping) c.requires.kept.shipping) in
    rw c.shipped_of-shipped.ensures (shipped_of-fits c.args.state (option_copied c.args.lent.now.method_tax) c.args.measures.now c.cause_of-cause.result (option_copied c.shipping_price-price.result) c.requires.kept.method_tax price)

pub returns-clause-fits : goal.returns-clause-fits
returns-clause-fits c =
    let price : IfSome (option_copied c.shipping_price-price.result) (IsRowOf E.ShippingPrice) =
    rw (c.shipping_price-price.ensures, c.as_slice.ensures) (shipping-kept (IsRowOf E.ShippingPrice) c.args.rules.now c.args.measures.now (lent_rows c.args.lent.now.shipping) c.requires.kept.shipping) in
    record {
      shipped = rw c.shipped_of-shipped.ensures (shipped_of-fits c.args.state (option_copied c.args.lent.now.method_tax) c.args.measures.now c.cause_of-cause.result (option_copied c.shipping_price-price.result) c.requires.kept.method_tax price);
      taken = rw c.cost_of.ensures.value at c.in_ok-taken.ensures.within;
    }
