-- The numbers and the words, computed.
use Rattle.std.proofs.Common.{refl}
use Rattle.shop_defs.specs.Tables.{fields_of}
use Rattle.row_fields.specs.Fields.{number_of}
use Rattle.shop_order.specs.FieldNumbers.{AreOfTheTables}

pub of_the_tables : AreOfTheTables
unfolding number_of fields_of
of_the_tables = record {
  available = refl;
  adjusted = refl;
  cart_tax_state = refl;
  state = refl;
  placed = refl;
  tax_state = refl;
  total = refl;
  tax = refl;
  rounding = refl;
  line_kind = refl;
  line_product = refl;
  line_label = refl;
  line_quantity = refl;
  line_unit = refl;
  line_total = refl;
  line_rate = refl;
  tax_amount = refl;
  tax_tax = refl;
  states = refl;
  kinds = refl;
}
