-- Rows that fit one another are what any upsert asks for.
use Rattle.shop_defs.specs.declared.op.Op.{Op}
use Rattle.shop_operations.specs.Soundness.{IsCoherent}
use Rattle.shop_operations.specs.Views.{View}
use Rattle.shop_write.specs.Writes.{TakesUpsert}

pub coherent_takes : (view : View) (op : Op) → IsCoherent view → TakesUpsert view op
coherent_takes view op coherent = record { formed = coherent.formed; shallow = λ given live. coherent.shallow }
