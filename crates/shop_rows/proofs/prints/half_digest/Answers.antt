use Rattle.std.proofs.Common.{[], ap, ◌∙◌}
use Rattle.shop_rows.specs.Prints.{first_half}
use Rattle.shop_rows.proofs.prints.half_digest.Goals as goal

pub returns : goal.returns
returns c =
    let entity = c.update.ensures [] c.new-hasher.ensures in
    let version = c.update-2.ensures _ entity in
    let whole = c.with_fields-hasher.ensures _ version in
    let digest = c.finalize.ensures _ whole in
    c.first_half.ensures ∙ ap first_half (rw (c.number.ensures, c.to_be_bytes.ensures, c.fields_of.ensures) at digest)
